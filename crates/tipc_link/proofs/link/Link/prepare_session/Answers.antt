use Rattle.std.proofs.Common.{sym, ◌∙◌}
use Rattle.tipc_link.proofs.Arrivals.{arriving_stays}
use Rattle.tipc_link.proofs.link.Link.prepare_session.Goals as goal

pub returns-in-Stay-clause-arriving : goal.returns-in-Stay-clause-arriving
returns-in-Stay-clause-arriving c =
    arriving_stays c.prepare_more.result c.args.self.now _ c.args.fsm.now c.args.change c.args.by c.in-Stay.is (sym c.is_heard.ensures.value ∙ c.if-not-is_heard.false)
    c.prepare_more.ensures.by c.prepare_more.ensures.hearing c.prepare_more.ensures.outcome
