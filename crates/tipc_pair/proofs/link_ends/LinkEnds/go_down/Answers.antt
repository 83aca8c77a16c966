use Rattle.std.proofs.Common.{◌∙◌, ap}
use Rattle.tipc_pair.specs.declared.transitions.Transition.TheVariants.{LinkDown}
use Rattle.tipc_pair.specs.Changeovers.{gone_down, shown_with}
use Rattle.tipc_pair.specs.Facing.{PairEnds}
use Rattle.tipc_pair.proofs.Followings.{told_first}
use Rattle.tipc_pair.proofs.link_ends.LinkEnds.go_down.Goals as goal

pub returns-clause-adds : goal.returns-clause-adds
returns-clause-adds c =
    let x = c.args.self.now in
    told_first c.fail_over_or_end.result c.args.event.now c.tell.new.self c.fail_over_or_end.new.event (LinkDown c.self.inside.bearer c.args.cause c.shown_with.result)
    (LinkDown x.bearer c.args.cause (shown_with c.args.cause c.args.epoch)) (gone_down x)
    (ap (λ n. LinkDown n c.args.cause c.shown_with.result) (ap (λ (v : PairEnds). v.bearer) c.self.view_is) ∙ ap (λ n. LinkDown x.bearer c.args.cause n) c.shown_with.ensures)
    c.in_ok-tell.ensures c.fail_over_or_end.ensures.adds
