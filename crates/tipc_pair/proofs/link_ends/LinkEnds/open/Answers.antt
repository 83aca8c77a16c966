use Rattle.std.proofs.Common.{sym, subst}
use Rattle.tipc_recv_window.specs.declared.outcomes.LinkOutcome.{LinkOutcome}
use Rattle.tipc_pair.specs.declared.changes.PairOutcome.{PairOutcome}
use Rattle.tipc_pair.specs.PairArrivals.{deferred, ignored}
use Rattle.tipc_pair.specs.PairOpenings.{Opens}
use Rattle.tipc_pair.proofs.Openings.{rests_open}
use Rattle.tipc_pair.proofs.link_ends.LinkEnds.open.Goals as goal

pub returns-in-Deferred : goal.returns-in-Deferred
returns-in-Deferred c =
    let x = c.args.self.now in
    let a = c.args.event.now in
    subst (λ o. Opens x o PairOutcome.Deferred x a a) (sym c.in-Deferred.is) (rests_open x a LinkOutcome.Deferred PairOutcome.Deferred deferred)

pub returns-in-Ignored : goal.returns-in-Ignored
returns-in-Ignored c =
    let x = c.args.self.now in
    let a = c.args.event.now in
    let why = c.in-Ignored.why in
    subst (λ o. Opens x o (PairOutcome.Ignored why) x a a) (sym c.in-Ignored.is) (rests_open x a (LinkOutcome.Ignored why) (PairOutcome.Ignored why) ignored)
