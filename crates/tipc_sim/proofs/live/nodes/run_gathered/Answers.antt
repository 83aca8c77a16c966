use Rattle.std.proofs.Common.{◌*◌, ◌∙◌, ap, subst, sym, take}
use Rattle.tipc_sim.specs.LiveRuns.{AreNodesInOrder, HasRun, IsLeftByRun}
use Rattle.tipc_sim.proofs.LiveNodeLaws.{has_run}
use Rattle.tipc_sim.proofs.live.nodes.run_gathered.Goals as goal

pub returns-clause-ran : goal.returns-clause-ran
returns-clause-ran g c =
    let front = c.truncate-2.ensures.items ∙ ap (λ k. take (2 * k) c.args.bearers.items) c.from-2.ensures in
    let left =
    subst (λ bs. IsLeftByRun g.B.Bearer.tried g.B.Bearer.given g.B.Bearer.faults c.args.plan.now bs c.in_ok-nodes.field-0.nodes.items c.in_ok-nodes.field-0.failed c.in_ok-nodes.field-0.bearers.items)
    front c.in_ok-nodes.ensures in
    let own = subst (λ ns. AreNodesInOrder ns) c.as_slice.ensures.value (c.are_in_order.ensures.0 c.if-not-are_in_order.false) in
    subst (λ h. HasRun g.B.Bearer.tried g.B.Bearer.given g.B.Bearer.faults c.args.plan.now c.args.bearers.items h c.in_ok-nodes.field-0.failed) (sym c.gather.ensures)
    (has_run g.B.Bearer.tried g.B.Bearer.given g.B.Bearer.faults c.args.plan.now c.args.bearers.items c.args.gathered.now c.in_ok-nodes.field-0.nodes.items c.in_ok-nodes.field-0.failed
    c.in_ok-nodes.field-0.bearers.items left own)
