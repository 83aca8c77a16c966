use Rattle.std.proofs.Common.{map, subst}
use Rattle.tipc_work.specs.Worked.{HaveWorked}
use Rattle.tipc_sim.proofs.LiveNodeLaws.{left_by_run, one_per_caller_of_run}
use Rattle.tipc_sim.proofs.live.nodes.run_nodes.Goals as goal

pub take_out-requires : goal.take_out-requires
take_out-requires g c =
    one_per_caller_of_run g.B.Bearer.tried g.B.Bearer.given g.B.Bearer.faults c.args.plan.now c.in_ok-locks.field-0.locks.items c.args.bearers.items _
    c.in_ok-passes.field-0.failed c.in_ok-passes.field-0.bearers.items c.in_ok-locks.ensures.can.lock_count c.requires.bearers c.in_ok-locks.ensures.callers
    (subst (λ ls. HaveWorked g.B.Bearer.tried g.B.Bearer.given g.B.Bearer.faults c.args.plan.now ls c.args.bearers.items (map (λ v. v.items) c.in_ok-passes.field-0.passes.items)
    c.in_ok-passes.field-0.failed c.in_ok-passes.field-0.bearers.items) c.as_slice.ensures.value c.in_ok-passes.ensures.worked)

pub returns : goal.returns
returns g c =
    left_by_run g.B.Bearer.tried g.B.Bearer.given g.B.Bearer.faults c.args.plan.now c.in_ok-locks.field-0.locks.items _ _ _ c.args.bearers.items
    c.in_ok-nodes.nodes.items _ c.in_ok-passes.field-0.failed c.in_ok-passes.field-0.bearers.items c.in_ok-locks.ensures.can
    (subst (λ ls. HaveWorked g.B.Bearer.tried g.B.Bearer.given g.B.Bearer.faults c.args.plan.now ls c.args.bearers.items (map (λ v. v.items) c.in_ok-passes.field-0.passes.items)
    c.in_ok-passes.field-0.failed c.in_ok-passes.field-0.bearers.items) c.as_slice.ensures.value c.in_ok-passes.ensures.worked)
    c.in_ok-nodes.ensures
