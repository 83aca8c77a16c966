use Rattle.std.proofs.Common.{◌≤◌}
use Rattle.tipc_node_lock.specs.Locks.{IsPassOf}
use Rattle.tipc_work.specs.Called.{DrawsFor, IsSameCaller}
use Rattle.tipc_work.specs.Plans.{named_send}
use Rattle.tipc_work.proofs.Sending.{AreTried}
use Rattle.tipc_work.proofs.callers.send_one.Given as goal

-- the tries so far say to try again
abbrev pub invariant-loop : goal.invariant-loop
invariant-loop g l =
    AreTried (named_send l.post.plan.now l.post.node l.caller l.port l.number) l.counter l.fn.worker l.worker
    × IsSameCaller l.fn.worker l.worker
    × IsPassOf l.post.lock.now l.worker
    × DrawsFor l.counter l.fn.worker l.worker
    × (l.counter ≤ 1000)
