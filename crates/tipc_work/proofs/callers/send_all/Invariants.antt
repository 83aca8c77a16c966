use Rattle.std.proofs.Common.{◌*◌, true}
use Rattle.tipc_node_lock.specs.Locks.{IsPassOf}
use Rattle.tipc_work.specs.Called.{DrawsFor, IsSameCaller, SendsMany}
use Rattle.tipc_work.specs.Plans.{named_send}
use Rattle.tipc_work.proofs.callers.send_all.Given as goal

-- the messages before are sent
abbrev pub invariant-loop-number : goal.invariant-loop-number
invariant-loop-number g l =
    SendsMany (named_send l.post.plan.now l.post.node l.caller l.port) l.number l.fn.worker l.worker true
    × IsSameCaller l.fn.worker l.worker
    × IsPassOf l.post.lock.now l.worker
    × DrawsFor (1000 * l.number) l.fn.worker l.worker
