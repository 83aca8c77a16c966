use Rattle.tipc_node_lock.specs.Locks.{IsPassOf}
use Rattle.tipc_lock_tests.proofs.inboxes.sends_all.Given as goal

abbrev pub invariant-loop-number : goal.invariant-loop-number
invariant-loop-number g l = IsPassOf l.lock l.pass
