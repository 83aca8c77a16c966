use Rattle.tipc_node_lock.specs.Locks.{IsPassOf}
use Rattle.tipc_live_tests.proofs.calls.make_all.Given as goal

abbrev pub invariant-loop-call : goal.invariant-loop-call
invariant-loop-call g l = IsPassOf l.node.lock l.node.pass
