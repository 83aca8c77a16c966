use Rattle.tipc_node_lock.specs.Locks.{IsPassOf}
use Rattle.tipc_lock_tests.proofs.crowds.call_once.Given as goal

abbrev pub invariant-loop-port : goal.invariant-loop-port
invariant-loop-port g l = IsPassOf l.lock l.pass
