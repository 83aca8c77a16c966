use Rattle.tipc_node_lock.specs.Locks.{IsPassOf}
use Rattle.tipc_live_tests.proofs.aged.send_all.Given as goal

abbrev pub invariant-loop : goal.invariant-loop
invariant-loop g l = IsPassOf l.node.lock l.node.pass
