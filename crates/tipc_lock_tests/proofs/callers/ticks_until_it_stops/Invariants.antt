use Rattle.tipc_node_lock.specs.Locks.{IsPassOf}
use Rattle.tipc_lock_tests.proofs.callers.ticks_until_it_stops.Given as goal

abbrev pub invariant-loop : goal.invariant-loop
invariant-loop g l = IsPassOf l.lock l.pass
