use Rattle.tipc_node_lock.specs.Locks.{IsPassOf}
use Rattle.tipc_live_tests.proofs.plays.carry.Given as goal

abbrev pub invariant-loop-sent : goal.invariant-loop-sent
invariant-loop-sent g l = IsPassOf l.to.lock l.to.pass
