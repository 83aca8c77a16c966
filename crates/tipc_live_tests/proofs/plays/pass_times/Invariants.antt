use Rattle.tipc_node_lock.specs.Locks.{IsPassOf}
use Rattle.tipc_live_tests.proofs.plays.pass_times.Given as goal

abbrev pub invariant-loop : goal.invariant-loop
invariant-loop g l = IsPassOf l.one.lock l.one.pass × IsPassOf l.two.lock l.two.pass
