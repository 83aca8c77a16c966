use Rattle.tipc_node_lock.specs.Locks.{IsPassOf}
use Rattle.tipc_live_tests.proofs.plays.play_all.Given as goal

abbrev pub invariant-loop-act : goal.invariant-loop-act
invariant-loop-act g l = IsPassOf l.one.lock l.one.pass × IsPassOf l.two.lock l.two.pass
