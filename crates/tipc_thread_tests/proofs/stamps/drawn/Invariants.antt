use Rattle.std.proofs.Common.{◌≡◌}
use Rattle.tipc_thread_tests.proofs.stamps.drawn.Given as goal

abbrev pub invariant-loop-slot : goal.invariant-loop-slot
invariant-loop-slot l = l.seat.of_table ≡ l.stamps
