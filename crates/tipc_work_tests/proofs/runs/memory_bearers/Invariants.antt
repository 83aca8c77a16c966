use Rattle.std.proofs.Common.{◌≡◌, length}
use Rattle.tipc_work_tests.proofs.runs.memory_bearers.Given as goal

-- so many bearers are made
abbrev pub invariant-loop-place : goal.invariant-loop-place
invariant-loop-place g l = length l.bearers.items ≡ l.place
