use Rattle.std.proofs.Common.{◌≡◌, length}
use Rattle.tipc_work_tests.proofs.runs.clocks.Given as goal

-- so many clocks are made
abbrev pub invariant-loop : goal.invariant-loop
invariant-loop g l = length l.clocks.items ≡ l.counter
