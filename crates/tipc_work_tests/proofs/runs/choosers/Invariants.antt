use Rattle.std.specs.List.{All}
use Rattle.std.proofs.Common.{◌≡◌, length}
use Rattle.tipc_work_tests.proofs.runs.choosers.Given as goal

-- so many choosers are made, all at turn 0
abbrev pub invariant-loop : goal.invariant-loop
invariant-loop g l = (length l.choosers.items ≡ l.counter) × All (λ chooser. chooser.turn ≡ 0) l.choosers.items
