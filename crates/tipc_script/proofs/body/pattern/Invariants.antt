use Rattle.std.specs.Prelude.{◌≡◌}
use Rattle.tipc_script.specs.Kinds.{pattern}
use Rattle.tipc_script.proofs.body.pattern.Given as goal

abbrev pub invariant-loop-place : goal.invariant-loop-place
invariant-loop-place l = l.bytes ≡ pattern l.place
