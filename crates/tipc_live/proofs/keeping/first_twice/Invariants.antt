use Rattle.std.proofs.Common.{map}
use Rattle.tipc_live.specs.Keeping.{stamp_of}
use Rattle.tipc_live.proofs.Twins.{RiseTo}
use Rattle.tipc_live.proofs.keeping.first_twice.Given as goal

abbrev pub invariant-loop-place : goal.invariant-loop-place
invariant-loop-place l = RiseTo (map stamp_of l.steps) l.place
