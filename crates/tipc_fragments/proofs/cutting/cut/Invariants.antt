use Rattle.std.specs.Prelude.{◌≡◌}
use Rattle.tipc_fragments.proofs.CutLaws.{first_packets}
use Rattle.tipc_fragments.proofs.cutting.cut.Given as goal

-- the packets of the fragments so far
abbrev pub invariant-loop-before : goal.invariant-loop-before
invariant-loop-before l = l.packets ≡ first_packets l.message l.before
