use Rattle.std.proofs.Common.{◌≡◌, length}
use Rattle.tipc_name_dist.specs.Applying.{undone}
use Rattle.tipc_name_dist.proofs.applying.take_back.Given as goal

abbrev pub invariant-loop-p : goal.invariant-loop-p
invariant-loop-p g l =
    undone l.from.word l.learned.items (g.N.Names.table l.names) ≡ undone l.from.word l.initial.learned.items (g.N.Names.table l.initial.names)

abbrev pub decreases-loop-p : goal.decreases-loop-p
decreases-loop-p g l = length l.learned.items
