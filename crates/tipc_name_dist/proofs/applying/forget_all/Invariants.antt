use Rattle.std.specs.Prelude.{vec_capacity}
use Rattle.tipc_name_dist.proofs.Applied.{IsForgetting}
use Rattle.tipc_name_dist.proofs.applying.forget_all.Given as goal

abbrev pub invariant-loop-place : goal.invariant-loop-place
invariant-loop-place g l = IsForgetting l.from.word (g.N.Names.table l.fn.names) l.items (g.N.Names.table l.names) l.forgotten.items (vec_capacity l.forgotten) l.place
