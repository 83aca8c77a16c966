use Rattle.std.specs.Prelude.{vec_capacity}
use Rattle.tipc_name_dist.proofs.Applied.{IsLearning}
use Rattle.tipc_name_dist.proofs.applying.learn_all.Given as goal

abbrev pub invariant-loop-place : goal.invariant-loop-place
invariant-loop-place g l = IsLearning l.from.word (g.N.Names.table l.fn.names) l.items (g.N.Names.table l.names) l.learned.items (vec_capacity l.learned) l.place
