use Rattle.std.proofs.Common.{sym}
use Rattle.std.proofs.Math.Path.{subst₃}
use Rattle.tipc_name_index.specs.Ranges.{IsIndex}
use Rattle.tipc_name_index.proofs.Indexed.{index_none}
use Rattle.tipc_name_index.proofs.index.NameIndex.new.Goals as goal

pub invariant_of-result : goal.invariant_of-result
invariant_of-result c = subst₃ IsIndex (sym c.new.ensures.items) (sym c.new-2.ensures.items) (sym c.new-3.ensures.items) index_none
