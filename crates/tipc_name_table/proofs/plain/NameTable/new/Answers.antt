use Rattle.std.proofs.Common.{List, sym, subst}
use Rattle.tipc_types.specs.declared.services.Publication.{Publication}
use Rattle.tipc_types.specs.Tables.{AreOfCluster, IsTable}
use Rattle.tipc_name_table.proofs.TableLaws.{table_none}
use Rattle.tipc_name_table.proofs.plain.NameTable.new.Goals as goal

pub invariant_of-result : goal.invariant_of-result
invariant_of-result c = subst (λ (ps : List Publication). IsTable ps × AreOfCluster ps) (sym c.new.ensures.items) (table_none, tt)
