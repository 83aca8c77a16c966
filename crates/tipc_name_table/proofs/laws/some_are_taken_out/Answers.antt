use Rattle.std.proofs.Common.{not}
use Rattle.tipc_types.specs.Tables.{is_named, is_of}
use Rattle.tipc_name_table.proofs.TableLaws.{filters_commute}
use Rattle.tipc_name_table.proofs.laws.some_are_taken_out.Goals as goal

pub returns : goal.returns
returns c = record {
  withdrawn = λ test node key. filters_commute test (λ p. not (is_named node key p));
  purged = λ test node. filters_commute test (λ p. not (is_of node p));
}
