use Rattle.std.proofs.Common.{List, not, sym, subst}
use Rattle.tipc_types.specs.Address.{IsNodeWord}
use Rattle.tipc_types.specs.declared.services.Publication.{Publication}
use Rattle.tipc_types.specs.Tables.{is_named, AreOfCluster, IsTable}
use Rattle.tipc_types.proofs.Places.{all_kept}
use Rattle.tipc_name_table.proofs.TableLaws.{table_kept}
use Rattle.tipc_name_table.proofs.plain.NameTableNames.withdraw.Goals as goal

pub invariant_of-self : goal.invariant_of-self
invariant_of-self c =
    let kept = λ (p : Publication). not (is_named c.args.node.word c.args.key p) in
    let held = c.self.inside.held.items in
    subst (λ (ps : List Publication). IsTable ps × AreOfCluster ps) (sym c.remove_named.ensures)
    (table_kept kept held c.self.invariant.0, all_kept (λ p. IsNodeWord p.at.node.word) kept held c.self.invariant.1)

pub returns-clause-sound : goal.returns-clause-sound
returns-clause-sound c = (invariant_of-self c).0
