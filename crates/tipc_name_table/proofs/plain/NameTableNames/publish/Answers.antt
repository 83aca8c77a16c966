use Rattle.std.proofs.Common.{◌≡◌, ◌<◌, false, List, sym, ap, subst, ◌∙◌, arith}
use Rattle.std.specs.Prelude.{insert, count_by}
use Rattle.std.specs.List.{list_any}
use Rattle.tipc_types.specs.Address.{IsNodeWord}
use Rattle.tipc_types.specs.declared.services.Publication.{Publication}
use Rattle.tipc_types.specs.Tables.{is_named, is_of, put, AreOfCluster, IsTable}
use Rattle.tipc_types.proofs.Places.{all_put}
use Rattle.tipc_name_table.proofs.TableLaws.{table_put}
use Rattle.tipc_name_table.proofs.plain.NameTableNames.publish.Goals as goal

pub invariant_of-self-2 : goal.invariant_of-self-2
invariant_of-self-2 c =
    let p = c.args.p in
    let ps = c.self.inside.held.items in
    let stands = subst (λ (xs : List Publication). insert xs c.place_for-at.result p ≡ put p xs) c.as_slice-3.ensures.value c.place_for-at.ensures.put in
    let unheld : list_any (is_named p.at.node.word p.key) ps ≡ false = ap (λ (xs : List Publication). list_any (is_named p.at.node.word p.key) xs) (sym c.as_slice.ensures.value) ∙ sym c.is_held.ensures ∙ c.if-is_held.false in
    let count = c.count_of.ensures ∙ ap (λ (xs : List Publication). count_by (is_of p.at.node.word) xs) c.as_slice-2.ensures.value in
    let room : count_by (is_of p.at.node.word) ps < 1024 = omega (arith, count, c.if-count_of-ge-MOST_PUBLICATIONS.false) in
    subst (λ (xs : List Publication). IsTable xs × AreOfCluster xs) (sym (c.in_ok-insert.ensures.items ∙ stands))
    (table_put p ps c.self.invariant.0 unheld room, all_put (λ q. IsNodeWord q.at.node.word) p ps c.requires c.self.invariant.1)

pub returns-clause-sound : goal.returns-clause-sound
returns-clause-sound c = (invariant_of-self-2 c).0
