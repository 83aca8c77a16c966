use Rattle.std.proofs.Common.{List, ◌∷◌, ◌++◌, filter, not, sym, ap, ap₂, ◌∙◌}
use Rattle.std.specs.Prelude.{insert}
use Rattle.tipc_types.specs.declared.services.Publication.{Publication}
use Rattle.tipc_types.specs.Tables.{stands_before}
use Rattle.tipc_name_index.specs.Ranges.{begins_before, name_before}
use Rattle.tipc_name_index.proofs.Places.{put_is}
use Rattle.tipc_name_index.proofs.changes.put_each.Goals as goal

pub returns-clause-held : goal.returns-clause-held
returns-clause-held c =
    let p = c.args.p.now in
    let ps = c.args.held.now.items in
    let at = c.place_for-at.result in
    c.in_ok-insert.ensures.items ∙ ap (λ (qs : List Publication). insert qs at p) (sym c.as_slice.ensures.value)
    ∙ ap₂ (λ (xs ys : List Publication). xs ++ p ∷ ys) c.place_for-at.ensures.before c.place_for-at.ensures.behind
    ∙ ap (λ (qs : List Publication). filter (λ q. stands_before q p) qs ++ p ∷ filter (λ q. not (stands_before q p)) qs) c.as_slice.ensures.value
    ∙ put_is p ps c.requires.held

pub returns-clause-ranges : goal.returns-clause-ranges
returns-clause-ranges c =
    let p = c.args.p.now in
    let before = λ (q : Publication). begins_before q p in
    c.in-Ok-insert.ensures.items ∙ ap (λ (qs : List Publication). insert qs c.range_place_for-at.result p) (sym c.as_slice-2.ensures.value) ∙ ap₂ (λ (xs ys : List Publication). xs ++ p ∷ ys) c.range_place_for-at.ensures.before c.range_place_for-at.ensures.behind
    ∙ ap (λ (qs : List Publication). filter before qs ++ p ∷ filter (λ q. not (before q)) qs) (c.as_slice-2.ensures.value ∙ c.reserve.ensures.items)

pub returns-clause-names : goal.returns-clause-names
returns-clause-names c =
    let p = c.args.p.now in
    let before = name_before p.at.node.word p.key in
    c.in-Ok-insert-2.ensures.items ∙ ap (λ (qs : List Publication). insert qs c.name_place_for-at.result p) (sym c.as_slice-3.ensures.value)
    ∙ ap₂ (λ (xs ys : List Publication). xs ++ p ∷ ys) c.name_place_for-at.ensures.before c.name_place_for-at.ensures.behind
    ∙ ap (λ (qs : List Publication). filter before qs ++ p ∷ filter (λ q. not (before q)) qs) (c.as_slice-3.ensures.value ∙ c.reserve-2.ensures.items)
