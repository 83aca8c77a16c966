-- Events that are taken, and those that are left.
use Rattle.std.specs.Prelude.{slice_get}
use Rattle.std.proofs.Common.{◌≡◌, ◌++◌, ◌∷◌, [], List, Some, None, drop, sym, ap, ◌∙◌, append_assoc}
use Rattle.std.proofs.lemmas.List.{append-nil}
use Rattle.tipc_types.specs.declared.node_calls.Event.{Event}

-- the first that is left is taken
pub next_taken : (all taken left : List Event) (e : Event) → all ≡ taken ++ left → slice_get left 0 ≡ Some e → all ≡ (taken ++ e ∷ []) ++ drop 1 left
next_taken all taken [] e is first = absurd cc
next_taken all taken (x ∷ left) e is first =
    let same : x ≡ e = cc in
    is ∙ ap (λ y. taken ++ y ∷ left) same ∙ sym (append_assoc taken (e ∷ []) left)

-- where none is left, all were taken
pub last_taken : (all taken left : List Event) → all ≡ taken ++ left → slice_get left 0 ≡ None → all ≡ taken
last_taken all taken [] is none = is ∙ append-nil taken
last_taken all taken (x ∷ left) is none = absurd cc
