-- What is read of a journal entry by entry.
use Rattle.std.proofs.Common.{◌≡◌, ℕ, ◌+◌, ◌<◌, List, [], ◌∷◌, ◌++◌, length, take, get_or, fold, sym, ◌∙◌, ap, append_assoc}
use Rattle.std.proofs.lemmas.List.{append-nil, take_more}
use Rattle.tipc_journal.specs.declared.entries.Entry.{Entry}

-- what is read from a journal entry by entry, F of the first i entries, is F of one more after the step for that entry
pub followed : {R : Type 0} (F : List Entry → R) (after : R → Entry → R)
    (more : (xs : List Entry) (e : Entry) → F (xs ++ e ∷ []) ≡ after (F xs) e)
    (es : List Entry) (i : ℕ) (e : Entry) (found next : R)
    → i < length es → e ≡ get_or es i e → found ≡ F (take i es) → next ≡ after found e → next ≡ F (take (i + 1) es)
followed F after more es i e found next inside is so_far step =
    step
    ∙ ap (λ w. after w e) so_far
    ∙ sym (more (take i es) e)
    ∙ ap (λ w. F (take i es ++ w ∷ [])) is
    ∙ ap F (sym (take_more es i e inside))

-- what is read entry by entry, read on over later entries
pub followed_all : {R : Type 0} (F : List Entry → R) (after : R → Entry → R)
    (more : (xs : List Entry) (e : Entry) → F (xs ++ e ∷ []) ≡ after (F xs) e)
    (xs ys : List Entry) → F (xs ++ ys) ≡ fold after (F xs) ys
followed_all F after more xs [] = ap F (append-nil xs)
followed_all F after more xs (e ∷ es) =
    ap F (sym (append_assoc xs (e ∷ []) es))
    ∙ followed_all F after more (xs ++ e ∷ []) es
    ∙ ap (λ w. fold after w es) (more xs e)
