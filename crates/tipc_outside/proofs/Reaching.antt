-- A frame that comes to one node after another.
use Rattle.std.proofs.Common.{◌≡◌, ◌+◌, ◌<◌, ◌≤◌, ◌⊎◌, ◌&&◌, ℕ, List, [], true, false, inl, inr, Result, Ok, Err, length, cond, sym, subst, ap, ◌∙◌, arith}
use Rattle.std.proofs.lemmas.Bool.{and_left, cases_eq, cases_lt, cond-false, cond-true, le-ltb, lt-ltb}
use Rattle.std.proofs.lemmas.List.{get_or_read, get_or-set_other, get_or-set_same, length-set, set-get_or}
use Rattle.std.specs.Prelude.{OnErr, nat_lt, slice_index_or, slice_set}
use Rattle.tipc_outside.specs.Carried.{Reaches, is_for, with_frame}
use Rattle.tipc_types.specs.declared.identity.To.{To}

-- whether another place is among the first so many doesn't turn on one more
other_place : (place count : ℕ) → (place ≡ count → ⊥) → nat_lt place (count + 1) ≡ nat_lt place count
other_place place count other = by (cases_lt place count)
  where
    by : (place < count) ⊎ (count ≤ place) → nat_lt place (count + 1) ≡ nat_lt place count
    by (inl below) = lt-ltb place (count + 1) (omega (arith, below)) ∙ sym (lt-ltb place count below)
    by (inr above) = le-ltb place (count + 1) (omega (arith, above, other)) ∙ sym (le-ltb place count above)

-- it came to the next node too, where it is for that one
pub reaches_next : (from : ℕ) (to : To) (frame : List ℕ) (count : ℕ) (old new : List (List (List ℕ))) (queue : List (List ℕ)) → count < length old
    → Reaches from to frame count old new
    → queue ≡ cond (is_for from to (count + 1)) (with_frame (slice_index_or new count []) frame) (slice_index_or new count [])
    → Reaches from to frame (count + 1) old (slice_set new count queue)
reaches_next from to frame count old new queue inside so is =
    record { same = length-set new count queue ∙ so.same; each = λ place within. by place within (cases_eq place count) }
  where
    after : ℕ → List (List ℕ) → List (List ℕ)
    after place frames = cond (nat_lt place (count + 1) && is_for from to (place + 1)) (with_frame frames frame) frames

    was : slice_index_or new count [] ≡ slice_index_or old count []
    was = so.each count inside ∙ cond-false _ _ _ (and_left _ _ (le-ltb count count (omega arith)))

    here : slice_index_or (slice_set new count queue) count [] ≡ after count (slice_index_or old count [])
    here =
        get_or-set_same new count queue [] (omega (arith, inside, so.same)) ∙ is
        ∙ ap (λ w. cond (is_for from to (count + 1)) (with_frame w frame) w) was
        ∙ sym (ap (λ b. cond (b && is_for from to (count + 1)) (with_frame (slice_index_or old count []) frame) (slice_index_or old count [])) (lt-ltb count (count + 1) (omega arith)))

    by : (place : ℕ) → place < length old → (place ≡ count) ⊎ (place ≡ count → ⊥) → slice_index_or (slice_set new count queue) place [] ≡ after place (slice_index_or old place [])
    by place within (inl same) = subst (λ p. slice_index_or (slice_set new count queue) p [] ≡ after p (slice_index_or old p [])) (sym same) here
    by place within (inr other) =
        get_or-set_other new count place queue [] other ∙ so.each place within
        ∙ sym (ap (λ b. cond (b && is_for from to (place + 1)) (with_frame (slice_index_or old place []) frame) (slice_index_or old place [])) (other_place place count other))

-- it came to the next node too, which it is for
pub reaches_it : (from : ℕ) (to : To) (frame : List ℕ) (count : ℕ) (old new : List (List (List ℕ))) (place : ℕ) (before after : List (List ℕ)) → count < length old
    → Reaches from to frame count old new → place ≡ count → is_for from to (count + 1) ≡ true → before ≡ slice_index_or new place before → after ≡ with_frame before frame
    → Reaches from to frame (count + 1) old (slice_set new place after)
reaches_it from to frame count old new place before after inside so here is was then =
    subst (λ p. Reaches from to frame (count + 1) old (slice_set new p after)) (sym here) (reaches_next from to frame count old new after inside so queue)
  where
    found : before ≡ slice_index_or new count []
    found = get_or_read new count before (omega (arith, inside, so.same)) (was ∙ ap (λ p. slice_index_or new p before) here) []

    queue : after ≡ cond (is_for from to (count + 1)) (with_frame (slice_index_or new count []) frame) (slice_index_or new count [])
    queue = then ∙ ap (λ frames. with_frame frames frame) found ∙ sym (cond-true _ _ _ is)

-- it passes by the next node, which it isn't for
pub reaches_past : (from : ℕ) (to : To) (frame : List ℕ) (count : ℕ) (old new : List (List (List ℕ))) → count < length old → Reaches from to frame count old new
    → is_for from to (count + 1) ≡ false → Reaches from to frame (count + 1) old new
reaches_past from to frame count old new inside so isnt =
    subst (Reaches from to frame (count + 1) old) (set-get_or new count []) (reaches_next from to frame count old new (slice_index_or new count []) inside so (sym (cond-false _ _ _ isnt)))

-- where the next node's frames stay as they are, it came only to those before
pub reaches_so_far : {T E : Type 0} (from : ℕ) (to : To) (frame : List ℕ) (count : ℕ) (old new : List (List (List ℕ))) (place : ℕ) (before after : List (List ℕ)) (result : Result T E)
    → Reaches from to frame count old new → before ≡ slice_index_or new place before → after ≡ before → OnErr result ((n : ℕ) × Reaches from to frame n old (slice_set new place after))
reaches_so_far from to frame count old new place before after result so was same =
    elim result as (λ r. OnErr r ((n : ℕ) × Reaches from to frame n old (slice_set new place after))) [ Ok _ ↦ tt | Err _ ↦ (count, subst (Reaches from to frame count old) (sym kept) so) ]
  where
    kept : slice_set new place after ≡ new
    kept = ap (slice_set new place) (same ∙ was) ∙ set-get_or new place before
