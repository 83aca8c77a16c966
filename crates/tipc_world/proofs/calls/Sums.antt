-- Sums over the nodes and their journals, of which those of one node changed.
use Rattle.std.proofs.Common.{◌≡◌, ◌≢◌, ◌≤◌, ◌+◌, ℕ, zero, suc, List, [], ◌∷◌, ◌++◌, Option, Some, None, slice_get, slice_index_or, slice_set, sum_by, refl, sym, ap, subst, ◌∙◌, inl, inr, get_or-set_same, get_or-set_other, arith}
use Rattle.std.proofs.lemmas.Bool.{cases_eq}
use Rattle.std.proofs.lemmas.List.Sums.{sum_by-append, sum_by-cons}
use Rattle.tipc_journal.specs.Counting.{names_sent_before}
use Rattle.tipc_world.specs.Answered.{sent_in, sum_to, turn_at}
use Rattle.tipc_replay.specs.States.{MemberState}
use Rattle.tipc_replay.proofs.LookUps.{place_within}

-- ---- sums over numbers

-- two sums of the same
sum_to-below : (f g : ℕ → ℕ) (n : ℕ) → ((k : ℕ) → k ≤ n → g k ≡ f k) → sum_to g n ≡ sum_to f n
unfolding sum_to
sum_to-below f g zero same = refl
sum_to-below f g (suc n) same =
    let before = sum_to-below f g n (λ k most. same k (omega (arith, most))) in
    let here = same (suc n) (omega arith) in
    omega (arith, before, here)

pub sum_to-same : (f g : ℕ → ℕ) (n : ℕ) → ((k : ℕ) → g k ≡ f k) → sum_to g n ≡ sum_to f n
sum_to-same f g n same = sum_to-below f g n (λ k _. same k)

-- one number counts for more
pub sum_to-more : (f g : ℕ → ℕ) (a more n : ℕ) → 1 ≤ a → a ≤ n → g a ≡ f a + more → ((k : ℕ) → k ≢ a → g k ≡ f k) → sum_to g n ≡ sum_to f n + more
unfolding sum_to
sum_to-more f g a more zero from to here others = absurd (omega (arith, from, to))
sum_to-more f g a more (suc n) from to here others = elim (cases_eq (suc n) a) [
  | inl last ↦
      let before = sum_to-below f g n (λ k most. others k (λ same. absurd (omega (arith, most, same, last)))) in
      let now : g (suc n) ≡ f (suc n) + more = subst (λ k. g k ≡ f k + more) (sym last) here in
      omega (arith, before, now)
  | inr apart ↦
      let before = sum_to-more f g a more n from (omega (arith, to, apart)) here others in
      let now = others (suc n) apart in
      omega (arith, before, now)
]

-- ---- sums over journals

-- the last one of a list
pub sum_last : {A : Type 0} (f : A → ℕ) (xs : List A) (x : A) → sum_by f (xs ++ x ∷ []) ≡ sum_by f xs + f x
sum_last f xs x =
    let both = sum_by-append f xs (x ∷ []) in
    let one = sum_by-cons f x [] in
    let none : sum_by f [] ≡ 0 = refl in
    omega (arith, both, one, none)

-- two counts that agree on each
pub sum_same : {A : Type 0} (f g : A → ℕ) (xs : List A) → ((k : ℕ) (x : A) → slice_get xs k ≡ Some x → g x ≡ f x) → sum_by g xs ≡ sum_by f xs
sum_same f g [] same = refl
sum_same f g (x ∷ xs) same =
    sum_by-cons g x xs
    ∙ ap (λ n. n + sum_by g xs) (same 0 x refl)
    ∙ ap (λ n. f x + n) (sum_same f g xs (λ k y there. same (suc k) y there))
    ∙ sym (sum_by-cons f x xs)

-- a node sent as many as in its past boots, and those of the present one
pub sent_split : (m : MemberState) (stamp : ℕ) → sent_in (Some m) stamp ≡ sum_by (λ journal. names_sent_before journal stamp) m.past + names_sent_before m.node.journal stamp
sent_split m stamp = sum_last (λ journal. names_sent_before journal stamp) m.past m.node.journal

-- ---- turns

-- no node sent more or less
pub turn_same : (old new : List (Option MemberState)) (stamp other : ℕ) → ((n : ℕ) → sent_in (slice_index_or new n None) other ≡ sent_in (slice_index_or old n None) stamp) → turn_at new other ≡ turn_at old stamp
unfolding turn_at
turn_same old new stamp other same = sum_to-same (λ n. sent_in (slice_index_or old n None) stamp) (λ n. sent_in (slice_index_or new n None) other) 32 same

-- one node sent more
pub turn_more : (old : List (Option MemberState)) (a stamp more : ℕ) (before after : MemberState) → 1 ≤ a → a ≤ 32 → slice_index_or old a None ≡ Some before
    → sent_in (Some after) stamp ≡ sent_in (Some before) stamp + more → turn_at (slice_set old a (Some after)) stamp ≡ turn_at old stamp + more
unfolding turn_at
turn_more old a stamp more before after from to was sent =
    let new = slice_set old a (Some after) in
    sum_to-more (λ n. sent_in (slice_index_or old n None) stamp) (λ n. sent_in (slice_index_or new n None) stamp) a more 32 from to
    (ap (λ o. sent_in o stamp) (get_or-set_same old a (Some after) None (place_within old a before was)) ∙ sent ∙ ap (λ o. sent_in o stamp + more) (sym was))
    (λ k apart. ap (λ o. sent_in o stamp) (get_or-set_other old a k (Some after) None apart))
