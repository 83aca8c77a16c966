-- Sums over the numbers of nodes: their parts, what one number counts for, and totals over a world as such sums.
use Rattle.std.proofs.Common.{◌≡◌, ◌≢◌, ◌≤◌, ◌+◌, ◌*◌, ◌∙◌, ℕ, zero, suc, List, [], ◌∷◌, Option, Some, None, slice_index_or, sum_by, inl, inr, refl, sym, ap, arith}
use Rattle.std.proofs.lemmas.Bool.{cases_eq}
use Rattle.std.proofs.lemmas.List.Sums.{sum_by-cons}
use Rattle.tipc_replay.specs.Sound.{IsNumber}
use Rattle.tipc_replay.specs.States.{MemberState}
use Rattle.tipc_world.specs.Answered.{sum_to}
use Rattle.tipc_world.specs.RoundParts.{IsKept, number_of_member, total_of}
use Rattle.tipc_world.specs.States.{WorldState}

-- ---- sums up to a number

pub sums_below : (f g : ℕ → ℕ) (n : ℕ) → ((k : ℕ) → 1 ≤ k → k ≤ n → f k ≤ g k) → sum_to f n ≤ sum_to g n
unfolding sum_to
sums_below f g zero each = omega arith
sums_below f g (suc n) each =
    let before = sums_below f g n (λ k from to. each k from (omega (arith, to))) in
    let here = each (suc n) (omega arith) (omega arith) in
    omega (arith, before, here)

pub sums_together : (f g h : ℕ → ℕ) (n : ℕ) → ((k : ℕ) → h k ≡ f k + g k) → sum_to h n ≡ sum_to f n + sum_to g n
unfolding sum_to
sums_together f g h zero each = refl
sums_together f g h (suc n) each =
    let before = sums_together f g h n each in
    let here = each (suc n) in
    omega (arith, before, here)

pub sums_thrice : (f : ℕ → ℕ) (n : ℕ) → sum_to (λ k. 3 * f k) n ≡ 3 * sum_to f n
unfolding sum_to
sums_thrice f zero = refl
sums_thrice f (suc n) = (let before = sums_thrice f n in omega (arith, before))

sums_none_to : (f : ℕ → ℕ) (n : ℕ) → ((k : ℕ) → 1 ≤ k → k ≤ n → f k ≡ 0) → sum_to f n ≡ 0
unfolding sum_to
sums_none_to f zero each = refl
sums_none_to f (suc n) each =
    let before = sums_none_to f n (λ k from to. each k from (omega (arith, to))) in
    let here = each (suc n) (omega arith) (omega arith) in
    omega (arith, before, here)

pub sums_none : (f : ℕ → ℕ) (n : ℕ) → ((k : ℕ) → f k ≡ 0) → sum_to f n ≡ 0
sums_none f n each = sums_none_to f n (λ k from to. each k)

-- where only one number counts
pub sum_of_one : (f : ℕ → ℕ) (a n : ℕ) → ((k : ℕ) → k ≢ a → f k ≡ 0) → sum_to f n ≤ f a
unfolding sum_to
sum_of_one f a zero others = omega arith
sum_of_one f a (suc n) others = elim (cases_eq (suc n) a) [
  | inl last ↦
      let before = sums_none_to f n (λ k from to. others k (λ same. (let wrong : ⊥ = omega (arith, to, same, last) in wrong))) in
      let here = ap f last in
      omega (arith, before, here)
  | inr apart ↦
      let before = sum_of_one f a n others in
      let here = others (suc n) apart in
      omega (arith, before, here)
]

-- a number counts
pub sum_has : (f : ℕ → ℕ) (a n : ℕ) → 1 ≤ a → a ≤ n → f a ≤ sum_to f n
unfolding sum_to
sum_has f a zero from to = absurd (omega (arith, from, to))
sum_has f a (suc n) from to = elim (cases_eq (suc n) a) [
  | inl last ↦ (let here = ap f last in omega (arith, here))
  | inr apart ↦ (let before = sum_has f a n from (omega (arith, to, apart)) in omega (arith, before))
]

-- sums of sums, the other way round
pub sums_turned : (f : ℕ → ℕ → ℕ) (n m : ℕ) → sum_to (λ a. sum_to (f a) n) m ≡ sum_to (λ b. sum_to (λ a. f a b) m) n
unfolding sum_to
sums_turned f n zero = sym (sums_none (λ b. 0) n (λ k. refl))
sums_turned f n (suc m) =
    let before = sums_turned f n m in
    let both = sums_together (λ b. sum_to (λ a. f a b) m) (f (suc m)) (λ b. sum_to (λ a. f a b) m + f (suc m) b) n (λ k. refl) in
    omega (arith, before, both)

-- ---- lists

sum_shifted : (f : ℕ → ℕ) (n : ℕ) → sum_to f (suc n) ≡ f 1 + sum_to (λ k. f (suc k)) n
unfolding sum_to
sum_shifted f zero = omega arith
sum_shifted f (suc n) = (let before = sum_shifted f n in omega (arith, before))

-- the list behind a first place, by number
sum_of_list : {A : Type 0} (f : Option A → ℕ) → f None ≡ 0 → (z : Option A) (xs : List (Option A)) (n : ℕ) → ((i : ℕ) → n ≤ i → slice_index_or xs i None ≡ None) → sum_by f xs ≡ sum_to (λ k. f (slice_index_or (z ∷ xs) k None)) n
unfolding sum_to
sum_of_list f none z [] zero beyond = refl
sum_of_list f none z [] (suc n) beyond =
    let before = sum_of_list f none z [] n (λ i from. refl) in
    omega (arith, before, none)
sum_of_list f none z (x ∷ xs) zero beyond =
    let first = ap f (beyond 0 (omega arith)) in
    let others = sum_of_list f none x xs 0 (λ i from. beyond (suc i) (omega arith)) in
    let all = sum_by-cons f x xs in
    omega (arith, none, first, others, all)
sum_of_list f none z (x ∷ xs) (suc n) beyond =
    let others = sum_of_list f none x xs n (λ i from. beyond (suc i) (omega (arith, from))) in
    let all = sum_by-cons f x xs in
    let shift = sum_shifted (λ k. f (slice_index_or (z ∷ x ∷ xs) k None)) n in
    all ∙ (ap (λ k. f x + k) others ∙ sym shift)

-- ---- a world

-- a number that is none of the 32 is no node's
no_node : (w : WorldState) (n : ℕ) → IsKept w → (IsNumber n → ⊥) → slice_index_or w.members n None ≡ None
no_node w n kept none = at (slice_index_or w.members n None) refl
  where
    at : (o : Option MemberState) → slice_index_or w.members n None ≡ o → slice_index_or w.members n None ≡ None
    at None is = is
    at (Some m) is = absurd (none (kept.nodes.sound.numbered n m is).0)

-- what a node of a number counts for
abbrev pub number_at : (MemberState → ℕ) → WorldState → ℕ → ℕ
number_at number w n = number_of_member number (slice_index_or w.members n None)

-- a total is the sum over the 32 numbers
pub total_by_number : (number : MemberState → ℕ) (w : WorldState) → IsKept w → total_of number w ≡ sum_to (number_at number w) 32
total_by_number number w kept = by w.members (no_node w 0 kept (λ at. omega (arith, at.0))) (λ i from. no_node w i kept (λ at. omega (arith, from, at.1)))
  where
    by : (members : List (Option MemberState)) → slice_index_or members 0 None ≡ None → ((i : ℕ) → 33 ≤ i → slice_index_or members i None ≡ None)
        → sum_by (number_of_member number) members ≡ sum_to (λ n. number_of_member number (slice_index_or members n None)) 32
    by [] first beyond = sym (sums_none (λ n. number_of_member number (slice_index_or [] n None)) 32 (λ k. refl))
    by (z ∷ zs) first beyond =
        let here = ap (number_of_member number) first in
        let all = sum_by-cons (number_of_member number) z zs in
        let others = sum_of_list (number_of_member number) refl z zs 32 (λ i from. beyond (suc i) (omega (arith, from))) in
        omega (arith, here, all, others)
