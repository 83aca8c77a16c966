-- Sums over a list with one element changed, and how often a number stands in a list.
use Rattle.std.proofs.Common.{◌≡◌, ◌≢◌, ℕ, zero, suc, ◌+◌, ◌<◌, ◌≤◌, List, [], ◌∷◌, ◌++◌, length, set, get_or, Contains, sym, refl, ap, subst, ◌∙◌, arith}
use Rattle.std.specs.List.{sum_by}
use Rattle.std.proofs.lemmas.Bool.Decides.{nat_tests}
use Rattle.std.proofs.lemmas.List.Sums.{sum_by-append, sum_by-cons, sum_by-set}
use mathlib.Core.Option.{some, some-injective, some-ne-none}
use lib.ListN.{get_elem?}
use Rattle.atomic_table.proofs.Lists.{set_else}
use Rattle.tipc_stamp.specs.Given.{once_below, times}

module _ {X : Type 0} where
  pub there : (xs : List X) (i : ℕ) (x : X) → get_elem? xs i ≡ some x → (i < length xs) × (get_or xs i x ≡ x)
  there [] i x at = absurd (some-ne-none x (sym at))
  there (y ∷ xs) zero x at = (omega arith, some-injective y x at)
  there (y ∷ xs) (suc i) x at = let t = there xs i x at in (omega (arith, t.0), t.1)

  pub sum_set : (f : X → ℕ) (xs : List X) (i : ℕ) (x y : X) → get_elem? xs i ≡ some x → sum_by f (set xs i y) + f x ≡ sum_by f xs + f y
  sum_set f xs i x y at =
      let t = there xs i x at in
      subst (λ (z : X). sum_by f (set xs i y) + f z ≡ sum_by f xs + f y) t.1 (sum_by-set f xs i y x t.0)

  -- a list is as large as one of its elements
  pub sum_has : (f : X → ℕ) (xs : List X) (i : ℕ) (x : X) → get_elem? xs i ≡ some x → f x ≤ sum_by f xs
  sum_has f [] i x at = absurd (some-ne-none x (sym at))
  sum_has f (y ∷ xs) zero x at = let same = ap f (some-injective y x at) in let all = sum_by-cons f y xs in omega arith
  sum_has f (y ∷ xs) (suc i) x at = let rest = sum_has f xs i x at in let all = sum_by-cons f y xs in omega arith

  -- and as two of them
  pub sum_has_two : (f : X → ℕ) (none : X) → f none ≡ 0 → (xs : List X) (i j : ℕ) (x y : X) → get_elem? xs i ≡ some x → get_elem? xs j ≡ some y
      → i ≢ j → f x + f y ≤ sum_by f xs
  sum_has_two f none is xs i j x y at at' apart =
      let without = sum_set f xs i x none at in
      let other = sum_has f (set xs i none) j y (set_else xs i j none (λ e. apart (sym e)) ∙ at') in
      omega (arith, is, without, other)

  -- what sums to more than nothing has an element that is more than nothing
  pub sum_some : (f : X → ℕ) (xs : List X) → 0 < sum_by f xs → (i : ℕ) × (x : X) × (get_elem? xs i ≡ some x) × (0 < f x)
  sum_some f [] more = absurd (omega arith)
  sum_some f (y ∷ xs) more = from (f y) refl (sum_some f xs)
    where
      from : (n : ℕ) → f y ≡ n → (0 < sum_by f xs → (i : ℕ) × (x : X) × (get_elem? xs i ≡ some x) × (0 < f x))
          → (i : ℕ) × (x : X) × (get_elem? (y ∷ xs) i ≡ some x) × (0 < f x)
      from zero is later = let all = sum_by-cons f y xs in let rest = later (omega (arith, is, all, more)) in (suc rest.0, rest.1, rest.2, rest.3)
      from (suc n) is later = (0, y, refl, omega (arith, is))

-- ---- how often a number stands in a list

pub times_cons : (x y : ℕ) (ys : List ℕ) → times x (y ∷ ys) ≡ times x (y ∷ []) + times x ys
times_cons x y ys = sum_by-append _ (y ∷ []) ys

pub times_last : (x y : ℕ) (ys : List ℕ) → times x (ys ++ y ∷ []) ≡ times x ys + times x (y ∷ [])
times_last x y ys = sum_by-append _ ys (y ∷ [])

pub times_self : (x : ℕ) → times x (x ∷ []) ≡ 1
times_self x = grind (arith, nat_tests)

pub times_has : (x : ℕ) (ys : List ℕ) → Contains ys x → 1 ≤ times x ys
times_has x [] has = absurd (omega (arith, has.1))
times_has x (y ∷ ys) (zero, within, is) = let self = times_self x in subst (λ (z : ℕ). 1 ≤ times x (z ∷ ys)) (sym is) (omega (arith, self, times_cons x x ys))
times_has x (y ∷ ys) (suc k, within, is) = let rest = times_has x ys (k, omega (arith, within), is) in omega (arith, rest, times_cons x y ys)

-- ---- the numbers below another

pub once_more : (x n : ℕ) → once_below x (n + 1) ≡ once_below x n + times x (n ∷ [])
once_more x n = grind (arith, nat_tests)

pub once_within : (x n : ℕ) → 1 ≤ once_below x n → x < n
once_within x n once = grind (arith, nat_tests)

pub once_for : (x n : ℕ) → x < n → once_below x n ≡ 1
once_for x n less = grind (arith, nat_tests)

pub once_none : (x : ℕ) → once_below x 0 ≡ 0
once_none x = grind (arith, nat_tests)

pub once_most : (x n : ℕ) → once_below x n ≤ 1
once_most x n = grind (arith, nat_tests)
