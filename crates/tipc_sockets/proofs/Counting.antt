-- Tests of lists: what a filter keeps, how many pass, and whether one passes.
use Rattle.std.proofs.Common.{◌≡◌, ℕ, ◌+◌, ◌≤◌, Bool, true, false, not, cond, ◌&&◌, ◌||◌, List, [], ◌∷◌, ◌++◌, length, None, Some, filter, refl, sym, ap, ◌∙◌, true≢false, arith}
use Rattle.std.specs.Prelude.{count_by, find}
use Rattle.std.specs.List.{list_any}
use Rattle.std.proofs.lemmas.List.Sums.{sum_by-append, sum_by-cons}

-- ---- counts

pub counted : {X : Type 0} (test : X → Bool) (x : X) (xs : List X) → count_by test (x ∷ xs) ≡ cond (test x) 1 0 + count_by test xs
counted test x xs = sum_by-cons (λ y. cond (test y) 1 0) x xs

pub count_by-append : {X : Type 0} (test : X → Bool) (xs ys : List X) → count_by test (xs ++ ys) ≡ count_by test xs + count_by test ys
count_by-append test xs ys = sum_by-append (λ y. cond (test y) 1 0) xs ys

pub count_by-one : {X : Type 0} (test : X → Bool) (x : X) → count_by test (x ∷ []) ≡ cond (test x) 1 0
count_by-one test x = omega (arith, counted test x [])

pub count_by-agree : {X : Type 0} (f g : X → Bool) → ((x : X) → f x ≡ g x) → (xs : List X) → count_by f xs ≡ count_by g xs
count_by-agree f g same [] = refl
count_by-agree f g same (x ∷ xs) = counted f x xs ∙ (λ i. cond (same x i) 1 0 + count_by-agree f g same xs i) ∙ sym (counted g x xs)

pub count_by-filter : {X : Type 0} (test kept : X → Bool) (xs : List X) → count_by test (filter kept xs) ≡ count_by (λ x. kept x && test x) xs
count_by-filter test kept [] = refl
count_by-filter test kept (x ∷ xs) = by (kept x) (count_by-filter test kept xs) ∙ sym (counted (λ y. kept y && test y) x xs)
  where
    by : (b : Bool) → count_by test (filter kept xs) ≡ count_by (λ y. kept y && test y) xs → count_by test (cond b (x ∷ filter kept xs) (filter kept xs)) ≡ cond (b && test x) 1 0 + count_by (λ y. kept y && test y) xs
    by true later = counted test x (filter kept xs) ∙ ap (λ (n : ℕ). cond (test x) 1 0 + n) later
    by false later = omega (arith, later)

pub count_by-all : {X : Type 0} (xs : List X) → count_by (λ x. true) xs ≡ length xs
count_by-all [] = refl
count_by-all (x ∷ xs) = omega (arith, counted (λ y. true) x xs, count_by-all xs)

pub none_counts : {X : Type 0} (test : X → Bool) (xs : List X) → list_any test xs ≡ false → count_by test xs ≡ 0
none_counts test [] none = refl
none_counts test (x ∷ xs) none = counted test x xs ∙ by (test x) none (none_counts test xs)
  where
    by : (b : Bool) → b || list_any test xs ≡ false → (list_any test xs ≡ false → count_by test xs ≡ 0) → cond b 1 0 + count_by test xs ≡ 0
    by true e later = absurd (true≢false e)
    by false e later = omega (arith, later e)

pub counts_none : {X : Type 0} (test : X → Bool) (xs : List X) → count_by test xs ≡ 0 → list_any test xs ≡ false
counts_none test [] zero = refl
counts_none test (x ∷ xs) zero = by (test x) refl (omega (arith, zero, counted test x xs)) (counts_none test xs)
  where
    by : (b : Bool) → test x ≡ b → cond (test x) 1 0 + count_by test xs ≡ 0 → (count_by test xs ≡ 0 → list_any test xs ≡ false) → b || list_any test xs ≡ false
    by true e sum later =
        let one : cond {A = ℕ} (test x) 1 0 ≡ 1 = ap (λ (b : Bool). cond {A = ℕ} b 1 0) e in
        absurd (omega (arith, sum, one))
    by false e sum later = later (omega (arith, sum))

pub some_counts : {X : Type 0} (test : X → Bool) (xs : List X) → list_any test xs ≡ true → 1 ≤ count_by test xs
some_counts test [] some = absurd (true≢false (sym some))
some_counts test (x ∷ xs) some = by (test x) refl some (some_counts test xs)
  where
    by : (b : Bool) → test x ≡ b → b || list_any test xs ≡ true → (list_any test xs ≡ true → 1 ≤ count_by test xs) → 1 ≤ count_by test (x ∷ xs)
    by true e some later =
        let one : cond {A = ℕ} (test x) 1 0 ≡ 1 = ap (λ (b : Bool). cond {A = ℕ} b 1 0) e in
        omega (arith, counted test x xs, one)
    by false e some later = omega (arith, counted test x xs, later some)

-- ---- filters

pub filter-filter : {X : Type 0} (first then : X → Bool) (xs : List X) → filter then (filter first xs) ≡ filter (λ x. first x && then x) xs
filter-filter first then [] = refl
filter-filter {X = X} first then (x ∷ xs) = by (first x) (filter-filter first then xs)
  where
    by : (b : Bool) → filter then (filter first xs) ≡ filter (λ y. first y && then y) xs → filter then (cond b (x ∷ filter first xs) (filter first xs)) ≡ cond (b && then x) (x ∷ filter (λ y. first y && then y) xs) (filter (λ y. first y && then y) xs)
    by true later = ap (λ (ys : List X). cond (then x) (x ∷ ys) ys) later
    by false later = later

pub filter_none : {X : Type 0} (test : X → Bool) (xs : List X) → list_any test xs ≡ false → filter (λ x. not (test x)) xs ≡ xs
filter_none test [] none = refl
filter_none {X = X} test (x ∷ xs) none = by (test x) none (filter_none test xs)
  where
    by : (b : Bool) → b || list_any test xs ≡ false → (list_any test xs ≡ false → filter (λ y. not (test y)) xs ≡ xs) → cond (not b) (x ∷ filter (λ y. not (test y)) xs) (filter (λ y. not (test y)) xs) ≡ x ∷ xs
    by true e later = absurd (true≢false e)
    by false e later = ap (λ (ys : List X). x ∷ ys) (later e)

pub filter_all : {X : Type 0} (xs : List X) → filter (λ x. true) xs ≡ xs
filter_all [] = refl
filter_all {X = X} (x ∷ xs) = ap (λ (ys : List X). x ∷ ys) (filter_all xs)

pub found_none : {X : Type 0} (test : X → Bool) (xs : List X) → find test xs ≡ None → list_any test xs ≡ false
found_none test [] none = refl
found_none test (x ∷ xs) none = by (test x) none (found_none test xs)
  where
    by : (b : Bool) → cond b (Some x) (find test xs) ≡ None → (find test xs ≡ None → list_any test xs ≡ false) → b || list_any test xs ≡ false
    by true e later = absurd cc
    by false e later = later e
