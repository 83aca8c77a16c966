-- Counts of publications by their ranges, and lists of publications counted by a test.
use Rattle.std.specs.Prelude.{◌==◌, ◌||◌, count_by, nat_le, not, unwrap_or}
use Rattle.std.proofs.Common.{◌≡◌, ◌+◌, ◌-◌, ◌≤◌, ◌∷◌, [], ℕ, Bool, true, false, List, Option, Some, None, cond, if◌then◌else◌, filter, refl, sym, ap, ◌∙◌, arith, true≢false}
use Rattle.std.specs.List.{list_any}
use Rattle.std.specs.Map.{lookup, remove_entry, set_value}
use Rattle.std.proofs.lemmas.Bool.Decides.{nat_tests}
use Rattle.std.proofs.lemmas.List.Sums.{sum_by-cons}
use Rattle.indexmap.specs.IndexMap.{insert_entry}
use Rattle.tipc_topology.specs.Watchers.{bounds_eq, count_at, one_fewer, total, Counts}
use Rattle.tipc_topology.specs.Transitions.{EachOnce}

-- ---- ranges

-- bounds that pass the test are the same
pub bounds_same : (a b : ℕ × ℕ) → bounds_eq a b ≡ true → a ≡ b
bounds_same a b e =
    let lower : a.0 ≡ b.0 = grind (arith, nat_tests) in
    let upper : a.1 ≡ b.1 = grind (arith, nat_tests) in
    (λ i. (lower i, upper i))

-- ---- look-ups

-- a test asked twice
twice : (c : Bool) (x y z : Option ℕ) → cond c x z ≡ cond c x (cond c y z)
twice true x y z = refl
twice false x y z = refl

-- two tests of which one alone can pass, in either order
swapped : (c d : Bool) (x y z : Option ℕ) → (c ≡ true → d ≡ true → ⊥) → cond c x (cond d y z) ≡ cond d y (cond c x z)
swapped true true x y z apart = absurd (apart refl refl)
swapped true false x y z apart = refl
swapped false true x y z apart = refl
swapped false false x y z apart = refl

-- ranges that aren't the same aren't both a third
not_both : (q r e : ℕ × ℕ) → bounds_eq r e ≡ false → bounds_eq q e ≡ true → bounds_eq q r ≡ true → ⊥
not_both q r e apart one other =
    true≢false (sym (ap (λ a. bounds_eq a e) (sym (bounds_same q r other)) ∙ one) ∙ apart)

-- one more range, or another count of one
pub lookup_more : (q r : ℕ × ℕ) (v : ℕ) (es : Counts)
    → lookup (bounds_eq q) (insert_entry bounds_eq es r v) ≡ cond (bounds_eq q r) (Some v) (lookup (bounds_eq q) es)
lookup_more q r v [] = refl
lookup_more q r v (e ∷ es) = by (bounds_eq r e.0) refl (lookup_more q r v es)
  where
    by : (b : Bool) → bounds_eq r e.0 ≡ b
        → lookup (bounds_eq q) (insert_entry bounds_eq es r v) ≡ cond (bounds_eq q r) (Some v) (lookup (bounds_eq q) es)
        → lookup (bounds_eq q) (if b then (e.0, v) ∷ es else e ∷ insert_entry bounds_eq es r v) ≡ cond (bounds_eq q r) (Some v) (cond (bounds_eq q e.0) (Some e.1) (lookup (bounds_eq q) es))
    by true is later =
        let same : bounds_eq q r ≡ bounds_eq q e.0 = ap (λ a. bounds_eq q a) (bounds_same r e.0 is) in
        rw same (twice (bounds_eq q e.0) (Some v) (Some e.1) (lookup (bounds_eq q) es))
    by false is later =
        ap (λ (o : Option ℕ). cond (bounds_eq q e.0) (Some e.1) o) later
        ∙ swapped (bounds_eq q e.0) (bounds_eq q r) (Some e.1) (Some v) (lookup (bounds_eq q) es) (not_both q r e.0 is)

-- nothing in any case
none_twice : (b : Bool) → ◌≡◌ {A = Option ℕ} None (cond b None None)
none_twice true = refl
none_twice false = refl

-- one range fewer
pub lookup_fewer : (q r : ℕ × ℕ) (es : Counts) → EachOnce es
    → lookup (bounds_eq q) (remove_entry (bounds_eq r) es) ≡ cond (bounds_eq q r) None (lookup (bounds_eq q) es)
lookup_fewer q r [] h = none_twice (bounds_eq q r)
lookup_fewer q r (e ∷ es) h = by (bounds_eq r e.0) refl (lookup_fewer q r es h.1)
  where
    past : bounds_eq r e.0 ≡ true → (c : Bool) → bounds_eq q r ≡ c → lookup (bounds_eq q) es ≡ cond c None (cond (bounds_eq q e.0) (Some e.1) (lookup (bounds_eq q) es))
    past is true here = ap (λ a. lookup (bounds_eq a) es) (bounds_same q r here ∙ bounds_same r e.0 is) ∙ h.0
    past is false here =
        let other : bounds_eq q e.0 ≡ false = sym (ap (λ a. bounds_eq q a) (bounds_same r e.0 is)) ∙ here in
        rw other refl

    by : (b : Bool) → bounds_eq r e.0 ≡ b
        → lookup (bounds_eq q) (remove_entry (bounds_eq r) es) ≡ cond (bounds_eq q r) None (lookup (bounds_eq q) es)
        → lookup (bounds_eq q) (cond b es (e ∷ remove_entry (bounds_eq r) es)) ≡ cond (bounds_eq q r) None (cond (bounds_eq q e.0) (Some e.1) (lookup (bounds_eq q) es))
    by true is later = past is (bounds_eq q r) refl
    by false is later =
        ap (λ (o : Option ℕ). cond (bounds_eq q e.0) (Some e.1) o) later
        ∙ swapped (bounds_eq q e.0) (bounds_eq q r) (Some e.1) None (lookup (bounds_eq q) es) (not_both q r e.0 is)

-- another count of a range that is counted
pub set_as_insert : (r : ℕ × ℕ) (v : ℕ) (es : Counts) → nat_le (unwrap_or (lookup (bounds_eq r) es) 0) 1 ≡ false
    → set_value (bounds_eq r) es v ≡ insert_entry bounds_eq es r v
set_as_insert r v [] some = absurd (true≢false some)
set_as_insert r v (e ∷ es) some = by (bounds_eq r e.0) some (set_as_insert r v es)
  where
    by : (b : Bool) → nat_le (unwrap_or (cond b (Some e.1) (lookup (bounds_eq r) es)) 0) 1 ≡ false
        → (nat_le (unwrap_or (lookup (bounds_eq r) es) 0) 1 ≡ false → set_value (bounds_eq r) es v ≡ insert_entry bounds_eq es r v)
        → cond b ((e.0, v) ∷ es) (e ∷ set_value (bounds_eq r) es v) ≡ (if b then (e.0, v) ∷ es else e ∷ insert_entry bounds_eq es r v)
    by true some later = refl
    by false some later = ap (λ (xs : Counts). e ∷ xs) (later some)

-- a test that fails the other way round fails
turned : (a b : ℕ × ℕ) → bounds_eq a b ≡ false → bounds_eq b a ≡ false
turned a b e = grind (arith, nat_tests)

-- each stands once after one more
pub once_more : (r : ℕ × ℕ) (v : ℕ) (es : Counts) → EachOnce es → EachOnce (insert_entry bounds_eq es r v)
once_more r v [] h = (refl, tt)
once_more r v (e ∷ es) h = by (bounds_eq r e.0) refl (once_more r v es h.1)
  where
    by : (b : Bool) → bounds_eq r e.0 ≡ b → EachOnce (insert_entry bounds_eq es r v) → EachOnce (if b then (e.0, v) ∷ es else e ∷ insert_entry bounds_eq es r v)
    by true is later = h
    by false is later = (lookup_more e.0 r v es ∙ rw (turned r e.0 is) h.0, later)

-- and after one fewer
pub once_fewer : (r : ℕ × ℕ) (es : Counts) → EachOnce es → EachOnce (remove_entry (bounds_eq r) es)
once_fewer r [] h = tt
once_fewer r (e ∷ es) h = by (bounds_eq r e.0) refl (once_fewer r es h.1)
  where
    by : (b : Bool) → bounds_eq r e.0 ≡ b → EachOnce (remove_entry (bounds_eq r) es) → EachOnce (cond b es (e ∷ remove_entry (bounds_eq r) es))
    by true is later = h.1
    by false is later = (lookup_fewer e.0 r es h.1 ∙ rw (turned r e.0 is) h.0, later)

-- ---- how many are counted

-- of a range no more than all
pub count_most : (r : ℕ × ℕ) (es : Counts) → count_at es r ≤ total es
count_most r [] = omega arith
count_most r (e ∷ es) = by (bounds_eq r e.0) (count_most r es)
  where
    by : (b : Bool) → count_at es r ≤ total es → unwrap_or (cond b (Some e.1) (lookup (bounds_eq r) es)) 0 ≤ e.1 + total es
    by true later = omega arith
    by false later = omega (arith, later)

-- another count of a range takes the place of the one before
pub total_more : (r : ℕ × ℕ) (v : ℕ) (es : Counts) → total (insert_entry bounds_eq es r v) + count_at es r ≡ total es + v
total_more r v [] = omega arith
total_more r v (e ∷ es) = by (bounds_eq r e.0) (total_more r v es)
  where
    by : (b : Bool) → total (insert_entry bounds_eq es r v) + count_at es r ≡ total es + v
        → total (if b then (e.0, v) ∷ es else e ∷ insert_entry bounds_eq es r v) + unwrap_or (cond b (Some e.1) (lookup (bounds_eq r) es)) 0 ≡ (e.1 + total es) + v
    by true later = omega arith
    by false later = omega (arith, later)

-- without a range its count is gone
pub total_fewer : (r : ℕ × ℕ) (es : Counts) → total (remove_entry (bounds_eq r) es) + count_at es r ≡ total es
total_fewer r [] = omega arith
total_fewer r (e ∷ es) = by (bounds_eq r e.0) (total_fewer r es)
  where
    by : (b : Bool) → total (remove_entry (bounds_eq r) es) + count_at es r ≡ total es
        → total (cond b es (e ∷ remove_entry (bounds_eq r) es)) + unwrap_or (cond b (Some e.1) (lookup (bounds_eq r) es)) 0 ≡ e.1 + total es
    by true later = omega arith
    by false later = omega (arith, later)

-- with one fewer of a range of which some are counted
pub total_one_fewer : (r : ℕ × ℕ) (es : Counts) → 1 ≤ count_at es r → total (one_fewer es r) + 1 ≡ total es
total_one_fewer r es some = by (nat_le (count_at es r) 1) refl
  where
    by : (b : Bool) → nat_le (count_at es r) 1 ≡ b → total (if b then remove_entry (bounds_eq r) es else set_value (bounds_eq r) es (count_at es r - 1)) + 1 ≡ total es
    by true le =
        let gone = total_fewer r es in
        let most : count_at es r ≤ 1 = grind (arith, nat_tests) in
        omega (arith, gone, most, some)
    by false le =
        let less = total_more r (count_at es r - 1) es in
        let same = ap total (set_as_insert r (count_at es r - 1) es le) in
        omega (arith, less, same, some)

-- ---- lists that are counted

-- nothing more
plus_none : (n : ℕ) → 0 + n ≡ n
plus_none n = omega arith

-- none passes where none is counted
pub none_counted : {A : Type 0} (test : A → Bool) (xs : List A) → (count_by test xs == 0) ≡ not (list_any test xs)
none_counted test [] = refl
none_counted test (x ∷ xs) = rw (sum_by-cons (λ y. cond (test y) 1 0) x xs) (by (test x) (none_counted test xs))
  where
    by : (b : Bool) → (count_by test xs == 0) ≡ not (list_any test xs) → ((cond b 1 0 + count_by test xs) == 0) ≡ not (b || list_any test xs)
    by true later = grind (arith, nat_tests)
    by false later = ap (λ n. n == 0) (plus_none (count_by test xs)) ∙ later

-- those of one kind and the others are all
pub count_parted : {A : Type 0} (test part : A → Bool) (xs : List A)
    → count_by test xs ≡ count_by test (filter part xs) + count_by test (filter (λ x. not (part x)) xs)
count_parted test part [] = refl
count_parted test part (x ∷ xs) = rw (sum_by-cons (λ y. cond (test y) 1 0) x xs) (by (part x) (count_parted test part xs))
  where
    by : (b : Bool) → count_by test xs ≡ count_by test (filter part xs) + count_by test (filter (λ y. not (part y)) xs)
        → cond (test x) 1 0 + count_by test xs ≡ count_by test (cond b (x ∷ filter part xs) (filter part xs)) + count_by test (cond (not b) (x ∷ filter (λ y. not (part y)) xs) (filter (λ y. not (part y)) xs))
    by true later = rw (sum_by-cons (λ y. cond (test y) 1 0) x (filter part xs)) (omega (arith, later))
    by false later = rw (sum_by-cons (λ y. cond (test y) 1 0) x (filter (λ y. not (part y)) xs)) (omega (arith, later))
