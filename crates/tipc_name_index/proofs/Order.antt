-- Lists that stand in a strict order: where a test turns false along one, and what one more or one less makes of it.
use Rattle.std.proofs.Common.{◌≡◌, ◌≢◌, ℕ, zero, suc, ◌+◌, ◌<◌, ◌≤◌, Bool, true, false, cond, ◌&&◌, not, List, [], ◌∷◌, ◌++◌, ◌⊎◌, inl, inr, Contains, take, drop, get_or, length, filter, refl, sym, ap, subst, ◌∙◌, true≢false, drop-drop, length-drop, take-append-drop, arith}
use Rattle.std.specs.Prelude.{count_by, remove}
use Rattle.std.specs.Cmp.{IsTotalOrder}
use Rattle.std.specs.List.{AllByRecursion, AllPairs}
use Rattle.std.specs.List.Sorted.{IsPartitionedBy, IsPartitionPoint, IsStrictlySortedBy}
use Rattle.std.specs.Ordering.{is_lt, ordering_reverse}
use Rattle.std.specs.declared.cmp.Ordering.{Ordering}
use Rattle.std.specs.declared.cmp.Ordering.TheVariants.{Less, Equal, Greater}
use Rattle.std.proofs.lemmas.Bool.{cases_eq}
use Rattle.std.proofs.lemmas.Cmp.{tied_itself}
use Rattle.std.proofs.lemmas.List.Elements.{All-contains, All-from_recursion, filter-append, recursion_from_All}
use Rattle.std.proofs.lemmas.List.Kept.{AllPairs-cons}
use Rattle.std.proofs.lemmas.List.Sums.{sum_by-append, sum_by-cons}

-- ---- filters

pub filter_none : {X : Type 0} (test : X → Bool) (xs : List X) → AllByRecursion (λ x. test x ≡ false) xs → filter test xs ≡ []
filter_none test [] h = refl
filter_none test (x ∷ xs) h = ap (λ b. cond b (x ∷ filter test xs) (filter test xs)) h.0 ∙ filter_none test xs h.1

pub filter_whole : {X : Type 0} (test : X → Bool) (xs : List X) → AllByRecursion (λ x. test x ≡ true) xs → filter test xs ≡ xs
filter_whole test [] h = refl
filter_whole test (x ∷ xs) h = ap (λ b. cond b (x ∷ filter test xs) (filter test xs)) h.0 ∙ ap (λ ys. x ∷ ys) (filter_whole test xs h.1)

-- what passes one test after another is what passes a third, where that says so
pub filters_join : {X : Type 0} (first second both : X → Bool) → ((x : X) → both x ≡ (first x && second x)) → (xs : List X) → filter second (filter first xs) ≡ filter both xs
filters_join first second both h [] = refl
filters_join first second both h (x ∷ xs) = by (first x) refl (filters_join first second both h xs)
  where
    by : (b : Bool) → first x ≡ b → filter second (filter first xs) ≡ filter both xs → filter second (cond b (x ∷ filter first xs) (filter first xs)) ≡ cond (both x) (x ∷ filter both xs) (filter both xs)
    by true e rest = ap (λ ys. cond (second x) (x ∷ ys) ys) rest ∙ ap (λ b. cond b (x ∷ filter both xs) (filter both xs)) (sym (h x ∙ ap (λ a. a && second x) e))
    by false e rest = rest ∙ ap (λ b. cond b (x ∷ filter both xs) (filter both xs)) (sym (h x ∙ ap (λ a. a && second x) e))

-- ---- where a test turns false

apart : {X : Type 0} (c : X → X → Ordering) (xs : List X) → IsStrictlySortedBy c xs → AllPairs (λ x y. c x y ≡ Less) xs
unfolding IsStrictlySortedBy
apart c [] h = λ i j d below within. absurd (omega (arith, within))
apart c (x ∷ xs) h = AllPairs-cons (λ y z. c y z ≡ Less) x xs (All-from_recursion (λ y. c x y ≡ Less) xs h.0) (apart c xs h.1)

pub partitioned : {X : Type 0} (c : X → X → Ordering) (test : X → Bool) → ((x y : X) → c x y ≡ Less → test y ≡ true → test x ≡ true) → (xs : List X) → IsStrictlySortedBy c xs → IsPartitionedBy test xs
partitioned c test down xs h i j d le within e = elim (cases_eq i j) as (λ _. test (get_or xs i d) ≡ true) [
  | inl same ↦ subst (λ k. test (get_or xs k d) ≡ true) (sym same) e
  | inr other ↦ down (get_or xs i d) (get_or xs j d) (apart c xs h i j d (omega arith) within) e
]

pub split_at : {X : Type 0} (test : X → Bool) (xs : List X) (i : ℕ) → i ≤ length xs → IsPartitionPoint (λ x. test x ≡ true) (λ x. test x ≡ false) xs i
    → (take i xs ≡ filter test xs) × (drop i xs ≡ filter (λ x. not (test x)) xs)
split_at {X} test xs zero within h =
    let none = recursion_from_All (λ x. test x ≡ false) xs (λ k d below. h.1 k d (omega arith) below) in
    (sym (filter_none test xs none), sym (filter_whole (λ x. not (test x)) xs (turned xs none)))
  where
    turned : (ys : List X) → AllByRecursion (λ x. test x ≡ false) ys → AllByRecursion (λ x. not (test x) ≡ true) ys
    turned [] k = tt
    turned (y ∷ ys) k = (ap not k.0, turned ys k.1)
split_at test [] (suc i) within h = absurd (omega arith)
split_at test (x ∷ xs) (suc i) within h =
    let first : test x ≡ true = h.0 0 x (omega arith) (omega arith) in
    let rest = split_at test xs i (omega arith) (λ k d low high. h.0 (suc k) d (omega arith) (omega arith), λ k d low high. h.1 (suc k) d (omega arith) (omega arith)) in (
      ap (λ ys. x ∷ ys) rest.0 ∙ ap (λ b. cond b (x ∷ filter test xs) (filter test xs)) (sym first),
      rest.1 ∙ ap (λ b. cond (not b) (x ∷ filter (λ y. not (test y)) xs) (filter (λ y. not (test y)) xs)) (sym first),
    )

-- ---- one more

all_kept : {X : Type 0} (P : X → Type 0) (test : X → Bool) (xs : List X) → AllByRecursion P xs → AllByRecursion P (filter test xs)
all_kept P test [] h = tt
all_kept P test (x ∷ xs) h = by (test x) (all_kept P test xs h.1)
  where
    by : (b : Bool) → AllByRecursion P (filter test xs) → AllByRecursion P (cond b (x ∷ filter test xs) (filter test xs))
    by true rest = (h.0, rest)
    by false rest = rest

all_joined : {X : Type 0} (P : X → Type 0) (xs ys : List X) → AllByRecursion P xs → AllByRecursion P ys → AllByRecursion P (xs ++ ys)
all_joined P [] ys h k = k
all_joined P (x ∷ xs) ys h k = (h.0, all_joined P xs ys h.1 k)

all_mapped : {X : Type 0} (P Q : X → Type 0) → ((x : X) → P x → Q x) → (xs : List X) → AllByRecursion P xs → AllByRecursion Q xs
all_mapped P Q f [] h = tt
all_mapped P Q f (x ∷ xs) h = (f x h.0, all_mapped P Q f xs h.1)

less_from : (o : Ordering) → is_lt o ≡ true → o ≡ Less
less_from Less e = refl
less_from Equal e = absurd (true≢false (sym e))
less_from Greater e = absurd (true≢false (sym e))

greater_from : (o : Ordering) → is_lt o ≡ false → o ≢ Equal → o ≡ Greater
greater_from Less e other = absurd (true≢false e)
greater_from Equal e other = absurd (other refl)
greater_from Greater e other = refl

-- what stands behind one that doesn't stand before x doesn't either
not_before : {X : Type 0} (c : X → X → Ordering) → IsTotalOrder c → (x y z : X) → is_lt (c y x) ≡ false → c y z ≡ Less → is_lt (c z x) ≡ false
not_before c o x y z e h = by (is_lt (c z x)) refl
  where
    by : (b : Bool) → is_lt (c z x) ≡ b → b ≡ false
    by true before = absurd (true≢false (sym (ap is_lt (o.trans y z x h (less_from (c z x) before))) ∙ e))
    by false before = refl

pub none_before : {X : Type 0} (c : X → X → Ordering) → IsTotalOrder c → (x y : X) (ys : List X) → is_lt (c y x) ≡ false → AllByRecursion (λ z. c y z ≡ Less) ys → AllByRecursion (λ z. is_lt (c z x) ≡ false) ys
none_before c o x y ys e h = all_mapped (λ z. c y z ≡ Less) (λ z. is_lt (c z x) ≡ false) (λ z k. not_before c o x y z e k) ys h

pub all_negated : {X : Type 0} (test : X → Bool) (xs : List X) → AllByRecursion (λ x. test x ≡ false) xs → AllByRecursion (λ x. not (test x) ≡ true) xs
all_negated test [] h = tt
all_negated test (x ∷ xs) h = (ap not h.0, all_negated test xs h.1)

-- one that ties with none, behind those that stand before it
pub sorted_with_one : {X : Type 0} (c : X → X → Ordering) → IsTotalOrder c → (x : X) (xs : List X) → IsStrictlySortedBy c xs → AllByRecursion (λ y. c y x ≢ Equal) xs
    → IsStrictlySortedBy c (filter (λ y. is_lt (c y x)) xs ++ x ∷ filter (λ y. not (is_lt (c y x))) xs)
unfolding IsStrictlySortedBy
sorted_with_one c o x [] h other = (tt, tt)
sorted_with_one {X} c o x (y ∷ ys) h other = by (is_lt (c y x)) refl (sorted_with_one c o x ys h.1 other.1)
  where
    before : X → Bool
    before z = is_lt (c z x)

    behind : X → Bool
    behind z = not (is_lt (c z x))

    by : (b : Bool) → before y ≡ b → IsStrictlySortedBy c (filter before ys ++ x ∷ filter behind ys)
        → IsStrictlySortedBy c (cond b (y ∷ filter before ys) (filter before ys) ++ x ∷ cond (not b) (y ∷ filter behind ys) (filter behind ys))
    by true e rest =
        (all_joined (λ z. c y z ≡ Less) (filter before ys) (x ∷ filter behind ys) (all_kept (λ z. c y z ≡ Less) before ys h.0) (less_from (c y x) e, all_kept (λ z. c y z ≡ Less) behind ys h.0), rest)
    by false e rest =
        let none = none_before c o x y ys e h.0 in
        let first : c x y ≡ Less = o.antisymm x y ∙ ap ordering_reverse (greater_from (c y x) e other.0) in
        subst (λ zs. IsStrictlySortedBy c (zs ++ x ∷ y ∷ filter behind ys)) (sym (filter_none before ys none))
        (subst (λ zs. IsStrictlySortedBy c (x ∷ y ∷ zs)) (sym (filter_whole behind ys (all_negated before ys none)))
        ((first, all_mapped (λ z. c y z ≡ Less) (λ z. c x z ≡ Less) (λ z k. o.trans x y z first k) ys h.0), h))

-- what stands before one that stands before x does too
pub before_rises : {X : Type 0} (c : X → X → Ordering) → IsTotalOrder c → (y z x : X) → c y z ≡ Less → is_lt (c z x) ≡ true → is_lt (c y x) ≡ true
before_rises c o y z x h e = ap is_lt (o.trans y z x h (less_from (c z x) e))

-- ---- one less

-- what is there is the first, or is there behind it
there_cases : {X : Type 0} (y x : X) (ys : List X) (k : ℕ) → k < length (y ∷ ys) → get_or (y ∷ ys) k x ≡ x → (y ≡ x) ⊎ Contains ys x
there_cases y x ys zero within e = inl e
there_cases y x ys (suc k) within e = inr (k, omega (arith, within), e)

-- what doesn't stand before one that is there begins with it
pub behind_itself : {X : Type 0} (c : X → X → Ordering) → IsTotalOrder c → (x : X) (xs : List X) → IsStrictlySortedBy c xs → Contains xs x
    → (rest : List X) × (filter (λ y. not (is_lt (c y x))) xs ≡ x ∷ rest)
unfolding IsStrictlySortedBy
behind_itself c o x [] h there = absurd (omega (arith, there.1))
behind_itself {X} c o x (y ∷ ys) h there =
    elim (there_cases y x ys there.0 there.1 there.2) as (λ _. (rest : List X) × (cond (not (is_lt (c y x))) (y ∷ filter behind ys) (filter behind ys) ≡ x ∷ rest)) [
      | inl same ↦ (
        filter behind ys,
        subst (λ z. cond (not (is_lt (c z x))) (z ∷ filter behind ys) (filter behind ys) ≡ x ∷ filter behind ys) (sym same)
            (ap (λ r. cond (not (is_lt r)) (x ∷ filter behind ys) (filter behind ys)) (tied_itself o x)),
      )
      | inr later ↦
          let first = All-contains (λ z. c y z ≡ Less) ys x (All-from_recursion (λ z. c y z ≡ Less) ys h.0) later in
          let more = behind_itself c o x ys h.1 later in
          (more.0, ap (λ r. cond (not (is_lt r)) (y ∷ filter behind ys) (filter behind ys)) first ∙ more.1)
    ]
  where
    behind : X → Bool
    behind z = not (is_lt (c z x))

pub none_counted : {X : Type 0} (test : X → Bool) (xs : List X) → count_by test xs ≡ 0 → AllByRecursion (λ x. test x ≡ false) xs
none_counted test [] e = tt
none_counted {X} test (x ∷ xs) e = by (test x) refl (none_counted test xs)
  where
    by : (b : Bool) → test x ≡ b → (count_by test xs ≡ 0 → AllByRecursion (λ y. test y ≡ false) xs) → (test x ≡ false) × AllByRecursion (λ y. test y ≡ false) xs
    by true k rest = let one : ◌≡◌ {A = ℕ} (cond (test x) 1 0) 1 = ap (λ (b : Bool). cond b 1 0) k in
        absurd (omega (arith, one, e, sum_by-cons (λ (y : X). cond (test y) 1 0) x xs))
    by false k rest = (k, rest (omega (arith, e, sum_by-cons (λ (y : X). cond (test y) 1 0) x xs)))

-- where one alone passes a test, the others are what it leaves
left_by : {X : Type 0} (test : X → Bool) (x : X) (xs ys : List X) → test x ≡ true → count_by test (xs ++ x ∷ ys) ≤ 1 → filter (λ y. not (test y)) (xs ++ x ∷ ys) ≡ xs ++ ys
left_by {X} test x xs ys is one =
    let here : ◌≡◌ {A = ℕ} (cond (test x) 1 0) 1 = ap (λ (b : Bool). cond b 1 0) is in
    let all = sum_by-append (λ (y : X). cond (test y) 1 0) xs (x ∷ ys) in
    let later = sum_by-cons (λ (y : X). cond (test y) 1 0) x ys in
    let front = filter_whole (λ y. not (test y)) xs (all_negated test xs (none_counted test xs (omega (arith, one, here, all, later)))) in
    let back = filter_whole (λ y. not (test y)) ys (all_negated test ys (none_counted test ys (omega (arith, one, here, all, later)))) in
    filter-append (λ y. not (test y)) xs (x ∷ ys) ∙ ap (λ zs. zs ++ filter (λ y. not (test y)) (x ∷ ys)) front
    ∙ ap (λ b. xs ++ cond (not b) (x ∷ filter (λ y. not (test y)) ys) (filter (λ y. not (test y)) ys)) is ∙ ap (λ zs. xs ++ zs) back

-- one that is there stands where those end that stand before it
pub stands_there : {X : Type 0} (x : X) (xs rest : List X) (i : ℕ) → drop i xs ≡ x ∷ rest → i < length xs
stands_there x xs rest i e = let long = ap length e in omega (arith, long, length-drop i xs)

pub one_less : {X : Type 0} (test : X → Bool) (x : X) (xs rest : List X) (i : ℕ) → drop i xs ≡ x ∷ rest → test x ≡ true → count_by test xs ≤ 1 → remove xs i ≡ filter (λ y. not (test y)) xs
one_less {X} test x xs rest i e is one =
    let whole : xs ≡ take i xs ++ x ∷ rest = sym (take-append-drop i xs) ∙ ap (λ zs. take i xs ++ zs) e in
    let next : suc i ≡ i + 1 = omega arith in
    let after : drop (suc i) xs ≡ rest = ap (λ k. drop k xs) next ∙ sym (drop-drop 1 i xs) ∙ ap (drop 1) e in
    ap (λ zs. take i xs ++ zs) after ∙ sym (left_by test x (take i xs) rest is (subst (λ zs. count_by test zs ≤ 1) whole one)) ∙ ap (filter (λ y. not (test y))) (sym whole)
