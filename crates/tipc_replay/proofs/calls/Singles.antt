-- Lists of pieces of which one has an element, and lists of pieces that have one each.
use Rattle.std.proofs.Common.{◌≡◌, ◌≢◌, ◌≤◌, ◌<◌, ◌+◌, ◌-◌, ℕ, zero, suc, List, [], ◌∷◌, ◌++◌, Some, length, map, slice_get, refl, sym, ap, ◌∙◌, arith}
use Rattle.std.specs.List.{flat_map, range_with_len}

-- ---- one piece has an element

pub none_of : {A B : Type 0} (f : A → List B) (xs : List A) → ((j : ℕ) (x : A) → slice_get xs j ≡ Some x → f x ≡ []) → flat_map f xs ≡ []
none_of f [] none = refl
none_of f (x ∷ xs) none = ap (λ ys. ys ++ flat_map f xs) (none zero x refl) ∙ none_of f xs (λ j y there. none (suc j) y there)

pub only_one : {A B : Type 0} (f : A → List B) (xs : List A) (k : ℕ) (x : A) (y : B) → slice_get xs k ≡ Some x → f x ≡ y ∷ [] → ((j : ℕ) (z : A) → j ≢ k → slice_get xs j ≡ Some z → f z ≡ []) → flat_map f xs ≡ y ∷ []
only_one f [] k x y there one others = absurd cc
only_one f (z ∷ zs) zero x y there one others =
    let is : z ≡ x = cc in
    ap (λ ys. ys ++ flat_map f zs) (ap f is ∙ one) ∙ ap (λ ys. y ∷ ys) (none_of f zs (λ j w at. others (suc j) w (λ same. absurd cc) at))
only_one f (z ∷ zs) (suc k) x y there one others =
    ap (λ ys. ys ++ flat_map f zs) (others zero z (λ same. absurd cc) refl)
    ∙ only_one f zs k x y there one (λ j w apart at. others (suc j) w (λ same. apart (let is : j ≡ k = omega (arith, same) in is)) at)

-- ---- each piece has one

-- the numbers from one on have a piece of one element each
pub record AreSingle {B : Type 0} (f : ℕ → List B) (a n : ℕ) : Type 0 where
  pub count : length (flat_map f (range_with_len a n)) ≡ n
  pub each : (k : ℕ) (y : B) → k < n → f (a + k) ≡ y ∷ [] → slice_get (flat_map f (range_with_len a n)) k ≡ Some y

-- one more in front
single_more : {B : Type 0} (f : ℕ → List B) (a n : ℕ) (y : B) → f a ≡ y ∷ [] → AreSingle f (a + 1) n → AreSingle f a (suc n)
single_more {B = B} f a n first is later = record { count = ap length joined ∙ ap suc later.count; each = by }
  where
    joined : flat_map f (range_with_len a (suc n)) ≡ first ∷ flat_map f (range_with_len (a + 1) n)
    joined = ap (λ ys. ys ++ flat_map f (range_with_len (a + 1) n)) is

    by : (k : ℕ) (y : B) → k < suc n → f (a + k) ≡ y ∷ [] → slice_get (flat_map f (range_with_len a (suc n))) k ≡ Some y
    by zero y below one =
        let begins : a + 0 ≡ a = omega arith in
        let same : first ∷ [] ≡ y ∷ [] = sym is ∙ ap f (sym begins) ∙ one in
        let here : first ≡ y = cc in
        ap (λ ys. slice_get ys zero) joined ∙ ap Some here
    by (suc k) y below one =
        let next : (a + 1) + k ≡ a + suc k = omega arith in
        ap (λ ys. slice_get ys (suc k)) joined ∙ later.each k y (omega (arith, below)) (ap f next ∙ one)

pub are_single : {B : Type 0} (f : ℕ → List B) (a n : ℕ) → ((k : ℕ) → k < n → (y : B) × (f (a + k) ≡ y ∷ [])) → AreSingle f a n
are_single f a zero one = record { count = refl; each = λ k y below is. absurd (omega (arith, below)) }
are_single f a (suc n) one =
    let first = one zero (omega arith) in
    let begins : a + 0 ≡ a = omega arith in
    single_more f a n first.0 (ap f (sym begins) ∙ first.1)
    (are_single f (a + 1) n (λ k below. (let next : (a + 1) + k ≡ a + suc k = omega arith in let is = one (suc k) (omega (arith, below)) in (is.0, ap f next ∙ is.1))))

-- ---- ranges, and lists of the same elements

-- a number stands in a range at its distance from the first one
pub in_range : (a n k : ℕ) → a ≤ k → k < a + n → (j : ℕ) × (slice_get (range_with_len a n) j ≡ Some k)
in_range a n k from below = by a n (k - a) (omega (arith, from)) (omega (arith, from, below))
  where
    by : (a n j : ℕ) → a + j ≡ k → j < n → (i : ℕ) × (slice_get (range_with_len a n) i ≡ Some k)
    by a zero j is within = absurd (omega (arith, within))
    by a (suc n) zero is within = let same : a ≡ k = omega (arith, is) in (zero, ap Some same)
    by a (suc n) (suc j) is within = let later = by (a + 1) n j (omega (arith, is)) (omega (arith, within)) in (suc later.0, later.1)

-- no number stands there twice
pub range_apart : (a n i j k : ℕ) → slice_get (range_with_len a n) i ≡ Some k → slice_get (range_with_len a n) j ≡ Some k → i ≡ j
range_apart a n i j k one other = let first = place_of a n i k one in let second = place_of a n j k other in omega (arith, first, second)
  where
    place_of : (a n i k : ℕ) → slice_get (range_with_len a n) i ≡ Some k → k ≡ a + i
    place_of a zero i k there = absurd cc
    place_of a (suc n) zero k there = let same : a ≡ k = cc in omega (arith, same)
    place_of a (suc n) (suc i) k there = let later = place_of (a + 1) n i k there in omega (arith, later)

-- a list of the same length with the same elements at the same places is the same
pub same_list : {A : Type 0} (xs ys : List A) → length ys ≡ length xs → ((k : ℕ) (x : A) → slice_get xs k ≡ Some x → slice_get ys k ≡ Some x) → ys ≡ xs
same_list [] [] long each = refl
same_list [] (y ∷ ys) long each = absurd cc
same_list (x ∷ xs) [] long each = absurd cc
same_list (x ∷ xs) (y ∷ ys) long each =
    let first : Some y ≡ Some x = each zero x refl in
    let here : y ≡ x = cc in
    let sizes : length ys ≡ length xs = omega (arith, long) in
    ap (λ z. z ∷ ys) here ∙ ap (λ zs. x ∷ zs) (same_list xs ys sizes (λ k z there. each (suc k) z there))

-- what stands in what is read of the elements of a list is read of one of them
pub read_of : {A B : Type 0} (f : A → B) (xs : List A) (k : ℕ) (y : B) → slice_get (map f xs) k ≡ Some y → (x : A) × (slice_get xs k ≡ Some x) × (f x ≡ y)
read_of f [] k y there = absurd cc
read_of f (x ∷ xs) zero y there = let is : f x ≡ y = cc in (x, refl, is)
read_of f (x ∷ xs) (suc k) y there = read_of f xs k y there

pub read_at : {A B : Type 0} (f : A → B) (xs : List A) (k : ℕ) (x : A) → slice_get xs k ≡ Some x → slice_get (map f xs) k ≡ Some (f x)
read_at f [] k x there = absurd cc
read_at f (y ∷ ys) zero x there = let is : y ≡ x = cc in ap (λ z. Some (f z)) is
read_at f (y ∷ ys) (suc k) x there = read_at f ys k x there
