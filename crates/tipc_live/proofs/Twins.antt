-- A stamp that stands twice among stamps that don't fall stands beside itself.
use Rattle.std.specs.List.{count_by}
use Rattle.std.specs.List.Sorted.{IsNonDecreasing, IsNonDecreasingBy}
use Rattle.std.proofs.Common.{◌≡◌, ℕ, zero, suc, ◌+◌, ◌-◌, ◌==◌, ◌<◌, ◌≤◌, Bool, true, false, arith, List, get_or, length, map, take, refl, sym, subst, ◌∙◌, ap, eq-eqb, eqb-true}
use Rattle.std.proofs.lemmas.Bool.Decides.{nat_tests}
use Rattle.std.proofs.lemmas.List.{get_or-map, length-map, take_all}
use Rattle.std.proofs.lemmas.List.Sums.{count_by_more_no, count_by_more_yes}
use Rattle.tipc_live.specs.declared.keeping.KeptStep.{KeptStep}
use Rattle.tipc_live.specs.Keeping.{FirstTwice, stamp_of, uses_in}

-- numbers rise up to a place
abbrev pub RiseTo : List ℕ → ℕ → Type 0
RiseTo xs n = (i j : ℕ) → i < j → j < n → get_or xs i 0 < get_or xs j 0

-- a larger number is another
apart : (x y : ℕ) → y < x → (x == y) ≡ false
apart x y less = grind (arith, nat_tests)

-- ---- counts up to a place

-- none of those between two places passes
counted_more : (p : ℕ → Bool) (xs : List ℕ) (n k : ℕ) → n + k ≤ length xs → ((i : ℕ) → n ≤ i → i < n + k → p (get_or xs i 0) ≡ false)
    → count_by p (take (n + k) xs) ≡ count_by p (take n xs)
counted_more p xs n zero few none =
    let e : n + zero ≡ n = omega arith in
    ap (λ m. count_by p (take m xs)) e
counted_more p xs n (suc k) few none =
    let e : n + suc k ≡ n + k + 1 = omega arith in
    let within : n + k < length xs = omega (arith, few) in
    ap (λ m. count_by p (take m xs)) e
    ∙ count_by_more_no p xs (n + k) 0 within (none (n + k) (omega arith) (omega arith))
    ∙ counted_more p xs n k (omega (arith, within)) (λ i low high. none i low (omega (arith, high)))

-- more may pass up to a later place
pub counted_up : (p : ℕ → Bool) (xs : List ℕ) (n k : ℕ) → n + k ≤ length xs → count_by p (take n xs) ≤ count_by p (take (n + k) xs)
counted_up p xs n zero few =
    let e : n + zero ≡ n = omega arith in
    let same = ap (λ m. count_by p (take m xs)) e in
    omega (arith, same)
counted_up p xs n (suc k) few =
    let e : n + suc k ≡ n + k + 1 = omega arith in
    let within : n + k < length xs = omega (arith, few) in
    let up = counted_up p xs n k (omega (arith, within)) in
    subst (λ m. count_by p (take n xs) ≤ count_by p (take m xs)) (sym e)
    ((elim (p (get_or xs (n + k) 0)) as (λ b. p (get_or xs (n + k) 0) ≡ b → count_by p (take n xs) ≤ count_by p (take (n + k + 1) xs)) [
      | true ↦ λ is. let more = count_by_more_yes p xs (n + k) 0 within is in omega (arith, up, more)
      | false ↦ λ is. let more = count_by_more_no p xs (n + k) 0 within is in omega (arith, up, more)
    ]) refl)

-- all of a list
pub counted_all : (p : ℕ → Bool) (xs : List ℕ) (n : ℕ) → length xs ≤ n → count_by p (take n xs) ≡ count_by p xs
counted_all p xs n all = ap (count_by p) (take_all n xs all)

-- ---- rising numbers

-- each number stands once at most among those that rise
rise_once : (xs : List ℕ) (n : ℕ) → RiseTo xs n → n ≤ length xs → (x : ℕ) → count_by (λ y. y == x) (take n xs) ≤ 1
rise_once xs zero rise few x = let none : count_by (λ y. y == x) (take zero xs) ≡ 0 = refl in omega (arith, none)
rise_once xs (suc n) rise few x =
    let e : suc n ≡ n + 1 = omega arith in
    let within : n < length xs = omega (arith, few) in
    subst (λ m. count_by (λ y. y == x) (take m xs) ≤ 1) (sym e)
    ((elim (get_or xs n 0 == x) as (λ b. (get_or xs n 0 == x) ≡ b → count_by (λ y. y == x) (take (n + 1) xs) ≤ 1) [
      | true ↦ λ is.
          let more = count_by_more_yes (λ y. y == x) xs n 0 within is in
          let same : get_or xs n 0 ≡ x = eqb-true _ _ is in
          let none = counted_more (λ y. y == x) xs 0 n (omega (arith, within)) (λ i low high. below_is_other i (omega (arith, high)) same) in
          let first : count_by (λ y. y == x) (take 0 xs) ≡ 0 = refl in
          let here = ap (λ m. count_by (λ y. y == x) (take m xs)) (zero_more n) in
          omega (arith, more, none, first, here)
      | false ↦ λ is.
          let more = count_by_more_no (λ y. y == x) xs n 0 within is in
          let once = rise_once xs n (λ i j before high. rise i j before (omega (arith, high))) (omega (arith, within)) x in
          omega (arith, more, once)
    ]) refl)
  where
    zero_more : (k : ℕ) → 0 + k ≡ k
    zero_more k = omega arith

    other : (y z : ℕ) → y < z → (y == z) ≡ false
    other y z less = grind (arith, nat_tests)

    below_is_other : (i : ℕ) → i < n → get_or xs n 0 ≡ x → (get_or xs i 0 == x) ≡ false
    below_is_other i less same = let rising = rise i n less (omega arith) in other (get_or xs i 0) x (omega (arith, rising, same))

-- so it is among all, where all rise
pub once_where_rising : (xs : List ℕ) (n : ℕ) → RiseTo xs n → length xs ≤ n → (x : ℕ) → uses_in xs x ≤ 1
once_where_rising xs n rise all x =
    let once = rise_once xs (length xs) (λ i j before high. rise i j before (omega (arith, high, all))) (omega arith) x in
    let whole = counted_all (λ y. y == x) xs (length xs) (omega arith) in
    omega (arith, once, whole)

-- numbers that don't fall rise up to one place more, where the next is another
pub rise_more : (xs : List ℕ) (m n : ℕ) → n ≡ m + 1 → IsNonDecreasing xs → RiseTo xs n → n < length xs → (get_or xs m 0 ≡ get_or xs n 0 → ⊥) → RiseTo xs (n + 1)
rise_more xs m n next order rise within other i j before high =
    (elim (j == n) as (λ b. (j == n) ≡ b → get_or xs i 0 < get_or xs j 0) [
      | true ↦ λ is.
          let same : j ≡ n = eqb-true _ _ is in
          let up = order i m 0 (omega (arith, before, same, next)) (omega (arith, within, next)) in
          let last = order m n 0 (omega (arith, next)) within in
          let there = ap (λ k. get_or xs k 0) same in
          let differ : get_or xs m 0 < get_or xs n 0 = omega (arith, last, other) in
          omega (arith, up, differ, there)
      | false ↦ λ is. rise i j before (earlier is)
    ]) refl
  where
    earlier : (j == n) ≡ false → j < n
    earlier isnt = grind (arith, nat_tests)

-- ---- twins

-- where numbers that rose so far stand beside themselves, that is the first that stands twice
pub twins : (xs : List ℕ) (m n : ℕ) → n ≡ m + 1 → IsNonDecreasing xs → RiseTo xs n → n < length xs → get_or xs m 0 ≡ get_or xs n 0
    → FirstTwice xs (get_or xs n 0)
twins xs m n next order rise within same = record { twice = twice; first = first }
  where
    x : ℕ
    x = get_or xs n 0

    p : ℕ → Bool
    p = λ y. y == get_or xs n 0

    twice : 2 ≤ uses_in xs (get_or xs n 0)
    twice =
        let one = count_by_more_yes (λ y. y == get_or xs n 0) xs m 0 (omega (arith, within, next)) (eq-eqb _ _ same) in
        let two = count_by_more_yes (λ y. y == get_or xs n 0) xs n 0 within (eq-eqb (get_or xs n 0) _ refl) in
        let link = ap (λ k. count_by (λ y. y == get_or xs n 0) (take k xs)) next in
        let up = counted_up (λ y. y == get_or xs n 0) xs (n + 1) (length xs - (n + 1)) (omega (arith, within)) in
        let all = counted_all (λ y. y == get_or xs n 0) xs (n + 1 + (length xs - (n + 1))) (omega (arith, within)) in
        omega (arith, one, two, link, up, all)

    first : (t : ℕ) → t < get_or xs n 0 → uses_in xs t ≤ 1
    first t less =
        let once = rise_once xs n rise (omega (arith, within)) t in
        let more = counted_more (λ y. y == t) xs n (length xs - n) (omega (arith, within)) (λ i low high. apart _ t (above i low high)) in
        let all = counted_all (λ y. y == t) xs (n + (length xs - n)) (omega (arith, within)) in
        omega (arith, once, more, all)
      where
        above : (i : ℕ) → n ≤ i → i < n + (length xs - n) → t < get_or xs i 0
        above i low high = let up = order n i 0 low (omega (arith, high, within)) in omega (arith, up, less)

-- ---- steps in order of stamp

-- the stamps of such steps don't fall
pub stamps_in_order : (ks : List KeptStep) → IsNonDecreasingBy stamp_of ks → IsNonDecreasing (map stamp_of ks)
stamps_in_order ks order i j d low high =
    let none : KeptStep = record { by = record { stamp = 0; caller = 0; call = 0 }; node = 0; begin = 0; end = 0 } in
    let size = length-map ks stamp_of in
    let one = order i j none low (omega (arith, high, size)) in
    let first = get_or-map stamp_of ks i none d (omega (arith, low, high, size)) in
    let second = get_or-map stamp_of ks j none d (omega (arith, high, size)) in
    omega (arith, one, first, second)
