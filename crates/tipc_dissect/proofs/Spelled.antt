-- A line of digits is the frame that it spells, in lower-case hexadecimal.
use Rattle.std.proofs.Common.{◌≡◌, ℕ, zero, suc, ◌+◌, ◌-◌, ◌*◌, ◌/◌, ◌%◌, ◌<◌, ◌≤◌, ◌⊎◌, inl, inr, Bool, true, false, not, cond, Option, Some, None, List, [], ◌∷◌, ◌++◌, length, drop, slice_index, refl, sym, ap, ◌∙◌, append_assoc, append-nil, arith}
use Rattle.std.specs.Prelude.{◌==◌, ◌&&◌, ◌||◌, nat_le, if◌then◌else◌, position}
use Rattle.std.specs.List.{AllPass, position_or_len}
use Rattle.std.proofs.lemmas.Bool.{and_parts, cases_lt, eqb-true, leb-true, lt-ltb}
use Rattle.std.proofs.lemmas.Bool.Decides.{nat_tests}
use Rattle.std.proofs.lemmas.List.{length-drop}
use Rattle.std.proofs.lemmas.List.Elements.{All-from_get_or, All-get_or, All-head, All-tail}
use Rattle.std.proofs.lemmas.List.Sums.{fails_before_first}
use Rattle.hex.specs.Hex.{encode_lower, encode_with, lower_digits}
use Rattle.hex.proofs.Pairs.{drop-pair}
use Rattle.tipc_dissect.specs.Digits.{bad_place, is_digit, place_by, spelled_frame, value_of_digit}

-- ---- a line in which nothing is wrong: digits, and an even number of them

abbrev is_other : ℕ → Bool
is_other c = not (is_digit c)

some_or_none : (i : ℕ) → ◌≡◌ {A = Option ℕ} (Some i) None → ⊥
some_or_none i e = cc e

none_before : (line : List ℕ) → position is_other line ≡ None → length line ≤ position_or_len is_other line
none_before line e =
    let k = position_or_len is_other line in
    elim (cases_lt k (length line)) [
      | inl within ↦ absurd (some_or_none k (sym (ap (λ (b : Bool). cond b (Some k) None) (lt-ltb _ _ within)) ∙ e))
      | inr past ↦ past
    ]

not_false : (b : Bool) → not b ≡ false → b ≡ true
not_false true e = refl
not_false false e = cc e

all_digits : (line : List ℕ) → position is_other line ≡ None → AllPass is_digit line
all_digits line e =
    let past = none_before line e in
    All-from_get_or (λ c. is_digit c ≡ true) line 0 (λ k lt. not_false _ (fails_before_first is_other line k 0 (omega (arith, past, lt))))

even_count : (count : ℕ) → (if count % 2 == 1 then Some (count + 1) else None) ≡ None → count % 2 ≡ 0
even_count count = by (count % 2 == 1) refl
  where
    by : (b : Bool) → (count % 2 == 1) ≡ b → (if b then Some (count + 1) else None) ≡ None → count % 2 ≡ 0
    by true odd e = absurd (some_or_none _ e)
    by false even e = grind (arith, nat_tests)

clear_place : (o : Option ℕ) (count : ℕ) → place_by o count ≡ None → (o ≡ None) × (count % 2 ≡ 0)
clear_place (Some i) count e = absurd (some_or_none _ e)
clear_place None count e = (refl, even_count count e)

pub good_digits : (line : List ℕ) → bad_place line ≡ None → AllPass is_digit line
unfolding bad_place
good_digits line e = all_digits line (clear_place (position is_other line) (length line) e).0

-- ---- a digit and its value

-- the table has these digits at these places
abbrev has_run : ℕ → ℕ → ℕ → Bool
has_run place digit zero = true
has_run place digit (suc n) = (slice_index lower_digits (place + n) == digit + n) && has_run place digit n

run_at : (place digit n k : ℕ) → has_run place digit n ≡ true → k < n → slice_index lower_digits (place + k) ≡ digit + k
run_at place digit zero k all low = absurd (omega arith)
run_at place digit (suc n) k all low =
    let parts = and_parts (slice_index lower_digits (place + n) == digit + n) (has_run place digit n) all in
    elim (cases_lt k n) [
      | inl below ↦ run_at place digit n k parts.1 below
      | inr top ↦
          let e : k ≡ n = omega (arith, top, low) in
          rw e (eqb-true _ _ parts.0)
    ]

-- what is known of the value of a digit: it is the digit's place in the table, and is told by a quotient and a remainder
pub record IsValued (c : ℕ) : Type 0 where
  pub small : value_of_digit c < 16
  pub placed : slice_index lower_digits (value_of_digit c) ≡ c
  pub told : c % 16 + 9 * (c / 64) ≡ value_of_digit c

valued_as : (c v : ℕ) → value_of_digit c ≡ v → v < 16 → slice_index lower_digits v ≡ c → c % 16 + 9 * (c / 64) ≡ v → IsValued c
valued_as c v e small placed told = record { small = omega (arith, e, small); placed = ap (slice_index lower_digits) e ∙ placed; told = told ∙ sym e }

low_value : (c : ℕ) → c ≤ 57 → value_of_digit c ≡ c - 48
low_value c to = grind (arith)

high_value : (c : ℕ) → 97 ≤ c → value_of_digit c ≡ c - 87
high_value c from = grind (arith)

low_valued : (c : ℕ) → 48 ≤ c → c ≤ 57 → IsValued c
low_valued c from to =
    valued_as c (c - 48) (low_value c to) (omega (arith, from, to))
    (ap (slice_index lower_digits) (omega arith) ∙ run_at 0 48 10 (c - 48) refl (omega (arith, from, to)) ∙ omega (arith, from)) (omega (arith, from, to))

high_valued : (c : ℕ) → 97 ≤ c → c ≤ 102 → IsValued c
high_valued c from to =
    valued_as c (c - 87) (high_value c from) (omega (arith, from, to))
    (ap (slice_index lower_digits) (omega (arith, from)) ∙ run_at 10 97 6 (c - 97) refl (omega (arith, from, to)) ∙ omega (arith, from)) (omega (arith, from, to))

either_true : (a b : Bool) → (a || b) ≡ true → (a ≡ true) ⊎ (b ≡ true)
either_true true b e = inl refl
either_true false b e = inr e

pub valued : (c : ℕ) → is_digit c ≡ true → IsValued c
valued c e =
    elim (either_true (nat_le 48 c && nat_le c 57) (nat_le 97 c && nat_le c 102) e) [
      | inl low ↦ let parts = and_parts _ _ low in low_valued c (leb-true _ _ parts.0) (leb-true _ _ parts.1)
      | inr high ↦ let parts = and_parts _ _ high in high_valued c (leb-true _ _ parts.0) (leb-true _ _ parts.1)
    ]

-- ---- pairs of digits

three_same : (a b c d : ℕ) (xs ys : List ℕ) → a ≡ c → b ≡ d → xs ≡ ys → ◌≡◌ {A = List ℕ} (a ∷ b ∷ xs) (c ∷ d ∷ ys)
three_same a b c d xs ys ea eb es = cc

spelled_again : (digits : List ℕ) → AllPass is_digit digits → length digits % 2 ≡ 0 → encode_lower (spelled_frame digits) ≡ digits
unfolding spelled_frame encode_with
spelled_again [] are even = refl
spelled_again (c ∷ []) are even = absurd (omega (arith, even))
spelled_again (c ∷ d ∷ digits) are even =
    let behind = All-tail (λ x. is_digit x ≡ true) c (d ∷ digits) are in
    let high = valued c (All-head (λ x. is_digit x ≡ true) c (d ∷ digits) are) in
    let low = valued d (All-head (λ x. is_digit x ≡ true) d digits behind) in
    let high_small = high.small in
    let low_small = low.small in
    let high_place : (value_of_digit c * 16 + value_of_digit d) / 16 ≡ value_of_digit c = omega (arith, high_small, low_small) in
    let low_place : (value_of_digit c * 16 + value_of_digit d) % 16 ≡ value_of_digit d = omega (arith, high_small, low_small) in
    three_same _ _ _ _ _ _ (ap (slice_index lower_digits) high_place ∙ high.placed) (ap (slice_index lower_digits) low_place ∙ low.placed)
    (spelled_again digits (All-tail (λ x. is_digit x ≡ true) d digits behind) (omega (arith, even)))

pub spelled : (line : List ℕ) → bad_place line ≡ None → line ≡ encode_lower (spelled_frame line)
unfolding bad_place
spelled line e =
    let clear = clear_place (position is_other line) (length line) e in
    sym (spelled_again line (all_digits line clear.0) clear.1)

-- ---- bytes that are read one by one

pub digit_at : (line : List ℕ) (k : ℕ) → AllPass is_digit line → k < length line → is_digit (slice_index line k) ≡ true
digit_at line k are within = All-get_or (λ x. is_digit x ≡ true) line k 0 within are

-- one byte more
pub byte_read : (line front : List ℕ) (index byte : ℕ) → 2 * index + 1 < length line → front ++ spelled_frame (drop (2 * index) line) ≡ spelled_frame line
    → byte ≡ value_of_digit (slice_index line (2 * index)) * 16 + value_of_digit (slice_index line (2 * index + 1))
    → (front ++ byte ∷ []) ++ spelled_frame (drop (2 * (index + 1)) line) ≡ spelled_frame line
unfolding spelled_frame
byte_read line front index byte within before is =
    append_assoc front (byte ∷ []) (spelled_frame (drop (2 * (index + 1)) line))
    ∙ ap (λ (b : ℕ). front ++ b ∷ spelled_frame (drop (2 * (index + 1)) line)) is
    ∙ ap (λ (t : List ℕ). front ++ t) (sym (ap spelled_frame (drop-pair line index within)))
    ∙ before

less_than_two : (digits : List ℕ) → length digits < 2 → spelled_frame digits ≡ []
unfolding spelled_frame
less_than_two [] few = refl
less_than_two (c ∷ []) few = refl
less_than_two (c ∷ d ∷ digits) few = absurd (omega (arith, few))

-- the last byte was read
pub all_read : (line front : List ℕ) (count : ℕ) → count ≡ length line / 2 → front ++ spelled_frame (drop (2 * count) line) ≡ spelled_frame line → front ≡ spelled_frame line
all_read line front count is before =
    let few : length (drop (2 * count) line) < 2 = omega (arith, length-drop (2 * count) line, is) in
    sym (append-nil front) ∙ ap (λ (t : List ℕ). front ++ t) (sym (less_than_two (drop (2 * count) line) few)) ∙ before
