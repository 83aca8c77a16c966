-- Tokens that are numbers.
use Rattle.std.proofs.Common.{◌≡◌, ℕ, ◌-◌, ◌^◌, ◌<◌, ◌≤◌, true, false, Option, Some, None, List, [], ◌∷◌, length, get_or, refl, sym, ap, subst, ◌∙◌, arith, inl, inr, zero, suc, eqb}
use Rattle.std.specs.Fmt.{decimal}
use Rattle.std.specs.Str.Parse.{AllDigits, digits_value}
use Rattle.std.specs.Char.{digit_value}
use Rattle.std.specs.Int.{IsInRange, IsOutOfRange}
use Rattle.std.specs.Option.{MatchOption}
use Rattle.std.proofs.Math.Nat.{pow-le-pow_right}
use Rattle.std.proofs.lemmas.Bool.{and_parts, and_from, leb-true, le-leb, false_from_ne_true, ne_eqb, not_from_false, not_from_true, eq-eqb}
use Rattle.std.proofs.lemmas.Slice.Eq.{bytes_eq-Decides}
use Rattle.std.proofs.lemmas.Str.Parse.{IsNumeralModel, numerals_by_value, tells_digits, digit_at}
use Rattle.std.proofs.lemmas.Str.{digit_value_digit}
use Rattle.std.proofs.lemmas.Int.Digits.{digits_value-lt}
use Rattle.std.proofs.lemmas.Fmt.{decimal_is_IsNumeral, decimal-digits_value, first_decimal, decimal_digit}
use Rattle.tipc_script.specs.Kinds.{is_number, number_of, has_plain_front}

own : IsNumeralModel (AllDigits 10) (digits_value 10)
own = numerals_by_value (AllDigits 10) tells_digits

-- at most ten digits stand for less than 10 ^ 10
pub number_of_below : (token : List ℕ) (k : ℕ) → AllDigits 10 token → length token ≤ k → number_of token < 10 ^ k
number_of_below token k digits short =
    let wide : 10 ^ length token ≤ 10 ^ k = pow-le-pow_right {n = 10} (omega arith) short in
    omega (arith, digits_value-lt 10 token digits, wide)

plain_front_zero : (token : List ℕ) → has_plain_front token ≡ true → get_or token 0 0 ≡ 48 → length token ≡ 1
plain_front_zero [] plain e = absurd cc
plain_front_zero (byte ∷ []) plain e = refl
plain_front_zero (byte ∷ next ∷ bytes) plain e = absurd (cc (not_from_true (eqb byte 48) (eq-eqb byte 48 e)))

plain_front_some : (token : List ℕ) → has_plain_front token ≡ true → 0 < length token
plain_front_some [] plain = absurd cc
plain_front_some (byte ∷ bytes) plain = omega arith

-- digits with a plain front are those that their number is written with
pub spelled : (token : List ℕ) → has_plain_front token ≡ true → length token ≤ 10 → AllDigits 10 token → token ≡ decimal (number_of token)
spelled token plain short digits =
    sym (decimal-digits_value own token digits (plain_front_some token plain) (plain_front_zero token plain) (omega (arith, number_of_below token 10 digits short)))

plain_front_from : (token : List ℕ) → 0 < length token → (get_or token 0 0 ≡ 48 → length token ≡ 1) → has_plain_front token ≡ true
plain_front_from [] some plain = absurd (omega arith)
plain_front_from (byte ∷ []) some plain = refl
plain_front_from (byte ∷ next ∷ bytes) some plain = not_from_false (eqb byte 48) (ne_eqb byte 48 (λ e. absurd (omega (arith, plain e))))

-- a number is written with a plain front
pub has_plain_front-decimal : (n : ℕ) → n < 2 ^ 64 → has_plain_front (decimal n) ≡ true
has_plain_front-decimal zero small = rw (decimal_digit 0 (omega arith)) refl
has_plain_front-decimal (suc n) small =
    plain_front_from (decimal (suc n)) (decimal_is_IsNumeral (suc n) small).0.0 (λ e. absurd (omega (arith, first_decimal (suc n) (omega arith) small, e)))

-- what a number is written with is digits, which stand for it
pub digits_decimal : (n : ℕ) → n < 2 ^ 64 → AllDigits 10 (decimal n)
digits_decimal n small = (decimal_is_IsNumeral n small).0.1

pub number_of-decimal : (n : ℕ) → n < 2 ^ 64 → number_of (decimal n) ≡ n
number_of-decimal n small = (decimal_is_IsNumeral n small).1

-- what a digit stands for
pub digit_is : (byte : ℕ) → IsInRange 48 57 byte → (digit_value byte ≡ byte - 48) × (digit_value byte < 10)
digit_is byte within = let is = digit_value_digit byte within in (omega arith, omega arith)

-- where a byte is no digit, not each is one
pub not_digits : (token : List ℕ) (i : ℕ) → i < length token → IsOutOfRange 48 57 (get_or token i 0) → AllDigits 10 token → ⊥
not_digits token i lt out digits = let within = digit_at token i digits lt in elim out [ inl low ↦ omega arith | inr high ↦ omega arith ]

-- a token that isn't spelled as a number is
pub not_plain : (token : List ℕ) → has_plain_front token ≡ false → (n : ℕ) → n < 10 ^ 10 → token ≡ decimal n → ⊥
not_plain token front n small e = absurd (cc (has_plain_front-decimal n (omega arith), ap has_plain_front e))

-- what is read of ten bytes at most with a plain front
pub read_digits : (token : List ℕ) (number : Option ℕ) → has_plain_front token ≡ true → length token ≤ 10 → MatchOption number (AllDigits 10 token → ⊥) (λ n. AllDigits 10 token × (n ≡ number_of token))
    → MatchOption number ((n : ℕ) → n < 10 ^ 10 → token ≡ decimal n → ⊥) (λ n. (n ≡ number_of token) × (token ≡ decimal n))
read_digits token None plain short none = λ n small e. none (subst (λ t. AllDigits 10 t) (sym e) (digits_decimal n (omega arith)))
read_digits token (Some n) plain short some = (some.1, spelled token plain short some.0 ∙ ap decimal (sym some.1))

-- the parts of the test
pub record IsNumberToken (low high : ℕ) (token : List ℕ) : Type 0 where
  pub spelled : token ≡ decimal (number_of token)
  pub above : low ≤ number_of token
  pub below : number_of token ≤ high

pub is_number_parts : (low high : ℕ) (token : List ℕ) → is_number low high token ≡ true → IsNumberToken low high token
unfolding is_number
is_number_parts low high token e =
    let first = and_parts _ _ e in
    let front = and_parts _ _ first.0 in
    record {
      spelled = (bytes_eq-Decides token (decimal (number_of token))).0 front.0;
      above = leb-true _ _ front.1;
      below = leb-true _ _ first.1;
    }

pub is_number_from : (low high : ℕ) (token : List ℕ) → token ≡ decimal (number_of token) → low ≤ number_of token → number_of token ≤ high → is_number low high token ≡ true
unfolding is_number
is_number_from low high token e above below =
    and_from _ _ (and_from _ _ ((bytes_eq-Decides token (decimal (number_of token))).1 e) (le-leb _ _ above)) (le-leb _ _ below)

pub is_number-decimal : (low high n : ℕ) → low ≤ n → n ≤ high → n < 2 ^ 64 → is_number low high (decimal n) ≡ true
is_number-decimal low high n above below small =
    let same = number_of-decimal n small in
    is_number_from low high (decimal n) (ap decimal (sym same)) (omega (arith, same)) (omega (arith, same))

pub is_number_none : (low high : ℕ) (token : List ℕ) → ((n : ℕ) → low ≤ n → n ≤ high → token ≡ decimal n → ⊥) → is_number low high token ≡ false
is_number_none low high token none =
    false_from_ne_true _ (λ e. let parts = is_number_parts low high token e in none (number_of token) parts.above parts.below parts.spelled)
