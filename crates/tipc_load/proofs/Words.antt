-- Words of a line, and the line of some words.
use Rattle.std.proofs.Common.{◌≡◌, ℕ, ◌*◌, ◌+◌, ◌^◌, ◌<◌, ◌≤◌, true, List, [], ◌∷◌, ◌++◌, length, refl, ◌∙◌, arith}
use Rattle.std.specs.Prelude.{nat_le}
use Rattle.std.specs.List.{AllByRecursion, join_with_byte}
use Rattle.std.specs.Fmt.{decimal}
use Rattle.std.specs.Str.Parse.{AllDigits}
use Rattle.std.proofs.lemmas.Bool.{and_from, leb-true, ne_eqb, not_from_false}
use Rattle.std.proofs.lemmas.Fmt.{decimal_nonempty, length-decimal-le}
use Rattle.std.proofs.lemmas.List.{length-append}
use Rattle.std.proofs.lemmas.List.Folds.{list_all-append}
use Rattle.std.proofs.lemmas.Str.Parse.{digit_from_value}
use Rattle.tipc_script.proofs.Numerals.{digits_decimal}
use Rattle.tipc_load.specs.Clear.{has_no_newline}

-- a word: one to eleven bytes, none of them a newline
pub record IsWord (word : List ℕ) : Type 0 where
  pub some : 0 < length word
  pub short : length word ≤ 11
  pub whole : has_no_newline word ≡ true

digits_whole : (digits : List ℕ) → AllDigits 10 digits → has_no_newline digits ≡ true
digits_whole [] all = refl
digits_whole (byte ∷ digits) all =
    let within = digit_from_value byte all.0 in
    and_from _ _ (not_from_false _ (ne_eqb byte 10 (λ e. omega arith))) (digits_whole digits all.1)

-- a number is a word
pub decimal_word : (n : ℕ) → n < 2 ^ 32 → IsWord (decimal n)
decimal_word n small =
    let wide : n < 2 ^ 64 = omega arith in
    record {
      some = decimal_nonempty n wide;
      short = omega (arith, length-decimal-le 10 n (omega arith) (omega arith) wide);
      whole = digits_whole (decimal n) (digits_decimal n wide);
    }

-- a word that is written out
pub literal : (word : List ℕ) → nat_le 1 (length word) ≡ true → nat_le (length word) 11 ≡ true → has_no_newline word ≡ true → IsWord word
literal word some short whole = record { some = leb-true 1 (length word) some; short = leb-true (length word) 11 short; whole = whole }

-- the word of a body of the pattern
pub star_word : (n : ℕ) → n < 2 ^ 32 → IsWord (42 ∷ decimal n)
star_word n small =
    let wide : n < 2 ^ 64 = omega arith in
    record { some = omega arith; short = omega (arith, length-decimal-le 10 n (omega arith) (omega arith) wide); whole = (decimal_word n small).whole }

-- words with single spaces between them
pub record IsRow (count : ℕ) (text : List ℕ) : Type 0 where
  pub some : 0 < length text
  pub short : length text ≤ 12 * count
  pub whole : has_no_newline text ≡ true

one_word : (word : List ℕ) → IsWord word → IsRow 1 word
one_word word h = record { some = h.some; short = omega (arith, h.short); whole = h.whole }

one_more : (count : ℕ) (word text : List ℕ) → IsWord word → IsRow count text → IsRow (count + 1) (word ++ 32 ∷ text)
one_more count word text h row =
    let long : length (word ++ 32 ∷ text) ≡ length word + length (32 ∷ text) = length-append word (32 ∷ text) in
    record {
      some = omega (arith, long, h.some);
      short = omega (arith, long, h.short, row.short);
      whole = list_all-append _ word (32 ∷ text) ∙ and_from _ _ h.whole row.whole;
    }

pub row_of_words : (word : List ℕ) (words : List (List ℕ)) → AllByRecursion IsWord (word ∷ words) → IsRow (length (word ∷ words)) (join_with_byte 32 (word ∷ words))
row_of_words word [] h = one_word word h.0
row_of_words word (next ∷ words) h =
    let more = one_more (length (next ∷ words)) word (join_with_byte 32 (next ∷ words)) h.0 (row_of_words next words h.1) in
    record { some = more.some; short = omega (arith, more.short); whole = more.whole }
