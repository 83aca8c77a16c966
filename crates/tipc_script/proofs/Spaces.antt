-- Words with single spaces between them are cut into the same words again.
use Rattle.std.proofs.Common.{◌≡◌, ℕ, ◌^◌, ◌<◌, Bool, true, not, List, [], ◌∷◌, ◌++◌, refl, ap, ◌∙◌, arith, leb}
use Rattle.std.specs.List.{join_with_byte, list_all, onto_first}
use Rattle.std.specs.Fmt.{decimal}
use Rattle.std.specs.Str.Parse.{AllDigits}
use Rattle.std.proofs.lemmas.Bool.{and_parts, and_from, not-true, not_from_false, ne_eqb, leb-true}
use Rattle.std.proofs.lemmas.List.Splits.{slice_split-cons_no}
use Rattle.std.proofs.lemmas.Str.Parse.{digit_from_value}
use Rattle.tipc_script.specs.Kinds.{is_visible}
use Rattle.tipc_script.specs.Splitting.{is_space, tokens_of}
use Rattle.tipc_script.proofs.Numerals.{digits_decimal}

-- no byte is a space
abbrev pub has_no_space : List ℕ → Bool
has_no_space word = list_all (λ byte. not (is_space byte)) word

-- the word before a space is the first token
first_word_split : (word bytes : List ℕ) → has_no_space word ≡ true → tokens_of (word ++ 32 ∷ bytes) ≡ word ∷ tokens_of bytes
first_word_split [] bytes none = refl
first_word_split (byte ∷ word) bytes none =
    let parts = and_parts _ _ none in
    slice_split-cons_no is_space byte (word ++ 32 ∷ bytes) (not-true _ parts.0) ∙ ap (λ ts. onto_first byte ts) (first_word_split word bytes parts.1)

-- a word alone is the one token
one_word_split : (word : List ℕ) → has_no_space word ≡ true → tokens_of word ≡ word ∷ []
one_word_split [] none = refl
one_word_split (byte ∷ word) none =
    let parts = and_parts _ _ none in
    slice_split-cons_no is_space byte word (not-true _ parts.0) ∙ ap (λ ts. onto_first byte ts) (one_word_split word parts.1)

pub tokens_of-spaced : (word : List ℕ) (words : List (List ℕ)) → list_all has_no_space (word ∷ words) ≡ true → tokens_of (join_with_byte 32 (word ∷ words)) ≡ word ∷ words
tokens_of-spaced word [] none = one_word_split word (and_parts (has_no_space word) true none).0
tokens_of-spaced word (next ∷ words) none =
    let parts = and_parts (has_no_space word) (list_all has_no_space (next ∷ words)) none in
    first_word_split word (join_with_byte 32 (next ∷ words)) parts.0 ∙ ap (λ ts. word ∷ ts) (tokens_of-spaced next words parts.1)

no_space_digits : (ds : List ℕ) → AllDigits 10 ds → has_no_space ds ≡ true
no_space_digits [] digits = refl
no_space_digits (byte ∷ ds) digits =
    let within = digit_from_value byte digits.0 in
    and_from _ _ (not_from_false _ (ne_eqb byte 32 (λ e. omega arith))) (no_space_digits ds digits.1)

pub no_space-decimal : (n : ℕ) → n < 2 ^ 64 → has_no_space (decimal n) ≡ true
no_space-decimal n small = no_space_digits (decimal n) (digits_decimal n small)

pub no_space_visible : (text : List ℕ) → list_all is_visible text ≡ true → has_no_space text ≡ true
no_space_visible [] visible = refl
no_space_visible (byte ∷ text) visible =
    let parts = and_parts (is_visible byte) (list_all is_visible text) visible in
    let range = and_parts (leb 33 byte) (leb byte 126) parts.0 in
    and_from _ _ (not_from_false _ (ne_eqb byte 32 (λ e. omega (arith, leb-true 33 byte range.0)))) (no_space_visible text parts.1)
