-- Tokens and values: a value is read from the word that it is written as, and a token that is of a kind is written as
-- its value is.
use Rattle.std.proofs.Common.{◌≡◌, ℕ, ◌≤◌, ◌<◌, ◌^◌, true, List, refl, arith}
use Rattle.std.specs.Prelude.{codes}
use Rattle.std.specs.Str.{bytes_eq}
use Rattle.std.specs.Fmt.{decimal}
use Rattle.std.proofs.lemmas.Slice.Eq.{bytes_eq-Decides}
use Rattle.tipc_script.specs.Kinds.{Kind, NewNode, OldNode, AnyNode, BearerNumber, AnyNumber, FrameNumber, RoundsNumber, TimesNumber, SendWord, FormWord, ScopeWord, FilterWord, ImportanceWord, BodyText, is_number, number_of, takes}
use Rattle.tipc_script.specs.Values.{IsValueOf, ValueOf, value_of, word_of}
use Rattle.tipc_script.proofs.Bodies.{is_body_parts, is_word}
use Rattle.tipc_script.proofs.Importances.{importance_of-word, importance_spelled, is_importance-word, no_space-importance}
use Rattle.tipc_script.proofs.Numerals.{is_number-decimal, is_number_parts, number_of-decimal}
use Rattle.tipc_script.proofs.Scopes.{filter_of-word, filter_spelled, form_of-word, form_spelled, is_filter-word, is_form-word, is_scope-word, no_space-filter, no_space-form, no_space-scope, scope_of-word, scope_spelled}
use Rattle.tipc_script.proofs.Spaces.{has_no_space, no_space-decimal}

-- a word is of a kind, and stands for this value
pub record IsWordOf (kind : Kind) (value : ValueOf kind) (word : List ℕ) : Type 0 where
  pub takes_it : takes kind word ≡ true
  pub value_is : value_of kind word ≡ value
  pub whole : has_no_space word ≡ true

-- what a number is written with is a token that stands for it
record IsNumeral (low high n : ℕ) : Type 0 where
  is : is_number low high (decimal n) ≡ true
  value : number_of (decimal n) ≡ n
  whole : has_no_space (decimal n) ≡ true

numeral : (low high n : ℕ) → low ≤ n → n ≤ high → n < 2 ^ 64 → IsNumeral low high n
numeral low high n above below small =
    record { is = is_number-decimal low high n above below small; value = number_of-decimal n small; whole = no_space-decimal n small }

node_numeral : (n : ℕ) → (1 ≤ n) × (n ≤ 32) → IsNumeral 1 32 n
node_numeral n h = numeral 1 32 n h.0 h.1 (omega (arith, h.1))

-- the word of a value is of its kind, and stands for the value
pub word_read : (kind : Kind) (value : ValueOf kind) → IsValueOf kind value → IsWordOf kind value (word_of kind value)
word_read NewNode n h = let m = node_numeral n h in record { takes_it = m.is; value_is = m.value; whole = m.whole }
word_read OldNode n h = let m = node_numeral n h in record { takes_it = m.is; value_is = m.value; whole = m.whole }
word_read AnyNode n h = let m = node_numeral n h in record { takes_it = m.is; value_is = m.value; whole = m.whole }
word_read BearerNumber n h = let m = numeral 0 1 n (omega arith) h (omega (arith, h)) in record { takes_it = m.is; value_is = m.value; whole = m.whole }
word_read AnyNumber n h =
    let m = numeral 0 4294967295 n (omega arith) (omega (arith, h)) (omega (arith, h)) in
    record { takes_it = m.is; value_is = m.value; whole = m.whole }
word_read FrameNumber n h = let m = numeral 0 1000000 n (omega arith) h (omega (arith, h)) in record { takes_it = m.is; value_is = m.value; whole = m.whole }
word_read RoundsNumber n h = let m = numeral 0 1000000 n (omega arith) h (omega (arith, h)) in record { takes_it = m.is; value_is = m.value; whole = m.whole }
word_read TimesNumber n h = let m = numeral 1 1000000 n h.0 h.1 (omega (arith, h.1)) in record { takes_it = m.is; value_is = m.value; whole = m.whole }
word_read SendWord value h = record { takes_it = refl; value_is = refl; whole = refl }
word_read FormWord form h = record { takes_it = is_form-word form; value_is = form_of-word form; whole = no_space-form form }
word_read ScopeWord scope h = record { takes_it = is_scope-word scope; value_is = scope_of-word scope; whole = no_space-scope scope }
word_read FilterWord filter h = record { takes_it = is_filter-word filter; value_is = filter_of-word filter; whole = no_space-filter filter }
word_read ImportanceWord importance h =
    record { takes_it = is_importance-word importance; value_is = importance_of-word importance; whole = no_space-importance importance }
word_read BodyText body h = let w = is_word body h in record { takes_it = w.is; value_is = w.bytes; whole = w.whole }

-- a token is the word of its value
pub record IsWritten (kind : Kind) (token : List ℕ) : Type 0 where
  pub fits : IsValueOf kind (value_of kind token)
  pub written : token ≡ word_of kind (value_of kind token)

is_the_word : (token word : List ℕ) → bytes_eq token word ≡ true → token ≡ word
is_the_word token word e = (bytes_eq-Decides token word).0 e

pub token_written : (kind : Kind) (token : List ℕ) → takes kind token ≡ true → IsWritten kind token
token_written NewNode token e = let n = is_number_parts 1 32 token e in record { fits = (n.above, n.below); written = n.spelled }
token_written OldNode token e = let n = is_number_parts 1 32 token e in record { fits = (n.above, n.below); written = n.spelled }
token_written AnyNode token e = let n = is_number_parts 1 32 token e in record { fits = (n.above, n.below); written = n.spelled }
token_written BearerNumber token e = let n = is_number_parts 0 1 token e in record { fits = n.below; written = n.spelled }
token_written AnyNumber token e = let n = is_number_parts 0 4294967295 token e in record { fits = omega (arith, n.below); written = n.spelled }
token_written FrameNumber token e = let n = is_number_parts 0 1000000 token e in record { fits = n.below; written = n.spelled }
token_written RoundsNumber token e = let n = is_number_parts 0 1000000 token e in record { fits = n.below; written = n.spelled }
token_written TimesNumber token e = let n = is_number_parts 1 1000000 token e in record { fits = (n.above, n.below); written = n.spelled }
token_written SendWord token e = record { fits = tt; written = is_the_word token (codes "send") e }
token_written FormWord token e = record { fits = tt; written = form_spelled token e }
token_written ScopeWord token e = record { fits = tt; written = scope_spelled token e }
token_written FilterWord token e = record { fits = tt; written = filter_spelled token e }
token_written ImportanceWord token e = record { fits = tt; written = importance_spelled token e }
token_written BodyText token e = let b = is_body_parts token e in record { fits = b.told; written = b.spelled }
