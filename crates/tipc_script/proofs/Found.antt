-- A line without a fault is a line of the grammar.
use Rattle.std.proofs.Common.{◌≡◌, ℕ, ◌<◌, true, Option, Some, None, List, [], ◌∷◌, length, drop, refl, sym, ap, subst, ◌∙◌, arith, inl, inr}
use Rattle.std.specs.Prelude.{slice_index_or}
use Rattle.std.proofs.lemmas.Bool.{cases_Bool}
use Rattle.std.proofs.lemmas.List.Splits.{join_with_byte-slice_split, length-slice_split}
use Rattle.tipc_script.specs.Splitting.{Left, whole, first_token, behind, is_space, tokens_of}
use Rattle.tipc_script.specs.Kinds.{is_remark, takes}
use Rattle.tipc_script.specs.Values.{value_of}
use Rattle.tipc_script.specs.Shapes.{Ends, Shape, Spells, Token, line_in}
use Rattle.tipc_script.specs.Grammar.{Asks, Row, rows, row_of, asked, asked_by}
use Rattle.tipc_script.specs.Grammar.Asks.{by_remark, by_row}
use Rattle.tipc_script.specs.Spelling.{spaced}
use Rattle.tipc_script.specs.Faults.{row_fault, fault_in, fault_of, fault_by, why_not}
use Rattle.tipc_script.proofs.Reading.{each_passes, ended, or_none, row_found, taken}
use Rattle.tipc_script.proofs.Values.{token_written}

-- tokens without a fault are spelled in their shape, and ask for what is read of them
pub tokens_spelled : (shape : Shape) (left : Left) → fault_in shape left ≡ None → Spells shape left.tokens (line_in shape left)
tokens_spelled (Ends line) left e = (ended left e, refl)
tokens_spelled (Token kind rest) left e =
    let parts = or_none _ _ e in
    let first = taken (takes kind) (why_not kind) left parts.0 in
    let token = token_written kind (first_token left) first.passes in
    let value = value_of kind (first_token left) in (
      value,
      (behind left).tokens,
      token.fits,
      first.there ∙ ap (λ word. word ∷ (behind left).tokens) token.written,
      tokens_spelled (rest value) (behind left) parts.1,
    )

-- a line has a first token
some_token : (text : List ℕ) → tokens_of text ≡ first_token (whole text) ∷ (behind (whole text)).tokens
some_token text = some_first (tokens_of text) (omega (arith, length-slice_split is_space text)) where
  some_first : (tokens : List (List ℕ)) → 0 < length tokens → tokens ≡ slice_index_or tokens 0 [] ∷ drop 1 tokens
  some_first [] some = absurd (omega arith)
  some_first (token ∷ tokens) some = refl

-- the words of a line behind its first word
row_asks : (text : List ℕ) (row : Option Row) → row_of (first_token (whole text)) ≡ row → fault_by row (behind (whole text)) ≡ None → Asks text (asked_by row (behind (whole text)))
unfolding row_of row_fault
row_asks text None found e = absurd cc
row_asks text (Some row) found e =
    let left = behind (whole text) in
    let word = (row_found (λ r. true ≡ true) rows (first_token (whole text)) row (each_passes (λ r. true) rows refl) found).1 in
    let text-is : text ≡ spaced (row.word ∷ left.tokens) = sym (join_with_byte-slice_split 32 text) ∙ ap spaced (some_token text ∙ ap (λ w. w ∷ left.tokens) word) in
    by_row row left.tokens (line_in row.shape left) (subst (λ w. row_of w ≡ Some row) word found) text-is (tokens_spelled row.shape left e)

pub asks_found : (text : List ℕ) → fault_of text ≡ None → Asks text (asked text)
unfolding fault_of asked
asks_found text e =
    elim (cases_Bool (is_remark text)) [
      | inl remark ↦ rw remark (by_remark remark)
      | inr words ↦ rw words (row_asks text (row_of (first_token (whole text))) refl (rw words at e))
    ]
