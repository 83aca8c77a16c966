-- A line of the grammar has no fault, and asks for what it is spelled from.
use Rattle.std.proofs.Common.{◌≡◌, ℕ, ◌+◌, ◌&&◌, Bool, not, true, false, Some, None, List, [], ◌∷◌, drop, length, refl, sym, ap, subst, ◌∙◌}
use Rattle.std.specs.Prelude.{slice_index_or}
use Rattle.std.specs.List.{list_all}
use Rattle.std.proofs.lemmas.Bool.{and_from, and_parts, not-true}
use Rattle.tipc_script.specs.declared.lines.Line.{Line}
use Rattle.tipc_script.specs.declared.lines.Line.TheVariants.{Nothing}
use Rattle.tipc_script.specs.Splitting.{Left, behind, first_token, tokens_of}
use Rattle.tipc_script.specs.Kinds.{Kind, is_remark, takes}
use Rattle.tipc_script.specs.Values.{ValueOf, value_of, word_of}
use Rattle.tipc_script.specs.Shapes.{Ends, Shape, Spells, Token, line_in}
use Rattle.tipc_script.specs.Grammar.{Asks, Row, asked, row_of, rows}
use Rattle.tipc_script.specs.Grammar.Asks.{by_remark, by_row}
use Rattle.tipc_script.specs.Spelling.{spaced}
use Rattle.tipc_script.specs.Faults.{end_fault, fault_in, fault_of, first_fault, row_fault, why_not}
use Rattle.tipc_script.proofs.Reading.{each_passes, row_found}
use Rattle.tipc_script.proofs.Spaces.{has_no_space, tokens_of-spaced}
use Rattle.tipc_script.proofs.Values.{word_read}

-- tokens have no fault, and ask for this
pub record AreAccepted (shape : Shape) (left : Left) (line : Line) : Type 0 where
  pub none : fault_in shape left ≡ None
  pub line_is : line_in shape left ≡ line

-- the same of a token and what stands behind it, by the value of the token
token_accepted : (kind : Kind) (rest : ValueOf kind → Shape) (left : Left) (value : ValueOf kind) (line : Line) → first_fault (takes kind) (why_not kind) left ≡ None → value_of kind (first_token left) ≡ value → AreAccepted (rest value) (behind left) line
    → AreAccepted (Token kind rest) left line
token_accepted kind rest left value line first is others =
    let h = subst (λ v. AreAccepted (rest v) (behind left) line) (sym is) others in
    record { none = rw first h.none; line_is = h.line_is }

-- words that are spelled in a shape have no fault, and ask for what they are spelled from
pub words_accepted : (shape : Shape) (words : List (List ℕ)) (line : Line) (left : Left) → left.tokens ≡ words → Spells shape words line → AreAccepted shape left line
unfolding end_fault first_fault
words_accepted (Ends line) words wanted left same h = record { none = rw (same, h.0) refl; line_is = sym h.1 }
words_accepted (Token kind rest) words wanted left same h =
    let value = h.0 in
    let others = h.1 in
    let token = word_read kind value h.2 in
    let tokens : left.tokens ≡ word_of kind value ∷ others = same ∙ h.3 in
    let is : value_of kind (first_token left) ≡ value = ap (λ ts. value_of kind (slice_index_or ts 0 [])) tokens ∙ token.value_is in
    token_accepted kind rest left value wanted (rw (tokens, token.takes_it) refl) is
    (words_accepted (rest value) others wanted (behind left) (ap (λ ts. drop 1 ts) tokens) h.4)

-- no such word has a space
pub no_space-words : (shape : Shape) (words : List (List ℕ)) (line : Line) → Spells shape words line → list_all has_no_space words ≡ true
no_space-words (Ends line) words wanted h = ap (λ ws. list_all has_no_space ws) h.0
no_space-words (Token kind rest) words wanted h =
    ap (λ ws. list_all has_no_space ws) h.3 ∙ and_from _ _ (word_read kind h.0 h.2).whole (no_space-words (rest h.0) h.1 wanted h.4)

-- a text has no fault and asks for this
pub record IsAccepted (text : List ℕ) (line : Line) : Type 0 where
  pub fault : fault_of text ≡ None
  pub asked : asked text ≡ line

-- what is left behind a first word, where these tokens follow it
abbrev pub left_behind : List ℕ → List ℕ → List (List ℕ) → Left
left_behind text word tokens = record { tokens = tokens; place = 1 + length word + 1; end = length text + 1 }

-- a first word is one word, and begins no remark
abbrev is_plain : Row → Bool
is_plain row = not (is_remark row.word) && has_no_space row.word

remark_not : (word : List ℕ) (words : List (List ℕ)) → is_remark word ≡ false → is_remark (spaced (word ∷ words)) ≡ false
remark_not [] words e = absurd cc
remark_not (byte ∷ word) [] e = e
remark_not (byte ∷ word) (next ∷ words) e = e

-- a text is no remark, and its tokens are the word of a row and these words
pub record IsParted (text : List ℕ) (row : Row) (words : List (List ℕ)) : Type 0 where
  pub no_remark : is_remark text ≡ false
  pub tokens : tokens_of text ≡ row.word ∷ words

pub row_parted : (text : List ℕ) (row : Row) (words : List (List ℕ)) (line : Line) → row_of row.word ≡ Some row → text ≡ spaced (row.word ∷ words) → Spells row.shape words line → IsParted text row words
unfolding row_of
row_parted text row words line found same h =
    let plain = and_parts _ _ (row_found (λ r. is_plain r ≡ true) rows row.word row (each_passes is_plain rows refl) found).0 in
    let whole = and_from _ _ plain.1 (no_space-words row.shape words line h) in
    record {
      no_remark = ap is_remark same ∙ remark_not row.word words (not-true _ plain.0);
      tokens = ap tokens_of same ∙ tokens_of-spaced row.word words whole;
    }

row_accepted : (text : List ℕ) (row : Row) (words : List (List ℕ)) (line : Line) → row_of row.word ≡ Some row → text ≡ spaced (row.word ∷ words) → Spells row.shape words line → IsAccepted text line
unfolding row_fault fault_of asked
row_accepted text row words line found same h =
    let parted = row_parted text row words line found same h in
    let accepted = words_accepted row.shape words line (left_behind text row.word words) refl h in
    record { fault = rw (parted.no_remark, parted.tokens, found) accepted.none; asked = rw (parted.no_remark, parted.tokens, found) accepted.line_is }

remark_accepted : (text : List ℕ) → is_remark text ≡ true → IsAccepted text Nothing
unfolding fault_of asked
remark_accepted text remark = record { fault = rw remark refl; asked = rw remark refl }

pub asks_accepted : (text : List ℕ) (line : Line) → Asks text line → IsAccepted text line
asks_accepted text _ (by_remark remark) = remark_accepted text remark
asks_accepted text _ (by_row row words wanted found same h) = row_accepted text row words wanted found same h
