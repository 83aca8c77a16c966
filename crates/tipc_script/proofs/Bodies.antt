-- Bodies: what a token stands for, and how a body is written.
use Rattle.std.proofs.Common.{◌≡◌, ℕ, ◌≤◌, ◌%◌, Bool, true, false, ◌||◌, zero, suc, List, [], ◌∷◌, length, drop, refl, ap, sym, ◌∙◌, subst, eqb, leb, inl, inr, arith}
use Rattle.std.specs.List.{list_all, All}
use Rattle.std.specs.Fmt.{decimal}
use Rattle.std.proofs.lemmas.Bool.{and_parts, and_from, leb-true, le-leb, eqb-true, cases_Bool}
use Rattle.std.proofs.lemmas.Bool.Decides.{Decides-by_and}
use Rattle.std.proofs.lemmas.List.FromFn.{length-map-range_with_len}
use Rattle.std.specs.Bool.{Decides}
use Rattle.tipc_script.specs.Kinds.{is_visible, is_text, is_count, is_body, body_of, is_number, pattern, number_of}
use Rattle.tipc_script.specs.Spelling.{body_word, IsText, IsPattern, IsBody}
use Rattle.tipc_script.proofs.Numerals.{is_number_parts, is_number-decimal, number_of-decimal}
use Rattle.tipc_script.proofs.Spaces.{has_no_space, no_space-decimal, no_space_visible}

abbrev pub IsVisible : ℕ → Type 0
IsVisible byte = (33 ≤ byte) × (byte ≤ 126)

visible_decides : (byte : ℕ) → Decides (is_visible byte) (IsVisible byte)
visible_decides byte = (
  λ e. let parts = and_parts (leb 33 byte) (leb byte 126) e in (leb-true 33 byte parts.0, leb-true byte 126 parts.1),
  λ h. and_from (leb 33 byte) (leb byte 126) (le-leb 33 byte h.0) (le-leb byte 126 h.1),
)

all_visible : (text : List ℕ) → Decides (list_all is_visible text) (All IsVisible text)
all_visible text = Decides-by_and is_visible IsVisible (list_all is_visible) visible_decides refl (λ x xs. refl) text

pub length_pattern : (count : ℕ) → length (pattern count) ≡ count
unfolding pattern
length_pattern count = length-map-range_with_len (λ i. i % 251) 0 count

-- a token that is a body is how its bytes are written
pub record IsBodyToken (token : List ℕ) : Type 0 where
  pub spelled : token ≡ body_word (body_of token)
  pub told : IsBody (body_of token)

text_word : (text : List ℕ) → IsText text → body_word text ≡ 61 ∷ text
text_word [] h = absurd (omega (arith, h.0))
text_word (byte ∷ bytes) h =
    let first = and_parts (is_visible byte) (list_all is_visible bytes) ((all_visible (byte ∷ bytes)).1 h.2) in
    rw (first.0) refl

pub pattern_word : (count : ℕ) → body_word (pattern count) ≡ 42 ∷ decimal count
unfolding pattern
pattern_word zero = refl
pattern_word (suc count) = ap (λ n. 42 ∷ decimal n) (length_pattern (suc count))

bytes_of_text : (text : List ℕ) → body_of (61 ∷ text) ≡ text
unfolding body_of is_count
bytes_of_text text = refl

bytes_of_count : (token : List ℕ) → is_count token ≡ true → body_of token ≡ pattern (number_of (drop 1 token))
unfolding body_of
bytes_of_count token e = rw e refl

text_token : (token : List ℕ) → is_text token ≡ true → IsBodyToken token
unfolding is_text
text_token [] e = absurd cc
text_token (sign ∷ text) e =
    let last = and_parts _ _ e in
    let second = and_parts _ _ last.0 in
    let first = and_parts _ _ second.0 in
    let told : IsText text = (leb-true 1 (length text) first.1, leb-true (length text) 64 second.1, (all_visible text).0 last.1) in
    let bytes = bytes_of_text text in
    let spelled : IsBodyToken (61 ∷ text) = record { spelled = sym (text_word text told) ∙ ap body_word (sym bytes); told = subst IsBody (sym bytes) (inl told) } in
    subst (λ s. IsBodyToken (s ∷ text)) (sym (eqb-true sign 61 first.0)) spelled

is_no_count : is_count [] ≡ true → ⊥
unfolding is_count
is_no_count e = absurd cc

is_count_parts : (sign : ℕ) (digits : List ℕ) → is_count (sign ∷ digits) ≡ true → (sign ≡ 42) × (is_number 0 70000 digits ≡ true)
unfolding is_count
is_count_parts sign digits e = let parts = and_parts _ _ e in (eqb-true sign 42 parts.0, parts.1)

count_token : (token : List ℕ) → is_count token ≡ true → IsBodyToken token
count_token [] e = absurd (is_no_count e)
count_token (sign ∷ digits) e =
    let parts = is_count_parts sign digits e in
    let number = is_number_parts 0 70000 digits parts.1 in
    let long = length_pattern (number_of digits) in
    let told : IsPattern (pattern (number_of digits)) = (omega (arith, long, number.below), ap pattern (sym long)) in
    let bytes = bytes_of_count (sign ∷ digits) e in
    record {
      spelled = ap (λ s. s ∷ digits) parts.0 ∙ ap (λ ds. 42 ∷ ds) number.spelled ∙ sym (pattern_word (number_of digits)) ∙ ap body_word (sym bytes);
      told = subst IsBody (sym bytes) (inr told);
    }

or_right : (a b : Bool) → a ≡ false → (a || b) ≡ true → b ≡ true
or_right a b none e = sym (ap (λ x. x || b) none) ∙ e

pub is_body_parts : (token : List ℕ) → is_body token ≡ true → IsBodyToken token
is_body_parts token e =
    elim (cases_Bool (is_text token)) [
      | inl text ↦ text_token token text
      | inr none ↦ count_token token (or_right _ _ none e)
    ]

-- a word is how a body is written
pub record IsWord (body word : List ℕ) : Type 0 where
  pub is : is_body word ≡ true
  pub bytes : body_of word ≡ body
  pub whole : has_no_space word ≡ true

text_is_word : (text : List ℕ) → IsText text → IsWord text (61 ∷ text)
unfolding is_text
text_is_word text h =
    let visible = (all_visible text).1 h.2 in
    let is : is_text (61 ∷ text) ≡ true = and_from _ _ (and_from _ _ (and_from (eqb 61 61) _ refl (le-leb _ _ h.0)) (le-leb _ _ h.1)) visible in
    record { is = ap (λ b. b || is_count (61 ∷ text)) is; bytes = bytes_of_text text; whole = no_space_visible text visible }

is_count_from : (digits : List ℕ) → is_number 0 70000 digits ≡ true → is_count (42 ∷ digits) ≡ true
unfolding is_count
is_count_from digits number = number

no_text : (digits : List ℕ) → is_text (42 ∷ digits) ≡ false
unfolding is_text
no_text digits = refl

count_is_word : (count : ℕ) → count ≤ 70000 → IsWord (pattern count) (42 ∷ decimal count)
count_is_word count short =
    let is = is_count_from (decimal count) (is_number-decimal 0 70000 count (omega arith) short (omega arith)) in
    record {
      is = ap (λ b. b || is_count (42 ∷ decimal count)) (no_text (decimal count)) ∙ is;
      bytes = bytes_of_count _ is ∙ ap pattern (number_of-decimal count (omega arith));
      whole = no_space-decimal count (omega arith);
    }

pub is_word : (body : List ℕ) → IsBody body → IsWord body (body_word body)
is_word body told =
    elim told [
      | inl text ↦ subst (IsWord body) (sym (text_word body text)) (text_is_word body text)
      | inr known ↦
          let written = subst (IsWord (pattern (length body))) (sym (pattern_word (length body))) (count_is_word (length body) known.0) in
          subst (λ b. IsWord b (body_word b)) (sym known.1) written
    ]
