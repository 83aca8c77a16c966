-- The first line of some bytes.
use Rattle.std.proofs.Common.{◌≡◌, ℕ, ◌+◌, ◌<◌, Bool, true, List, [], ◌∷◌, length, take, drop, Some, None, eqb, refl, sym, ap, subst, ◌∙◌, arith, inl, inr}
use Rattle.std.specs.List.{position, position_or_len, slice_split}
use Rattle.std.proofs.lemmas.Bool.{cases_lt, cond-true, lt-ltb, ltb-true, eqb-true}
use Rattle.std.proofs.lemmas.List.{nil_from_length}
use Rattle.std.proofs.lemmas.Option.{cond_some}
use Rattle.std.proofs.lemmas.List.Splits.{slice_split_first, slice_split_none, length-slice_split}
use Rattle.std.proofs.lemmas.List.Sums.{fails_before_first}
use Rattle.tipc_sim.specs.Lines.{is_newline, lines_of, without_empty_end}

without_empty_end-cons : (part : List ℕ) (parts : List (List ℕ)) → 0 < length parts → without_empty_end (part ∷ parts) ≡ part ∷ without_empty_end parts
without_empty_end-cons part [] some = absurd (omega arith)
without_empty_end-cons [] (next ∷ parts) some = refl
without_empty_end-cons (byte ∷ bytes) (next ∷ parts) some = refl

without_empty_end_one : (part : List ℕ) → 0 < length part → without_empty_end (part ∷ []) ≡ part ∷ []
without_empty_end_one [] some = absurd (omega arith)
without_empty_end_one (byte ∷ bytes) some = refl

-- no bytes have no line
pub lines_of-nil : lines_of [] ≡ []
unfolding lines_of
lines_of-nil = refl

-- with no newline, the bytes are the one line
pub one_line : (bytes : List ℕ) → 0 < length bytes → position is_newline bytes ≡ None → lines_of bytes ≡ bytes ∷ lines_of []
unfolding lines_of
one_line bytes some e =
    elim (cases_lt (position_or_len is_newline bytes) (length bytes)) [
      | inl lt ↦ absurd (cc (cond-true _ (Some (position_or_len is_newline bytes)) None (lt-ltb _ _ lt)))
      | inr long ↦ ap without_empty_end (slice_split_none is_newline bytes (λ k d lt. fails_before_first is_newline bytes k d (omega arith))) ∙ without_empty_end_one bytes some
    ]

-- with a newline, the first line stands before it
pub line_and_rest : (bytes : List ℕ) (n : ℕ) → position is_newline bytes ≡ Some n → lines_of bytes ≡ take n bytes ∷ lines_of (drop (n + 1) bytes)
unfolding lines_of
line_and_rest bytes n e =
    let found = cond_some _ (position_or_len is_newline bytes) n e in
    let lt : position_or_len is_newline bytes < length bytes = ltb-true _ _ found.0 in
    let parts = slice_split is_newline (drop (n + 1) bytes) in
    let split = subst (λ m. slice_split is_newline bytes ≡ take m bytes ∷ slice_split is_newline (drop (m + 1) bytes)) found.1 (slice_split_first is_newline bytes 0 lt) in
    ap without_empty_end split ∙ without_empty_end-cons (take n bytes) parts (omega (arith, length-slice_split is_newline (drop (n + 1) bytes)))

-- bytes that are empty are none
pub emptied : (bytes : List ℕ) (empty : Bool) → empty ≡ eqb (length bytes) 0 → empty ≡ true → bytes ≡ []
emptied bytes empty is e = nil_from_length bytes (eqb-true (length bytes) 0 (sym is ∙ e))
