-- The token at the front of some bytes.
use Rattle.std.proofs.Common.{◌≡◌, ℕ, ◌+◌, ◌<◌, List, [], ◌∷◌, length, take, drop, Some, None, subst, arith, inl, inr}
use Rattle.std.specs.List.{position, position_or_len}
use Rattle.std.proofs.lemmas.Bool.{cases_lt, cond-true, lt-ltb, ltb-true}
use Rattle.std.proofs.lemmas.Option.{cond_some}
use Rattle.std.proofs.lemmas.List.Splits.{slice_split_first, slice_split_none}
use Rattle.std.proofs.lemmas.List.Sums.{fails_before_first}
use Rattle.tipc_script.specs.Splitting.{is_space, tokens_of}

-- with no space, the bytes are the one token
pub one_token : (bytes : List ℕ) → position is_space bytes ≡ None → tokens_of bytes ≡ bytes ∷ []
one_token bytes e =
    elim (cases_lt (position_or_len is_space bytes) (length bytes)) [
      | inl lt ↦ absurd (cc (cond-true _ (Some (position_or_len is_space bytes)) None (lt-ltb _ _ lt)))
      | inr long ↦ slice_split_none is_space bytes (λ k d lt. fails_before_first is_space bytes k d (omega arith))
    ]

-- with a space, the first token stands before it
pub first_and_rest : (bytes : List ℕ) (n : ℕ) → position is_space bytes ≡ Some n → tokens_of bytes ≡ take n bytes ∷ tokens_of (drop (n + 1) bytes)
first_and_rest bytes n e =
    let found = cond_some _ (position_or_len is_space bytes) n e in
    let lt : position_or_len is_space bytes < length bytes = ltb-true _ _ found.0 in
    subst (λ m. tokens_of bytes ≡ take m bytes ∷ tokens_of (drop (m + 1) bytes)) found.1 (slice_split_first is_space bytes 0 lt)
