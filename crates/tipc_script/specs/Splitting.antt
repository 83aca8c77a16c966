-- A line cut into its tokens, and the tokens that are left of it.
use Rattle.std.specs.Prelude.{ℕ, ◌+◌, ◌-◌, ◌==◌, Bool, List, [], length, drop, slice_index_or, Option, Some, None}
use Rattle.std.specs.List.{slice_split}

-- the space, which stands between two tokens
abbrev pub is_space : ℕ → Bool
is_space byte = byte == 32

-- the tokens of a line: what stands before, between and after its spaces
abbrev pub tokens_of : List ℕ → List (List ℕ)
tokens_of line = slice_split is_space line

-- The tokens that are left of a line. The first of them begins at the byte place `place`, which counts
-- from 1, and `end` is the line's length plus 1.
pub record Left : Type 0 where
  pub tokens : List (List ℕ)
  pub place : ℕ
  pub end : ℕ

-- the whole line
abbrev pub whole : List ℕ → Left
whole line = record { tokens = tokens_of line; place = 1; end = length line + 1 }

-- the first token that is left
abbrev pub first_token : Left → List ℕ
first_token left = slice_index_or left.tokens 0 []

-- what is left behind that token and the space after it
abbrev pub behind : Left → Left
behind left = record { tokens = drop 1 left.tokens; place = left.place + length (first_token left) + 1; end = left.end }

-- the tokens in the bytes behind a space, if there is one
abbrev pub pieces : Option (List ℕ) → List (List ℕ)
pieces None = []
pieces (Some bytes) = tokens_of bytes

-- what is left of a line of which these bytes are left, if any
abbrev pub left_in : Option (List ℕ) → ℕ → Left
left_in None end = record { tokens = []; place = end + 1; end = end }
left_in (Some bytes) end = record { tokens = tokens_of bytes; place = end - length bytes; end = end }
