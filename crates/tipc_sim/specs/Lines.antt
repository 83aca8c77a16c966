-- The lines of a script: each is ended by a newline, which the last may lack.
use Rattle.std.specs.Prelude.{ℕ, ◌==◌, ◌≤◌, Bool, List, [], ◌∷◌, length}
use Rattle.std.specs.List.{slice_split}

-- the byte is a newline
abbrev pub is_newline : ℕ → Bool
is_newline byte = byte == 10

-- the parts between newlines are lines, but for an empty last one
abbrev pub without_empty_end : List (List ℕ) → List (List ℕ)
without_empty_end [] = []
without_empty_end ([] ∷ []) = []
without_empty_end ((byte ∷ bytes) ∷ []) = (byte ∷ bytes) ∷ []
without_empty_end (part ∷ next ∷ parts) = part ∷ without_empty_end (next ∷ parts)

-- the lines of a script, in order, without their newlines
unfoldable pub lines_of : List ℕ → List (List ℕ)
lines_of script = without_empty_end (slice_split is_newline script)

-- a script has at most so many bytes and lines
abbrev pub IsWithin : List ℕ → Type 0
IsWithin script = (length script ≤ 16777216) × (length (lines_of script) ≤ 65536)
