-- Frames as hexadecimal: a line of lower-case digits, two for each byte.
use Rattle.std.specs.Prelude.{ℕ, ◌+◌, ◌-◌, ◌*◌, ◌%◌, ◌==◌, Bool, not, ◌&&◌, ◌||◌, nat_le, if◌then◌else◌, List, [], ◌∷◌, length, Option, Some, None, position}

-- whether a character is `0` to `9` or `a` to `f`
abbrev pub is_digit : ℕ → Bool
is_digit byte = (nat_le 48 byte && nat_le byte 57) || (nat_le 97 byte && nat_le byte 102)

-- The place of what is wrong, from 1: of the first character that is no digit, which stands at this index; or, where all of
-- so many are digits, one past the line if they don't make pairs.
abbrev pub place_by : Option ℕ → ℕ → Option ℕ
place_by (Some index) count = Some (index + 1)
place_by None count = if count % 2 == 1 then Some (count + 1) else None

-- where a line isn't the spelling of a frame
unfoldable pub bad_place : List ℕ → Option ℕ
bad_place line = place_by (position (λ byte. not (is_digit byte)) line) (length line)

-- the value of a digit
abbrev pub value_of_digit : ℕ → ℕ
value_of_digit byte = if nat_le 97 byte then byte - 87 else byte - 48

-- the frame that a line spells: a byte for each two digits, the higher four bits first
unfoldable pub spelled_frame : List ℕ → List ℕ
spelled_frame (high ∷ low ∷ digits) = (value_of_digit high * 16 + value_of_digit low) ∷ spelled_frame digits
spelled_frame (digit ∷ []) = []
spelled_frame [] = []
