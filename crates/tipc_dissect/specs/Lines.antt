-- The lines of a dissected frame. Each shows one field: how far it stands in, a name, a space and a value.
use Rattle.std.specs.Prelude.{ℕ, ◌/◌, ◌%◌, ◌^◌, List, [], ◌∷◌, ◌++◌, codes}
use Rattle.std.specs.List.{flat_map, join_with_byte}
use Rattle.std.specs.Fmt.{decimal}
use Rattle.hex.specs.Hex.{encode_lower}
use Rattle.tipc_dissect.specs.declared.lines.Value.{Value}
use Rattle.tipc_dissect.specs.declared.lines.Value.TheVariants.{Number, Address}

-- a field: its name and its value
abbrev pub Field : Type 0
Field = List ℕ × Value

-- an address: zone, cluster and node of 8, 12 and 12 bits, with points between
abbrev pub address_text : ℕ → List ℕ
address_text word = join_with_byte 46 (decimal (word / 2 ^ 24) ∷ decimal (word / 2 ^ 12 % 2 ^ 12) ∷ decimal (word % 2 ^ 12) ∷ [])

-- a value: a number in decimal, or an address
abbrev pub value_text : Value → List ℕ
value_text (Number number) = decimal number
value_text (Address word) = address_text word

-- some bytes: two digits of lower-case hexadecimal for each, or `-` where there are none
abbrev pub bytes_text : List ℕ → List ℕ
bytes_text [] = codes "-"
bytes_text (byte ∷ bytes) = encode_lower (byte ∷ bytes)

-- a line: so far in, a name, a space, a text and a newline
abbrev pub shown_line : List ℕ → List ℕ → List ℕ → List ℕ
shown_line indent name text = indent ++ (name ++ (32 ∷ (text ++ (10 ∷ []))))

-- the line of a field
abbrev pub field_line : List ℕ → Field → List ℕ
field_line indent field = shown_line indent field.0 (value_text field.1)

-- the lines of fields, in their order
unfoldable pub fields_text : List ℕ → List Field → List ℕ
fields_text indent fields = flat_map (field_line indent) fields
