-- A frame as text: what it is, under the number of its line.
use Rattle.std.specs.Prelude.{ℕ, ◌≡◌, ◌<◌, ◌≤◌, nat_lt, if◌then◌else◌, List, [], ◌∷◌, ◌++◌, length, slice_index, drop, Option, Some, None, codes}
use Rattle.std.specs.Fmt.{decimal}
use Rattle.tipc_header.specs.declared.fault.HeaderFault.{HeaderFault}
use Rattle.tipc_header.specs.declared.fault.HeaderFault.TheVariants.{Short, Version, HeaderSize, Size, User, «Type», Reserved}
use Rattle.tipc_header.specs.Faults.{fault_of, number_of}
use Rattle.tipc_header.specs.Reading.{fields_at, long_at}
use Rattle.tipc_dissect.specs.declared.lines.Value.TheVariants.{Number}
use Rattle.tipc_dissect.specs.Lines.{Field, fields_text, shown_line}
use Rattle.tipc_dissect.specs.Packets.{outer, whole_text}

-- how a fault of a packet is called
abbrev pub fault_name : HeaderFault → List ℕ
fault_name Short = codes "Short"
fault_name Version = codes "Version"
fault_name HeaderSize = codes "HeaderSize"
fault_name Size = codes "Size"
fault_name User = codes "User"
fault_name «Type» = codes "Type"
fault_name Reserved = codes "Reserved"

-- the line of too few bytes for an envelope
abbrev pub envelope_line : ℕ → List ℕ
envelope_line line = decimal line ++ (codes " envelope" ++ (10 ∷ []))

-- the line of a frame whose packet has this fault: the fault's number and its name
abbrev pub fault_line : ℕ → HeaderFault → List ℕ
fault_line line fault = decimal line ++ (codes " fault " ++ (decimal (number_of fault) ++ (32 ∷ (fault_name fault ++ (10 ∷ [])))))

-- the two numbers of a frame's envelope
abbrev pub envelope_fields : List ℕ → List Field
envelope_fields frame = (codes "envelope-first", Number (long_at 0 frame)) ∷ (codes "envelope-second", Number (long_at 2 frame)) ∷ []

-- the lines of a frame: its size, its envelope, and the packet behind that
abbrev pub frame_text : ℕ → List ℕ → List ℕ
frame_text line frame =
    shown_line (decimal line) (codes " frame") (decimal (length frame))
    ++ (fields_text outer (envelope_fields frame) ++ whole_text (fields_at (drop 16 frame)))

-- the text of a frame whose packet has this fault, or none
abbrev pub text_by : Option HeaderFault → ℕ → List ℕ → List ℕ
text_by (Some fault) line frame = fault_line line fault
text_by None line frame = frame_text line frame

-- The text of a frame, under the number of its line.
unfoldable pub text : ℕ → List ℕ → List ℕ
text line frame = if nat_lt (length frame) 16 then envelope_line line else text_by (fault_of (drop 16 frame)) line frame

-- bytes that are a frame: an envelope of 16, and a packet behind it that breaks no rule
pub record IsDecodable (frame : List ℕ) : Type 0 where
  pub bytes : (i : ℕ) → slice_index frame i < 256
  pub enveloped : 16 ≤ length frame
  pub packet : fault_of (drop 16 frame) ≡ None
