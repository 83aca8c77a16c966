-- A message that is cut into fragments.
use Rattle.std.specs.Prelude.{ℕ, ◌+◌, ◌*◌, ◌/◌, ◌==◌, Bool, true, false, List, length, take, drop, map, nat_lt, if◌then◌else◌}
use Rattle.std.specs.List.{range_with_len}
use Rattle.tipc_header.specs.declared.packet.FragmentType.{FragmentType}
use Rattle.tipc_header.specs.declared.packet.FragmentType.TheVariants.{First, Middle, Last}
use Rattle.tipc_header.specs.declared.packet.Header.TheVariants.{Fragmenter}
use Rattle.tipc_header.specs.Spelling.{Fields, spelling}

-- what a fragment says: its place in the message, its number, and its bytes of the message
pub record Piece : Type 0 where
  pub kind : FragmentType
  pub number : ℕ
  pub bytes : List ℕ

-- the fragment of this kind and number, with these bytes
abbrev pub piece_of : FragmentType → ℕ → List ℕ → Piece
piece_of kind number bytes = record { kind = kind; number = number; bytes = bytes }

-- how many fragments a message takes, each but the last with 1,412 bytes of it
abbrev pub count_of : List ℕ → ℕ
count_of message = (length message + 1411) / 1412

-- the kind of the fragment behind so many others, of so many in all
abbrev pub kind_of : ℕ → ℕ → FragmentType
kind_of count before = if before == 0 then First else (if before + 1 == count then Last else Middle)

-- whether a fragment of this kind may stand behind so many others
abbrev pub may_follow : FragmentType → ℕ → Bool
may_follow First before = before == 0
may_follow Middle before = nat_lt 0 before
may_follow Last before = nat_lt 0 before

-- whether a fragment of this kind ends its message
abbrev pub is_last : FragmentType → Bool
is_last First = false
is_last Middle = false
is_last Last = true

-- the fragment of a message that stands behind so many others
abbrev pub piece_after : List ℕ → ℕ → Piece
piece_after message before = piece_of (kind_of (count_of message) before) (before + 1) (take 1412 (drop (1412 * before) message))

-- the fragments of a message, in order
abbrev pub pieces_of : List ℕ → List Piece
pieces_of message = map (piece_after message) (range_with_len 0 (count_of message))

-- the packet of a fragment as it waits to be sent, words 2 and 3 zero
abbrev pub fragment_fields : Piece → Fields
fragment_fields p = record {
  acknowledgement = 0;
  sequence = 0;
  previous = 0;
  header = Fragmenter (record { fragment_type = p.kind; broadcast_acknowledgement = 0; number = p.number });
  rest = p.bytes;
}

-- the packets of a message, in order
abbrev pub packets_of : List ℕ → List (List ℕ)
packets_of message = map (λ p. spelling (fragment_fields p)) (pieces_of message)
