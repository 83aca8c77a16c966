-- A frame: an envelope of 16 bytes and one packet; what kind it is; and the words of a packet that are written when it is sent.
use Rattle.std.specs.Prelude.{ℕ, ◌+◌, Bool, List, [], ◌∷◌, ◌++◌, take, drop, nat_le, if◌then◌else◌}
use Rattle.tipc_header.specs.declared.frames.FrameKind.{FrameKind}
use Rattle.tipc_header.specs.declared.frames.FrameKind.TheVariants.{Casts, Finds, Links}
use Rattle.tipc_header.specs.declared.packet.Header.{Header}
use Rattle.tipc_header.specs.declared.packet.Header.TheVariants as header
use Rattle.tipc_header.specs.Reading.{fields_at, long_at}
use Rattle.tipc_header.specs.Spelling.{Fields, from_bit, words, two_words}

-- two numbers of 64 bits
unfoldable pub envelope : ℕ → ℕ → List ℕ
envelope first second = words (two_words first ++ two_words second)

-- a frame's bytes: an envelope of two numbers, on a link the sender's epoch and the receiver's as the sender knows it,
-- and a packet's bytes
abbrev pub frame_of : ℕ → ℕ → List ℕ → List ℕ
frame_of first second packet = envelope first second ++ packet

-- the first number of a frame's envelope
abbrev pub first_of : List ℕ → ℕ
first_of bytes = long_at 0 bytes

-- whether a number is an epoch: one has a boot number, which is from 1 on, above its 32 lower bits. A lower number is a boot number itself.
abbrev pub is_epoch : ℕ → Bool
is_epoch first = nat_le 4294967296 first

-- whether a frame is under an epoch, as each is that a link sends
abbrev pub is_of_link : List ℕ → Bool
is_of_link bytes = is_epoch (first_of bytes)

-- What kind a packet is under an envelope with this first number: of discovery; a broadcast packet, which is payload or a fragment under a boot
-- number; or, as every other one, a link packet.
abbrev pub kind_of : ℕ → Header → FrameKind
kind_of first (header.Discovery discovery) = Finds
kind_of first (header.Payload payload) = if is_epoch first then Links else Casts
kind_of first (header.Fragmenter fragment) = if is_epoch first then Links else Casts
kind_of first other = Links

-- what kind a frame is
unfoldable pub kind_in : List ℕ → FrameKind
kind_in bytes = kind_of (first_of bytes) (fields_at (drop 16 bytes)).header

-- a packet with these words 2 and 3
unfoldable pub stamped : ℕ → ℕ → ℕ → List ℕ → List ℕ
stamped acknowledgement sequence previous packet =
    take 8 packet ++ (words ((from_bit 16 acknowledgement + sequence) ∷ previous ∷ []) ++ drop 16 packet)

-- the packet as it is sent: acknowledging so much, under this number, by this node
abbrev pub sent_as : ℕ → ℕ → ℕ → Fields → Fields
sent_as acknowledgement sequence previous p = record { acknowledgement = acknowledgement; sequence = sequence; previous = previous; header = p.header; rest = p.rest }
