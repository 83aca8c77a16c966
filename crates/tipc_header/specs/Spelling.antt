-- The one spelling of each packet: big-endian words, and the bytes that follow. A field that no line
-- names is zero.
use Rattle.std.specs.Prelude.{ℕ, ◌+◌, ◌*◌, ◌/◌, ◌%◌, ◌^◌, Bool, List, [], ◌∷◌, ◌++◌, length, if◌then◌else◌}
use Rattle.std.specs.List.{flat_map}
use Rattle.std.specs.Int.{w32, to_be_bytes}
use Rattle.tipc_header.specs.declared.packet.Packet.{Packet}
use Rattle.tipc_header.specs.declared.packet.State.{State}
use Rattle.tipc_header.specs.declared.packet.Reset.{Reset}
use Rattle.tipc_header.specs.declared.packet.Changeover.{Changeover}
use Rattle.tipc_header.specs.declared.packet.Header.{Header}
use Rattle.tipc_header.specs.declared.packet.Header.TheVariants as header
use Rattle.tipc_header.specs.declared.packet.Addressing.{Addressing}
use Rattle.tipc_header.specs.declared.packet.Addressing.TheVariants.{Connected, Multicast, Named, Direct}
use Rattle.tipc_header.specs.Users.{user_of, type_of, header_size, is_non_sequenced, is_destination_droppable, is_source_droppable}

-- a packet without where its bytes lie in memory
pub record Fields : Type 0 where
  pub acknowledgement : ℕ
  pub sequence : ℕ
  pub previous : ℕ
  pub header : Header
  pub rest : List ℕ

-- a packet as contracts see it: its fields, with the bytes of the rest as they are now
abbrev pub view : Packet → Fields
view p = record { acknowledgement = p.acknowledgement; sequence = p.sequence; previous = p.previous; header = p.header; rest = p.rest.now }

-- a word as bytes
unfoldable pub word : ℕ → List ℕ
word n = to_be_bytes w32 n

-- words as bytes, one behind the other
abbrev pub words : List ℕ → List ℕ
words ns = flat_map word ns

-- a field whose lowest bit is this one
abbrev pub from_bit : ℕ → ℕ → ℕ
from_bit low n = n * 2 ^ low

-- a flag as one bit
abbrev pub bit : Bool → ℕ
bit b = if b then 1 else 0

-- the bytes of the header and of the numbers that some users have behind it
abbrev pub numbers_size : Header → ℕ
numbers_size (header.Reset r) = 16
numbers_size (header.Activate a) = 16
numbers_size (header.Changeover c) = 8
numbers_size _ = 0

-- the message size in bytes
abbrev pub size_of : Fields → ℕ
size_of p = 4 * header_size p.header + numbers_size p.header + length p.rest

-- word 0: version, user, header size, the three flags and the message size
unfoldable pub word_0 : Fields → ℕ
word_0 p =
    from_bit 29 2
    + from_bit 25 (user_of p.header)
    + from_bit 21 (header_size p.header)
    + from_bit 20 (bit (is_non_sequenced p.header))
    + from_bit 19 (bit (is_destination_droppable p.header))
    + from_bit 18 (bit (is_source_droppable p.header))
    + size_of p

-- word 1 below the type
abbrev pub below_type : Header → ℕ
below_type (header.Payload m) = from_bit 25 m.error_code + from_bit 21 m.reroute_count + from_bit 19 m.lookup_scope + m.broadcast_acknowledgement
below_type (header.Bundler b) = b.broadcast_acknowledgement
below_type (header.State s) = from_bit 16 s.gap + s.broadcast_acknowledgement
below_type (header.Reset r) = 0
below_type (header.Activate a) = 0
below_type (header.Changeover c) = c.broadcast_acknowledgement
below_type (header.NameDistributor n) = n.broadcast_acknowledgement
below_type (header.Fragmenter f) = f.broadcast_acknowledgement
below_type (header.Discovery d) = 0

-- word 1: the type, and what each user has below it
unfoldable pub word_1 : Header → ℕ
word_1 h = from_bit 29 (type_of h) + below_type h

-- word 2: the acknowledgement and the sequence number, of 16 bits each
unfoldable pub word_2 : Fields → ℕ
word_2 p = from_bit 16 p.acknowledgement + p.sequence

-- words 6 and on of payload
abbrev pub addressing_words : Addressing → List ℕ
addressing_words Connected = []
addressing_words (Multicast origin_node destination_node name_type lower upper) = origin_node ∷ destination_node ∷ name_type ∷ lower ∷ upper ∷ []
addressing_words (Named origin_node destination_node name_type instance) = origin_node ∷ destination_node ∷ name_type ∷ instance ∷ []
addressing_words (Direct origin_node destination_node) = origin_node ∷ destination_node ∷ []

-- words 4 to 9 of a STATE
abbrev pub state_words : State → List ℕ
state_words s =
    (from_bit 16 s.next + s.broadcast_next)
    ∷ (from_bit 16 s.broadcast_start + s.broadcast_gap)
    ∷ 0
    ∷ s.destination_node
    ∷ (from_bit 2 s.priority + from_bit 1 (bit s.in_step) + bit s.probe)
    ∷ 0
    ∷ []

-- words 4 to 9 of a RESET or an ACTIVATE
abbrev pub reset_words : Reset → List ℕ
reset_words r = 0 ∷ 0 ∷ 0 ∷ r.destination_node ∷ from_bit 2 r.priority ∷ 0 ∷ []

-- words 4 to 9 of a tunnel packet
abbrev pub changeover_words : Changeover → List ℕ
changeover_words c = (from_bit 16 c.count + c.inner_number) ∷ c.old_bearer ∷ 0 ∷ 0 ∷ 0 ∷ 0 ∷ []

-- words 4 and on
abbrev pub user_words : Header → List ℕ
user_words (header.Payload m) = m.origin_port ∷ m.destination_port ∷ addressing_words m.addressing
user_words (header.Bundler b) = from_bit 16 b.count ∷ 0 ∷ 0 ∷ 0 ∷ 0 ∷ 0 ∷ []
user_words (header.State s) = state_words s
user_words (header.Reset r) = reset_words r
user_words (header.Activate a) = reset_words a
user_words (header.Changeover c) = changeover_words c
user_words (header.NameDistributor n) = 0 ∷ 0 ∷ 0 ∷ 0 ∷ 0 ∷ 0 ∷ []
user_words (header.Fragmenter f) = f.number ∷ 0 ∷ 0 ∷ 0 ∷ 0 ∷ 0 ∷ []
user_words (header.Discovery d) = d.network ∷ 0 ∷ 0 ∷ 0 ∷ 0 ∷ 0 ∷ []

-- a number of 64 bits as two words
abbrev pub two_words : ℕ → List ℕ
two_words n = n / 2 ^ 32 ∷ n % 2 ^ 32 ∷ []

-- the numbers behind the header, as words
abbrev pub number_words : Header → List ℕ
number_words (header.Reset r) = two_words r.contact ++ two_words r.peer_contact
number_words (header.Activate a) = two_words a.contact ++ two_words a.peer_contact
number_words (header.Changeover c) = two_words c.old_epoch
number_words _ = []

-- all words of a packet: the header, and the numbers behind it
abbrev pub all_words : Fields → List ℕ
all_words p = word_0 p ∷ word_1 p.header ∷ word_2 p ∷ p.previous ∷ (user_words p.header ++ number_words p.header)

-- the bytes of a packet: its words, and the rest
unfoldable pub spelling : Fields → List ℕ
spelling p = words (all_words p) ++ p.rest

-- the same packet under other numbers
abbrev pub renumbered : Fields → ℕ → ℕ → Fields
renumbered p acknowledgement sequence = record { acknowledgement = acknowledgement; sequence = sequence; previous = p.previous; header = p.header; rest = p.rest }
