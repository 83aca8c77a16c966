-- Where each field stands in the bytes.
use Rattle.std.specs.Prelude.{ℕ, ◌+◌, ◌-◌, ◌*◌, ◌/◌, ◌%◌, ◌^◌, Bool, List, take, drop, nat_le, ◌==◌, if◌then◌else◌}
use Rattle.std.specs.Int.{w32, from_be_bytes}
use Rattle.tipc_header.specs.declared.packet.Reset.{Reset}
use Rattle.tipc_header.specs.declared.packet.Header.{Header}
use Rattle.tipc_header.specs.declared.packet.Header.TheVariants as header
use Rattle.tipc_header.specs.declared.packet.Addressing.{Addressing}
use Rattle.tipc_header.specs.declared.packet.Addressing.TheVariants.{Connected, Multicast, Named, Direct}
use Rattle.tipc_header.specs.declared.packet.ChangeoverType.TheVariants.{Duplicate, Original}
use Rattle.tipc_header.specs.declared.packet.DistributionType.TheVariants.{Publication, Withdrawal}
use Rattle.tipc_header.specs.declared.packet.FragmentType.TheVariants.{First, Middle, Last}
use Rattle.tipc_header.specs.declared.packet.DiscoveryType.TheVariants.{Request, Response}
use Rattle.tipc_header.specs.Users.{header_size}
use Rattle.tipc_header.specs.Spelling.{Fields, numbers_size}

-- the word at this index
unfoldable pub word_at : ℕ → List ℕ → ℕ
word_at i b = from_be_bytes w32 (take 4 (drop (4 * i) b))

-- the bits of a number from the high one down to the low one
abbrev pub bits : ℕ → ℕ → ℕ → ℕ
bits high low n = n / 2 ^ low % 2 ^ (high + 1 - low)

-- the field of word i in these bits
abbrev pub field : ℕ → ℕ → ℕ → List ℕ → ℕ
field i high low b = bits high low (word_at i b)

-- whether the bit of word i at this place is set
abbrev pub flag : ℕ → ℕ → List ℕ → Bool
flag i place b = field i place place b == 1

-- a number of 64 bits that begins with word i
abbrev pub long_at : ℕ → List ℕ → ℕ
long_at i b = word_at i b * 2 ^ 32 + word_at (i + 1) b

-- the user number, of 4 bits
abbrev pub user_at : List ℕ → ℕ
user_at b = field 0 28 25 b

-- the size of the header in words, of 4 bits
abbrev pub size_in_words : List ℕ → ℕ
size_in_words b = field 0 24 21 b

-- the message type, of 3 bits
abbrev pub type_at : List ℕ → ℕ
type_at b = field 1 31 29 b

-- the addresses of payload of type t
unfoldable pub addressing_at : ℕ → List ℕ → Addressing
addressing_at t b =
    if t == 0 then Connected
    else (if t == 1 then Multicast (word_at 6 b) (word_at 7 b) (word_at 8 b) (word_at 9 b) (word_at 10 b)
    else (if t == 2 then Named (word_at 6 b) (word_at 7 b) (word_at 8 b) (word_at 9 b)
    else Direct (word_at 6 b) (word_at 7 b)))

-- the header of payload; the user number is its importance
unfoldable pub payload_at : ℕ → ℕ → List ℕ → Header
payload_at u t b = header.Payload (record {
  importance = u;
  destination_droppable = flag 0 19 b;
  source_droppable = flag 0 18 b;
  error_code = field 1 28 25 b;
  reroute_count = field 1 24 21 b;
  lookup_scope = field 1 20 19 b;
  broadcast_acknowledgement = field 1 15 0 b;
  origin_port = word_at 4 b;
  destination_port = word_at 5 b;
  addressing = addressing_at t b;
})

-- the header of a bundle
unfoldable pub bundle_at : List ℕ → Header
bundle_at b = header.Bundler (record { broadcast_acknowledgement = field 1 15 0 b; count = field 4 31 16 b })

-- the header of a STATE
unfoldable pub state_at : List ℕ → Header
state_at b = header.State (record {
  gap = field 1 28 16 b;
  broadcast_acknowledgement = field 1 15 0 b;
  next = field 4 31 16 b;
  broadcast_next = field 4 15 0 b;
  broadcast_start = field 5 31 16 b;
  broadcast_gap = field 5 15 0 b;
  destination_node = word_at 7 b;
  probe = flag 8 0 b;
  in_step = flag 8 1 b;
  priority = field 8 6 2 b;
})

-- what RESET and ACTIVATE say: the node that they are for, the priority, and both contact numbers
unfoldable pub reset_at : List ℕ → Reset
reset_at b = record {
  destination_node = word_at 7 b;
  priority = field 8 6 2 b;
  contact = long_at 10 b;
  peer_contact = long_at 12 b;
}

-- the header of a tunnel packet, of type t: 0 is a duplicate
unfoldable pub changeover_at : ℕ → List ℕ → Header
changeover_at t b = header.Changeover (record {
  changeover_type = if t == 0 then Duplicate else Original;
  broadcast_acknowledgement = field 1 15 0 b;
  count = field 4 31 16 b;
  inner_number = field 4 15 0 b;
  old_bearer = field 5 0 0 b;
  old_epoch = long_at 10 b;
})

-- the header of name items, of type t: 0 is publications
unfoldable pub distribution_at : ℕ → List ℕ → Header
distribution_at t b = header.NameDistributor (record {
  distribution_type = if t == 0 then Publication else Withdrawal;
  broadcast_acknowledgement = field 1 15 0 b;
})

-- the header of a fragment, of type t: 0 is the first one of a message, 1 one between, 2 the last
unfoldable pub fragment_at : ℕ → List ℕ → Header
fragment_at t b = header.Fragmenter (record {
  fragment_type = if t == 0 then First else (if t == 1 then Middle else Last);
  broadcast_acknowledgement = field 1 15 0 b;
  number = field 4 15 0 b;
})

-- the header of a discovery packet, of type t: 0 is a request
unfoldable pub discovery_at : ℕ → List ℕ → Header
discovery_at t b = header.Discovery (record { discovery_type = if t == 0 then Request else Response; network = word_at 4 b })

-- the header of this user and type
unfoldable pub header_at : ℕ → ℕ → List ℕ → Header
header_at u t b =
    if nat_le u 3 then payload_at u t b
    else (if u == 6 then bundle_at b
    else (if u == 7 then (if t == 0 then state_at b else (if t == 1 then header.Reset (reset_at b) else header.Activate (reset_at b)))
    else (if u == 10 then changeover_at t b
    else (if u == 11 then distribution_at t b
    else (if u == 12 then fragment_at t b
    else discovery_at t b)))))

-- where the rest begins that a packet with this header has
abbrev pub rest_start : Header → ℕ
rest_start h = 4 * header_size h + numbers_size h

-- The packet that these bytes are, if they are one and have this header.
abbrev pub fields_with : Header → List ℕ → Fields
fields_with h b = record {
  acknowledgement = field 2 31 16 b;
  sequence = field 2 15 0 b;
  previous = word_at 3 b;
  header = h;
  rest = drop (rest_start h) b;
}

-- the packet that these bytes are, if they are one: its header is that of the user and the type that stand in them
unfoldable pub fields_at : List ℕ → Fields
fields_at b = fields_with (header_at (user_at b) (type_at b) b) b
