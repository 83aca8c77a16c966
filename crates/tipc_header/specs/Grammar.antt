-- Which packets there are: the range of each field, and what may follow each header.
use Rattle.std.specs.Prelude.{ℕ, ◌≡◌, ◌<◌, ◌≤◌, ◌^◌, ◌%◌, length}
use Rattle.tipc_header.specs.declared.packet.Payload.{Payload}
use Rattle.tipc_header.specs.declared.packet.State.{State}
use Rattle.tipc_header.specs.declared.packet.Reset.{Reset}
use Rattle.tipc_header.specs.declared.packet.Changeover.{Changeover}
use Rattle.tipc_header.specs.declared.packet.Header.{Header}
use Rattle.tipc_header.specs.declared.packet.Header.TheVariants as header
use Rattle.tipc_header.specs.declared.packet.Addressing.{Addressing}
use Rattle.tipc_header.specs.declared.packet.Addressing.TheVariants.{Connected, Multicast, Named, Direct}
use Rattle.tipc_header.specs.Spelling.{Fields, size_of}

-- the addresses of a message are words: nodes, and the name with its bounds or its instance
abbrev pub AddressingFits : Addressing → Type 0
AddressingFits Connected = Unit {0}
AddressingFits (Multicast origin_node destination_node name_type lower upper) =
    (origin_node < 2 ^ 32) × (destination_node < 2 ^ 32) × (name_type < 2 ^ 32) × (lower < 2 ^ 32) × (upper < 2 ^ 32)
AddressingFits (Named origin_node destination_node name_type instance) =
    (origin_node < 2 ^ 32) × (destination_node < 2 ^ 32) × (name_type < 2 ^ 32) × (instance < 2 ^ 32)
AddressingFits (Direct origin_node destination_node) = (origin_node < 2 ^ 32) × (destination_node < 2 ^ 32)

-- the fields of a payload header are within their bits; importance is 0 to 3, and the error code 0 to 5
pub record PayloadFits (m : Payload) : Type 0 where
  pub importance : m.importance ≤ 3
  pub error_code : m.error_code ≤ 5
  pub reroute_count : m.reroute_count < 2 ^ 4
  pub lookup_scope : m.lookup_scope < 2 ^ 2
  pub broadcast_acknowledgement : m.broadcast_acknowledgement < 2 ^ 16
  pub origin_port : m.origin_port < 2 ^ 32
  pub destination_port : m.destination_port < 2 ^ 32
  pub addressing : AddressingFits m.addressing

-- the fields of a STATE are within their bits
pub record StateFits (s : State) : Type 0 where
  pub gap : s.gap < 2 ^ 13
  pub broadcast_acknowledgement : s.broadcast_acknowledgement < 2 ^ 16
  pub next : s.next < 2 ^ 16
  pub broadcast_next : s.broadcast_next < 2 ^ 16
  pub broadcast_start : s.broadcast_start < 2 ^ 16
  pub broadcast_gap : s.broadcast_gap < 2 ^ 16
  pub destination_node : s.destination_node < 2 ^ 32
  pub priority : s.priority < 2 ^ 5

-- the fields of a RESET or an ACTIVATE are within their bits
pub record ResetFits (r : Reset) : Type 0 where
  pub destination_node : r.destination_node < 2 ^ 32
  pub priority : r.priority < 2 ^ 5
  pub contact : r.contact < 2 ^ 64
  pub peer_contact : r.peer_contact < 2 ^ 64

-- the fields of a tunnel packet's header are within their bits; the old bearer is 0 or 1
pub record ChangeoverFits (c : Changeover) : Type 0 where
  pub broadcast_acknowledgement : c.broadcast_acknowledgement < 2 ^ 16
  pub count : c.count < 2 ^ 16
  pub inner_number : c.inner_number < 2 ^ 16
  pub old_bearer : c.old_bearer ≤ 1
  pub old_epoch : c.old_epoch < 2 ^ 64

-- the fields of a header are in their ranges: a bundle has at least 2 packets inside, and fragments are numbered from 1
abbrev pub HeaderFits : Header → Type 0
HeaderFits (header.Payload m) = PayloadFits m
HeaderFits (header.Bundler b) = (b.broadcast_acknowledgement < 2 ^ 16) × (2 ≤ b.count) × (b.count < 2 ^ 16)
HeaderFits (header.State s) = StateFits s
HeaderFits (header.Reset r) = ResetFits r
HeaderFits (header.Activate a) = ResetFits a
HeaderFits (header.Changeover c) = ChangeoverFits c
HeaderFits (header.NameDistributor n) = n.broadcast_acknowledgement < 2 ^ 16
HeaderFits (header.Fragmenter f) = (f.broadcast_acknowledgement < 2 ^ 16) × (1 ≤ f.number) × (f.number < 2 ^ 16)
HeaderFits (header.Discovery d) = d.network < 2 ^ 32

-- Link protocol and discovery have no sequence number, and only STATE of them acknowledges.
abbrev pub NumberingFits : Header → ℕ → ℕ → Type 0
NumberingFits (header.State s) acknowledgement sequence = sequence ≡ 0
NumberingFits (header.Reset r) acknowledgement sequence = (acknowledgement ≡ 0) × (sequence ≡ 0)
NumberingFits (header.Activate a) acknowledgement sequence = (acknowledgement ≡ 0) × (sequence ≡ 0)
NumberingFits (header.Discovery d) acknowledgement sequence = (acknowledgement ≡ 0) × (sequence ≡ 0)
NumberingFits _ acknowledgement sequence = Unit {0}

-- how many bytes may follow the fields
abbrev pub RestFits : Header → ℕ → Type 0
RestFits (header.Payload m) n = n ≤ 66000
RestFits (header.Bundler b) n = n % 4 ≡ 0
RestFits (header.State s) n = n ≡ 0
RestFits (header.Reset r) n = n ≡ 0
RestFits (header.Activate a) n = n ≡ 0
RestFits (header.Changeover c) n = c.count ≡ 0 → (c.inner_number ≡ 0) × (n ≡ 0)
RestFits (header.NameDistributor d) n = (20 ≤ n) × (n ≤ 1400) × (n % 20 ≡ 0)
RestFits (header.Fragmenter f) n = (1 ≤ n) × (n ≤ 1412)
RestFits (header.Discovery d) n = n ≡ 0

-- a packet that has a spelling
pub record Fits (p : Fields) : Type 0 where
  pub acknowledgement : p.acknowledgement < 2 ^ 16
  pub sequence : p.sequence < 2 ^ 16
  pub previous : p.previous < 2 ^ 32
  pub header : HeaderFits p.header
  pub numbering : NumberingFits p.header p.acknowledgement p.sequence
  pub rest : RestFits p.header (length p.rest)
  pub size : size_of p < 2 ^ 17
