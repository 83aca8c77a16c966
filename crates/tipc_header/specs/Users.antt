-- The table of users and types: what stands in words 0 and 1 of each packet.
use Rattle.std.specs.Prelude.{ℕ, Bool, true, false}
use Rattle.tipc_header.specs.declared.packet.Header.{Header}
use Rattle.tipc_header.specs.declared.packet.Header.TheVariants as header
use Rattle.tipc_header.specs.declared.packet.Addressing.{Addressing}
use Rattle.tipc_header.specs.declared.packet.Addressing.TheVariants.{Connected, Multicast, Named, Direct}
use Rattle.tipc_header.specs.declared.packet.ChangeoverType.{ChangeoverType}
use Rattle.tipc_header.specs.declared.packet.ChangeoverType.TheVariants.{Duplicate, Original}
use Rattle.tipc_header.specs.declared.packet.DistributionType.{DistributionType}
use Rattle.tipc_header.specs.declared.packet.DistributionType.TheVariants.{Publication, Withdrawal}
use Rattle.tipc_header.specs.declared.packet.FragmentType.{FragmentType}
use Rattle.tipc_header.specs.declared.packet.FragmentType.TheVariants.{First, Middle, Last}
use Rattle.tipc_header.specs.declared.packet.DiscoveryType.{DiscoveryType}
use Rattle.tipc_header.specs.declared.packet.DiscoveryType.TheVariants.{Request, Response}

-- the user number of a packet with this header; that of payload is its importance, 0 to 3
abbrev pub user_of : Header → ℕ
user_of (header.Payload m) = m.importance
user_of (header.Bundler b) = 6
user_of (header.State s) = 7
user_of (header.Reset r) = 7
user_of (header.Activate a) = 7
user_of (header.Changeover c) = 10
user_of (header.NameDistributor n) = 11
user_of (header.Fragmenter f) = 12
user_of (header.Discovery d) = 13

-- the message type of payload, by how it is addressed
abbrev pub addressing_type : Addressing → ℕ
addressing_type Connected = 0
addressing_type (Multicast o d k l u) = 1
addressing_type (Named o d k i) = 2
addressing_type (Direct o d) = 3

-- the message type of a tunnel packet
abbrev pub changeover_type : ChangeoverType → ℕ
changeover_type Duplicate = 0
changeover_type Original = 1

-- the message type of name items
abbrev pub distribution_type : DistributionType → ℕ
distribution_type Publication = 0
distribution_type Withdrawal = 1

-- the message type of a fragment
abbrev pub fragment_type : FragmentType → ℕ
fragment_type First = 0
fragment_type Middle = 1
fragment_type Last = 2

-- the message type of a discovery packet
abbrev pub discovery_type : DiscoveryType → ℕ
discovery_type Request = 0
discovery_type Response = 1

-- the message type of a packet with this header
abbrev pub type_of : Header → ℕ
type_of (header.Payload m) = addressing_type m.addressing
type_of (header.Bundler b) = 0
type_of (header.State s) = 0
type_of (header.Reset r) = 1
type_of (header.Activate a) = 2
type_of (header.Changeover c) = changeover_type c.changeover_type
type_of (header.NameDistributor n) = distribution_type n.distribution_type
type_of (header.Fragmenter f) = fragment_type f.fragment_type
type_of (header.Discovery d) = discovery_type d.discovery_type

-- the size of a payload header in words
abbrev pub addressing_size : Addressing → ℕ
addressing_size Connected = 6
addressing_size (Multicast o d k l u) = 11
addressing_size (Named o d k i) = 10
addressing_size (Direct o d) = 8

-- the size of a header in words
abbrev pub header_size : Header → ℕ
header_size (header.Payload m) = addressing_size m.addressing
header_size (header.Bundler b) = 10
header_size (header.State s) = 10
header_size (header.Reset r) = 10
header_size (header.Activate a) = 10
header_size (header.Changeover c) = 10
header_size (header.NameDistributor n) = 10
header_size (header.Fragmenter f) = 10
header_size (header.Discovery d) = 10

-- Packets of these users have no number on a link.
abbrev pub is_non_sequenced : Header → Bool
is_non_sequenced (header.Payload m) = false
is_non_sequenced (header.Bundler b) = false
is_non_sequenced (header.State s) = true
is_non_sequenced (header.Reset r) = true
is_non_sequenced (header.Activate a) = true
is_non_sequenced (header.Changeover c) = false
is_non_sequenced (header.NameDistributor n) = false
is_non_sequenced (header.Fragmenter f) = false
is_non_sequenced (header.Discovery d) = true

-- Only payload may be droppable.
abbrev pub is_destination_droppable : Header → Bool
is_destination_droppable (header.Payload m) = m.destination_droppable
is_destination_droppable _ = false

-- whether a message may be dropped by its sender where the link is congested; only payload may be
abbrev pub is_source_droppable : Header → Bool
is_source_droppable (header.Payload m) = m.source_droppable
is_source_droppable _ = false
