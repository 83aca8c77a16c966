-- What a packet shows is within its bits.
use Rattle.std.proofs.Common.{◌^◌, ◌<◌, Bool, true, false, arith}
use Rattle.tipc_header.specs.declared.packet.Header.{Header}
use Rattle.tipc_header.specs.declared.packet.Header.TheVariants as header
use Rattle.tipc_header.specs.declared.packet.Addressing.{Addressing}
use Rattle.tipc_header.specs.declared.packet.Addressing.TheVariants.{Connected, Multicast, Named, Direct}
use Rattle.tipc_header.specs.declared.packet.ChangeoverType.{ChangeoverType}
use Rattle.tipc_header.specs.declared.packet.ChangeoverType.TheVariants.{Duplicate, Original}
use Rattle.tipc_header.specs.declared.packet.DistributionType.{DistributionType}
use Rattle.tipc_header.specs.declared.packet.DistributionType.TheVariants.{Publication, Withdrawal}
use Rattle.tipc_header.specs.declared.packet.FragmentType.{FragmentType}
use Rattle.tipc_header.specs.declared.packet.FragmentType.TheVariants.{First, Middle, Last}
use Rattle.tipc_header.specs.declared.packet.DiscoveryType.{DiscoveryType}
use Rattle.tipc_header.specs.declared.packet.DiscoveryType.TheVariants.{Request, Response}
use Rattle.tipc_header.specs.Users.{addressing_size, addressing_type, changeover_type, discovery_type, distribution_type, fragment_type, header_size, is_destination_droppable, is_non_sequenced, is_source_droppable, type_of, user_of}
use Rattle.tipc_header.specs.Spelling.{bit, Fields}
use Rattle.tipc_header.specs.Grammar.{AddressingFits, Fits, HeaderFits}
use Rattle.tipc_dissect.specs.Table.{addressing_fields, further_fields, start_fields}
use Rattle.tipc_dissect.proofs.Shapes.{HaveBits}

-- a packet with another header
abbrev pub with_header : Fields → Header → Fields
with_header p h = record { acknowledgement = p.acknowledgement; sequence = p.sequence; previous = p.previous; header = h; rest = p.rest }

bit_small : (b : Bool) → bit b < 2
bit_small true = omega arith
bit_small false = omega arith

-- the numbers of word 0 and the type
record IsSmall (h : Header) : Type 0 where
  user : user_of h < 16
  words : header_size h < 16
  type : type_of h < 4

addressing_words : (a : Addressing) → addressing_size a < 16
addressing_words Connected = omega arith
addressing_words (Multicast o d k l u) = omega arith
addressing_words (Named o d k i) = omega arith
addressing_words (Direct o d) = omega arith

addressing_small : (a : Addressing) → addressing_type a < 4
addressing_small Connected = omega arith
addressing_small (Multicast o d k l u) = omega arith
addressing_small (Named o d k i) = omega arith
addressing_small (Direct o d) = omega arith

changeover_small : (t : ChangeoverType) → changeover_type t < 4
changeover_small Duplicate = omega arith
changeover_small Original = omega arith

distribution_small : (t : DistributionType) → distribution_type t < 4
distribution_small Publication = omega arith
distribution_small Withdrawal = omega arith

fragment_small : (t : FragmentType) → fragment_type t < 4
fragment_small First = omega arith
fragment_small Middle = omega arith
fragment_small Last = omega arith

discovery_small : (t : DiscoveryType) → discovery_type t < 4
discovery_small Request = omega arith
discovery_small Response = omega arith

header_small : (h : Header) → HeaderFits h → IsSmall h
header_small (header.Payload m) f = record { user = omega (arith, f.importance); words = addressing_words m.addressing; type = addressing_small m.addressing }
header_small (header.Bundler b) f = record { user = omega arith; words = omega arith; type = omega arith }
header_small (header.State s) f = record { user = omega arith; words = omega arith; type = omega arith }
header_small (header.Reset r) f = record { user = omega arith; words = omega arith; type = omega arith }
header_small (header.Activate a) f = record { user = omega arith; words = omega arith; type = omega arith }
header_small (header.Changeover c) f = record { user = omega arith; words = omega arith; type = changeover_small c.changeover_type }
header_small (header.NameDistributor n) f = record { user = omega arith; words = omega arith; type = distribution_small n.distribution_type }
header_small (header.Fragmenter g) f = record { user = omega arith; words = omega arith; type = fragment_small g.fragment_type }
header_small (header.Discovery d) f = record { user = omega arith; words = omega arith; type = discovery_small d.discovery_type }

pub start_bits : (p : Fields) → Fits p → HaveBits (start_fields p)
start_bits p f =
    let small = header_small p.header f.header in (
      omega (arith, small.user),
      (omega (arith, small.words), (omega (arith, bit_small (is_non_sequenced p.header)), (omega (arith, bit_small (is_destination_droppable p.header)), (omega (arith, bit_small (is_source_droppable p.header)), (omega (arith, f.size), (omega (arith, small.type), tt)))))),
    )

addressing_bits : (a : Addressing) → AddressingFits a → HaveBits (addressing_fields a)
addressing_bits Connected f = tt
addressing_bits (Multicast o d k l u) f = (f.0, (f.1, (omega (arith, f.2), (omega (arith, f.3), (omega (arith, f.4), tt)))))
addressing_bits (Named o d k i) f = (f.0, (f.1, (omega (arith, f.2), (omega (arith, f.3), tt))))
addressing_bits (Direct o d) f = (f.0, (f.1, tt))

-- words 2 and 3 are within their bits
pub record NumbersFit (p : Fields) : Type 0 where
  pub acknowledgement : p.acknowledgement < 2 ^ 16
  pub sequence : p.sequence < 2 ^ 16
  pub previous : p.previous < 2 ^ 32

pub numbers_fit : (p : Fields) → Fits p → NumbersFit p
numbers_fit p f = record { acknowledgement = f.acknowledgement; sequence = f.sequence; previous = f.previous }

pub further_bits : (h : Header) (p : Fields) → HeaderFits h → NumbersFit p → HaveBits (further_fields (with_header p h))
further_bits (header.Payload m) p f n = (
  omega (arith, f.error_code),
  (omega (arith, f.reroute_count), (omega (arith, f.lookup_scope), (omega arith, (omega (arith, f.broadcast_acknowledgement), (omega (arith, n.acknowledgement), (omega (arith, n.sequence), (n.previous, (omega (arith, f.origin_port), (omega (arith, f.destination_port), addressing_bits m.addressing f.addressing))))))))),
)
further_bits (header.Bundler b) p f n = (omega (arith, f.0), (omega (arith, n.acknowledgement), (omega (arith, n.sequence), (n.previous, (omega (arith, f.2), tt)))))
further_bits (header.State s) p f n = (
  omega (arith, f.gap),
  (omega (arith, f.broadcast_acknowledgement), (omega (arith, n.acknowledgement), (n.previous, (omega (arith, f.next), (omega (arith, f.broadcast_next), (omega (arith, f.broadcast_start), (omega (arith, f.broadcast_gap), (f.destination_node, (omega (arith, bit_small s.probe), (omega (arith, bit_small s.in_step), (omega (arith, f.priority), tt))))))))))),
)
further_bits (header.Reset r) p f n = (n.previous, (f.destination_node, (omega (arith, f.priority), (f.contact, (f.peer_contact, tt)))))
further_bits (header.Activate a) p f n = (n.previous, (f.destination_node, (omega (arith, f.priority), (f.contact, (f.peer_contact, tt)))))
further_bits (header.Changeover c) p f n = (
  omega (arith, f.broadcast_acknowledgement),
  (omega (arith, n.acknowledgement), (omega (arith, n.sequence), (n.previous, (omega (arith, f.count), (omega (arith, f.inner_number), (omega (arith, f.old_bearer), (f.old_epoch, tt))))))),
)
further_bits (header.NameDistributor d) p f n = (omega (arith, f), (omega (arith, n.acknowledgement), (omega (arith, n.sequence), (n.previous, tt))))
further_bits (header.Fragmenter g) p f n = (omega (arith, f.0), (omega (arith, n.acknowledgement), (omega (arith, n.sequence), (n.previous, (omega (arith, f.2), (omega arith, tt))))))
further_bits (header.Discovery d) p f n = (n.previous, (omega (arith, f), tt))
