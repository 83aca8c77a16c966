-- The table of fields: which a packet of each header shows, in the order of its words. What must be zero has no line.
use Rattle.std.specs.Prelude.{ℕ, List, [], ◌∷◌, ◌++◌, codes}
use Rattle.tipc_header.specs.declared.packet.Header.{Header}
use Rattle.tipc_header.specs.declared.packet.Header.TheVariants as header
use Rattle.tipc_header.specs.declared.packet.Addressing.{Addressing}
use Rattle.tipc_header.specs.declared.packet.Addressing.TheVariants.{Connected, Multicast, Named, Direct}
use Rattle.tipc_header.specs.declared.packet.Payload.{Payload}
use Rattle.tipc_header.specs.declared.packet.State.{State}
use Rattle.tipc_header.specs.declared.packet.Reset.{Reset}
use Rattle.tipc_header.specs.declared.packet.Changeover.{Changeover}
use Rattle.tipc_header.specs.Users.{user_of, type_of, header_size, is_non_sequenced, is_destination_droppable, is_source_droppable}
use Rattle.tipc_header.specs.Spelling.{Fields, bit, size_of}
use Rattle.tipc_dissect.specs.declared.lines.Value.TheVariants.{Number, Address}
use Rattle.tipc_dissect.specs.Lines.{Field}

-- word 0, and the type, which every packet has
abbrev pub start_fields : Fields → List Field
start_fields p =
    (codes "user", Number (user_of p.header))
    ∷ (codes "words", Number (header_size p.header))
    ∷ (codes "non-sequenced", Number (bit (is_non_sequenced p.header)))
    ∷ (codes "destination-droppable", Number (bit (is_destination_droppable p.header)))
    ∷ (codes "source-droppable", Number (bit (is_source_droppable p.header)))
    ∷ (codes "size", Number (size_of p))
    ∷ (codes "type", Number (type_of p.header))
    ∷ []

-- ---- word 1, below the type

-- the broadcast acknowledgement, where word 1 has nothing else
abbrev pub broadcast_fields : ℕ → List Field
broadcast_fields acknowledgement = (codes "broadcast-ack", Number acknowledgement) ∷ []

-- word 1 of payload. The flow is always 0: a packet has no bit for it.
abbrev pub message_fields : Payload → List Field
message_fields m =
    (codes "code", Number m.error_code)
    ∷ (codes "reroute", Number m.reroute_count)
    ∷ (codes "scope", Number m.lookup_scope)
    ∷ (codes "flow", Number 0)
    ∷ (codes "broadcast-ack", Number m.broadcast_acknowledgement)
    ∷ []

-- word 1 of a STATE
abbrev pub gap_fields : State → List Field
gap_fields s = (codes "gap", Number s.gap) ∷ (codes "broadcast-ack", Number s.broadcast_acknowledgement) ∷ []

-- word 1 by the header
abbrev pub word_1_fields : Header → List Field
word_1_fields (header.Payload m) = message_fields m
word_1_fields (header.Bundler b) = broadcast_fields b.broadcast_acknowledgement
word_1_fields (header.State s) = gap_fields s
word_1_fields (header.Reset r) = []
word_1_fields (header.Activate a) = []
word_1_fields (header.Changeover c) = broadcast_fields c.broadcast_acknowledgement
word_1_fields (header.NameDistributor n) = broadcast_fields n.broadcast_acknowledgement
word_1_fields (header.Fragmenter f) = broadcast_fields f.broadcast_acknowledgement
word_1_fields (header.Discovery d) = []

-- ---- words 2 and 3: the acknowledgement, the sequence number and the node that sent the packet

-- both numbers, and the node
abbrev pub numbered_fields : Fields → List Field
numbered_fields p = (codes "ack", Number p.acknowledgement) ∷ (codes "sequence", Number p.sequence) ∷ (codes "previous", Address p.previous) ∷ []

-- a STATE acknowledges, and has no number of its own
abbrev pub acknowledging_fields : Fields → List Field
acknowledging_fields p = (codes "ack", Number p.acknowledgement) ∷ (codes "previous", Address p.previous) ∷ []

-- the node alone
abbrev pub sender_fields : Fields → List Field
sender_fields p = (codes "previous", Address p.previous) ∷ []

-- words 2 and 3 of a packet with this header
abbrev pub numbers_fields : Header → Fields → List Field
numbers_fields (header.Payload m) p = numbered_fields p
numbers_fields (header.Bundler b) p = numbered_fields p
numbers_fields (header.State s) p = acknowledging_fields p
numbers_fields (header.Reset r) p = sender_fields p
numbers_fields (header.Activate a) p = sender_fields p
numbers_fields (header.Changeover c) p = numbered_fields p
numbers_fields (header.NameDistributor n) p = numbered_fields p
numbers_fields (header.Fragmenter f) p = numbered_fields p
numbers_fields (header.Discovery d) p = sender_fields p

-- ---- words 4 and on

-- the ports of payload
abbrev pub port_fields : Payload → List Field
port_fields m = (codes "origin-port", Number m.origin_port) ∷ (codes "destination-port", Number m.destination_port) ∷ []

-- the nodes of payload
abbrev pub node_fields : ℕ → ℕ → List Field
node_fields origin destination = (codes "origin-node", Address origin) ∷ (codes "destination-node", Address destination) ∷ []

-- the words of payload behind its ports. An instance stands where the lower bound of a range does.
abbrev pub addressing_fields : Addressing → List Field
addressing_fields Connected = []
addressing_fields (Multicast origin destination kind lower upper) =
    node_fields origin destination ++ ((codes "name-type", Number kind) ∷ (codes "lower", Number lower) ∷ (codes "upper", Number upper) ∷ [])
addressing_fields (Named origin destination kind instance) =
    node_fields origin destination ++ ((codes "name-type", Number kind) ∷ (codes "lower", Number instance) ∷ [])
addressing_fields (Direct origin destination) = node_fields origin destination

-- a STATE
abbrev pub link_state_fields : State → List Field
link_state_fields s =
    (codes "next", Number s.next)
    ∷ (codes "broadcast-next", Number s.broadcast_next)
    ∷ (codes "broadcast-start", Number s.broadcast_start)
    ∷ (codes "broadcast-gap", Number s.broadcast_gap)
    ∷ (codes "destination-node", Address s.destination_node)
    ∷ (codes "probe", Number (bit s.probe))
    ∷ (codes "in-step", Number (bit s.in_step))
    ∷ (codes "priority", Number s.priority)
    ∷ []

-- a RESET or an ACTIVATE, with the two contact numbers behind its header
abbrev pub reset_fields : Reset → List Field
reset_fields r =
    (codes "destination-node", Address r.destination_node)
    ∷ (codes "priority", Number r.priority)
    ∷ (codes "contact", Number r.contact)
    ∷ (codes "peer-contact", Number r.peer_contact)
    ∷ []

-- a tunnel packet, with the epoch behind its header
abbrev pub tunnel_fields : Changeover → List Field
tunnel_fields c =
    (codes "count", Number c.count)
    ∷ (codes "inner-number", Number c.inner_number)
    ∷ (codes "old-bearer", Number c.old_bearer)
    ∷ (codes "old-epoch", Number c.old_epoch)
    ∷ []

-- words 4 and on by the header; a fragment's flow is always 0, as that of payload
abbrev pub user_fields : Header → List Field
user_fields (header.Payload m) = port_fields m ++ addressing_fields m.addressing
user_fields (header.Bundler b) = (codes "count", Number b.count) ∷ []
user_fields (header.State s) = link_state_fields s
user_fields (header.Reset r) = reset_fields r
user_fields (header.Activate a) = reset_fields a
user_fields (header.Changeover c) = tunnel_fields c
user_fields (header.NameDistributor n) = []
user_fields (header.Fragmenter f) = (codes "fragment", Number f.number) ∷ (codes "flow", Number 0) ∷ []
user_fields (header.Discovery d) = (codes "network", Number d.network) ∷ []

-- ---- all of them

-- what follows word 0 and the type
abbrev pub further_fields : Fields → List Field
further_fields p = word_1_fields p.header ++ (numbers_fields p.header p ++ user_fields p.header)

-- the fields that a packet shows
abbrev pub fields_of : Fields → List Field
fields_of p = start_fields p ++ further_fields p
