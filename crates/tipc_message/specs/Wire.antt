-- The packet that carries a message, and the message that a packet carries.
use Rattle.std.specs.Prelude.{◌≡◌, ◌≤◌, ◌==◌, ℕ, Bool, true, false, List, Option, Some, None, length, if◌then◌else◌}
use Rattle.tipc_types.specs.declared.identity.PortId.{PortId}
use Rattle.tipc_types.specs.declared.message_forms.Form.{Form}
use Rattle.tipc_types.specs.declared.message_forms.Form.TheVariants as form
use Rattle.tipc_types.specs.declared.message_forms.Importance.{Importance}
use Rattle.tipc_types.specs.declared.message_forms.Importance.TheVariants.{Low, Medium, High, Critical}
use Rattle.tipc_types.specs.declared.message_forms.Item.{Item}
use Rattle.tipc_types.specs.declared.message_forms.Message.{Message}
use Rattle.tipc_types.specs.declared.message_forms.Message.TheVariants as message
use Rattle.tipc_header.specs.declared.packet.Addressing.{Addressing}
use Rattle.tipc_header.specs.declared.packet.Addressing.TheVariants.{Connected, Multicast, Named, Direct}
use Rattle.tipc_header.specs.declared.packet.DistributionType.{DistributionType}
use Rattle.tipc_header.specs.declared.packet.DistributionType.TheVariants.{Publication, Withdrawal}
use Rattle.tipc_header.specs.declared.packet.Payload.{Payload}
use Rattle.tipc_header.specs.declared.packet.Header.{Header}
use Rattle.tipc_header.specs.declared.packet.Header.TheVariants as header
use Rattle.tipc_header.specs.Spelling.{Fields}
use Rattle.tipc_message.specs.ItemWords.{items_bytes, items_of}

-- the number of an importance, which is also the user
abbrev pub importance_number : Importance → ℕ
importance_number Low = 0
importance_number Medium = 1
importance_number High = 2
importance_number Critical = 3

-- the importance of this number, 0 to 3
abbrev pub importance_of : ℕ → Importance
importance_of n = if n == 0 then Low else (if n == 1 then Medium else (if n == 2 then High else Critical))

-- a named and a multicast message is looked up in the cluster
abbrev pub lookup_scope_of : Form → ℕ
lookup_scope_of form.Named = 2
lookup_scope_of form.Multicast = 2
lookup_scope_of form.Connected = 0
lookup_scope_of form.Direct = 0

-- how a message is addressed in its packet, by its form: nodes are address words, and a named message has its instance
-- as the lower bound
abbrev pub addressing_of : Form → ℕ → ℕ → ℕ → ℕ → ℕ → Addressing
addressing_of form.Connected origin destination kind lower upper = Connected
addressing_of form.Multicast origin destination kind lower upper = Multicast origin destination kind lower upper
addressing_of form.Named origin destination kind lower upper = Named origin destination kind lower
addressing_of form.Direct origin destination kind lower upper = Direct origin destination

-- the header of a user's message
abbrev pub payload_of : Importance → Form → PortId → PortId → ℕ → ℕ → ℕ → ℕ → Bool → Payload
payload_of importance form from to kind lower upper code droppable = record {
  importance = importance_number importance;
  destination_droppable = droppable;
  source_droppable = false;
  error_code = code;
  reroute_count = 0;
  lookup_scope = lookup_scope_of form;
  broadcast_acknowledgement = 0;
  origin_port = from.port;
  destination_port = to.port;
  addressing = addressing_of form from.node.word to.node.word kind lower upper;
}

-- the packet of this node with this header, as it waits to be sent
abbrev pub waiting_packet : ℕ → Header → List ℕ → Fields
waiting_packet own h rest = record { acknowledgement = 0; sequence = 0; previous = own; header = h; rest = rest }

-- that of a user's message
abbrev pub payload_packet : ℕ → Payload → List ℕ → Fields
payload_packet own p body = waiting_packet own (header.Payload p) body

-- the type of an item message
abbrev pub distribution_of : Bool → DistributionType
distribution_of true = Withdrawal
distribution_of false = Publication

-- the header of an item message
abbrev pub distribution_header : Bool → Header
distribution_header withdrawal =
    header.NameDistributor (record { distribution_type = distribution_of withdrawal; broadcast_acknowledgement = 0 })

-- the packet of items of this node, as it waits to be sent
abbrev pub items_packet : ℕ → Bool → List Item → Fields
items_packet own withdrawal items = waiting_packet own (distribution_header withdrawal) (items_bytes items)

-- The packet of a message as it waits to be sent by a node of this address. That node is the previous one of the packet; it needn't be the
-- message's origin.
unfoldable pub packet_of : ℕ → Message → Option Fields
packet_of own (message.Payload importance form from to kind lower upper code droppable body) =
    Some (payload_packet own (payload_of importance form from to kind lower upper code droppable) body)
packet_of own (message.Items withdrawal items) = Some (items_packet own withdrawal items)

-- the port of this number at the node of this address word
abbrev pub port_at : ℕ → ℕ → PortId
port_at node port = record { node = record { word = node }; port = port }

-- The message of a payload packet with this body, in this form, from a node to a node, with a name type and the bounds of its
-- instances.
abbrev pub message_between : Payload → Form → ℕ → ℕ → ℕ → ℕ → ℕ → List ℕ → Message
message_between p form origin destination kind lower upper body = message.Payload (importance_of p.importance) form (port_at origin p.origin_port) (port_at destination p.destination_port) kind lower upper p.error_code p.destination_droppable body

-- The message of a payload packet, addressed so, with this body. A message between connected ports names no nodes, and
-- so 0 stands for both.
abbrev pub message_by : Payload → Addressing → List ℕ → Message
message_by p Connected body = message_between p form.Connected 0 0 0 0 0 body
message_by p (Multicast origin destination kind lower upper) body = message_between p form.Multicast origin destination kind lower upper body
message_by p (Named origin destination kind instance) body = message_between p form.Named origin destination kind instance instance body
message_by p (Direct origin destination) body = message_between p form.Direct origin destination 0 0 0 body

-- whether an item message tells of withdrawals
abbrev pub is_withdrawal : DistributionType → Bool
is_withdrawal Withdrawal = true
is_withdrawal Publication = false

-- the message of a packet with this header, and these bytes behind it
abbrev pub message_with : Header → List ℕ → Option Message
message_with (header.Payload p) rest = Some (message_by p p.addressing rest)
message_with (header.NameDistributor d) rest = Some (message.Items (is_withdrawal d.distribution_type) (items_of rest))
message_with _ rest = None

-- the message of a packet, where it carries a user's message or items
unfoldable pub message_of : Fields → Option Message
message_of p = message_with p.header p.rest

-- the fields that a form lacks are 0, and a named message has the bounds of one instance
abbrev pub HasFormFields : Form → PortId → PortId → ℕ → ℕ → ℕ → Type 0
HasFormFields form.Connected from to kind lower upper = (from.node.word ≡ 0) × (to.node.word ≡ 0) × (kind ≡ 0) × (lower ≡ 0) × (upper ≡ 0)
HasFormFields form.Multicast from to kind lower upper = Unit {0}
HasFormFields form.Named from to kind lower upper = upper ≡ lower
HasFormFields form.Direct from to kind lower upper = (kind ≡ 0) × (lower ≡ 0) × (upper ≡ 0)

-- a user's message that a packet can carry
abbrev pub IsPayload : Message → Type 0
IsPayload (message.Payload importance form from to kind lower upper code droppable body) =
    HasFormFields form from to kind lower upper × (code ≤ 5) × (length body ≤ 66000)
IsPayload (message.Items withdrawal items) = ⊥

-- a message that a packet can carry: a user's, or one of 1 to 70 items
abbrev pub IsCarried : Message → Type 0
IsCarried (message.Payload importance form from to kind lower upper code droppable body) =
    IsPayload (message.Payload importance form from to kind lower upper code droppable body)
IsCarried (message.Items withdrawal items) = (1 ≤ length items) × (length items ≤ 70)
