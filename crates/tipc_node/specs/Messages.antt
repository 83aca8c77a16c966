-- The messages that a node sends, and their packets.
use Rattle.std.specs.Prelude.{◌≡◌, ◌≤◌, ℕ, Bool, true, false, List, [], All, length, Option, Some, None, if◌then◌else◌}
use Rattle.tipc_types.specs.Limits.{most_packet_bytes}
use Rattle.tipc_types.specs.Span.{Span}
use Rattle.tipc_types.specs.declared.identity.Addr.{Addr}
use Rattle.tipc_types.specs.declared.identity.PortId.{PortId}
use Rattle.tipc_types.specs.declared.message_forms.Flow.{Flow}
use Rattle.tipc_types.specs.declared.message_forms.Flow.TheVariants.{Zero, One, Broadcast}
use Rattle.tipc_types.specs.declared.message_forms.Form.TheVariants as form
use Rattle.tipc_types.specs.declared.message_forms.Importance.{Importance}
use Rattle.tipc_types.specs.declared.message_forms.Importance.TheVariants.{Low, Medium, High, Critical}
use Rattle.tipc_types.specs.declared.message_forms.Message.{Message}
use Rattle.tipc_types.specs.declared.message_forms.Message.TheVariants.{Payload, Items}
use Rattle.tipc_header.specs.Grammar.{Fits}
use Rattle.tipc_header.specs.Reading.{fields_at}
use Rattle.tipc_header.specs.Spelling.{Fields, spelling}
use Rattle.tipc_journal.specs.Dues.{nowhere}
use Rattle.tipc_message.specs.Wire.{message_of, packet_of}

-- ---- packets

-- the bytes of a packet, where there is one
abbrev pub spelled : Option Fields → List ℕ
spelled (Some p) = spelling p
spelled None = []

-- the bytes of a message's packet, as it waits to be sent by a node of this address
unfoldable pub bytes_of : ℕ → Message → List ℕ
bytes_of own message = spelled (packet_of own message)

-- a message that a node of this address may send, a user's or one of name items: a packet carries it, in which it is read again
pub record IsSendable (own : ℕ) (m : Message) : Type 0 where
  pub packet : Fields
  pub packet_is : packet_of own m ≡ Some packet
  pub fits : Fits packet
  pub read : message_of packet ≡ Some m

-- the message that a packet carries, where it carries one
abbrev pub message_in : List ℕ → Option Message
message_in packet = message_of (fields_at packet)

-- whether there is a message, and it is one of name items
abbrev pub is_of_items : Option Message → Bool
is_of_items None = false
is_of_items (Some (Items withdrawal items)) = true
is_of_items (Some (Payload importance form from to kind lower upper code droppable body)) = false

-- the message that is delivered in a flow, of one that a packet carries: name items are told to each peer by itself, so none is broadcast
abbrev pub in_flow : Flow → Option Message → Option Message
in_flow Zero m = m
in_flow One m = m
in_flow Broadcast m = if is_of_items m then None else m

-- the message that a packet carries in a flow, where it carries one
abbrev pub message_in_flow : Flow → List ℕ → Option Message
message_in_flow flow packet = in_flow flow (message_in packet)

-- packets as a broadcast link takes them of one message: each has a header, and a packet's bytes at most, and they are 47 at most
pub record ArePieces (pieces : List (List ℕ)) : Type 0 where
  pub long : All (λ piece. 16 ≤ length piece) pieces
  pub short : All (λ piece. length piece ≤ most_packet_bytes) pieces
  pub few : length pieces ≤ 47

-- ---- users' messages

-- how many packets may wait before a message of this importance is congested
abbrev pub limit_of : Importance → ℕ
limit_of Low = 50
limit_of Medium = 100
limit_of High = 150
limit_of Critical = 200

-- the port of that number at the node with this address word
abbrev pub port_id : ℕ → ℕ → PortId
port_id word port = record { node = record { word = word }; port = port }

-- a message to a port
abbrev pub direct : ℕ → ℕ → PortId → Importance → List ℕ → Message
direct own port to importance body = Payload importance form.Direct (port_id own port) to 0 0 0 0 false body

-- a message by name, to the port that the name found
abbrev pub named : ℕ → ℕ → PortId → ℕ → ℕ → Importance → List ℕ → Message
named own port to kind instance importance body = Payload importance form.Named (port_id own port) to kind instance instance 0 false body

-- a message to each port that offers in a range
abbrev pub multicast : ℕ → ℕ → Span → Importance → List ℕ → Message
multicast own port range importance body = Payload importance form.Multicast (port_id own port) nowhere range.kind range.lower range.upper 0 true body

-- the node that a message is for
abbrev pub destination_of : Message → Addr
destination_of (Payload importance form from to kind lower upper code droppable body) = to.node
destination_of (Items withdrawal items) = record { word = 0 }
