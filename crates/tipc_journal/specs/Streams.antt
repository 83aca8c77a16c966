-- Streams in a journal: the messages accepted and delivered in one flow of one contact.
use Rattle.std.specs.Prelude.{◌==◌, ◌&&◌, if◌then◌else◌, ℕ, Bool, true, false, List, Option, Some, None, filter_map}
use Rattle.tipc_types.specs.declared.identity.Addr.{Addr}
use Rattle.tipc_types.specs.declared.message_forms.Flow.{Flow}
use Rattle.tipc_types.specs.declared.message_forms.Flow.TheVariants.{Zero, One, Broadcast}
use Rattle.tipc_types.specs.declared.message_forms.Message.{Message}
use Rattle.tipc_types.specs.declared.message_forms.Message.TheVariants.{Items}
use Rattle.tipc_journal.specs.declared.entries.Entry.{Entry}
use Rattle.tipc_journal.specs.declared.entries.Entry.TheVariants.{Accepted, Delivered}

-- one flow of one contact with a peer, as a node names it: the contact is its own number, then the peer's
pub record Stream : Type 0 where
  pub peer : Addr
  pub contact : ℕ × ℕ
  pub flow : Flow

-- whether two flows are the same
abbrev pub flow_eq : Flow → Flow → Bool
flow_eq Zero Zero = true
flow_eq One One = true
flow_eq Broadcast Broadcast = true
flow_eq _ _ = false

-- whether two streams are the same
unfoldable pub stream_eq : Stream → Stream → Bool
stream_eq s t =
    (s.peer.word == t.peer.word) && ((s.contact.0 == t.contact.0) && ((s.contact.1 == t.contact.1) && flow_eq s.flow t.flow))

-- the message of an Accepted entry of the stream
abbrev pub accepted_message : Stream → Entry → Option Message
accepted_message s (Accepted peer contact flow message) =
    if stream_eq (record { peer = peer; contact = contact; flow = flow }) s then Some message else None
accepted_message s _ = None

-- the messages that were accepted for a peer in a contact and a flow, in order
unfoldable pub accepted : List Entry → Stream → List Message
accepted entries s = filter_map (accepted_message s) entries

-- the message of a Delivered entry of the stream
abbrev pub delivered_message : Stream → Entry → Option Message
delivered_message s (Delivered peer contact flow message by) =
    if stream_eq (record { peer = peer; contact = contact; flow = flow }) s then Some message else None
delivered_message s _ = None

-- the messages that were delivered from a peer in a contact and a flow, in order
unfoldable pub delivered : List Entry → Stream → List Message
delivered entries s = filter_map (delivered_message s) entries

-- whether a message is one of name items
abbrev pub is_items : Message → Bool
is_items (Items withdrawal items) = true
is_items _ = false
