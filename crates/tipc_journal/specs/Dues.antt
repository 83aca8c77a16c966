-- What is due in a step of a journal: a message that arrived, or that a node sent to itself, has its fate next, and
-- a return to a peer is accepted next.
use Rattle.std.specs.Prelude.{◌==◌, if◌then◌else◌, ℕ, Bool, true, false, List, Option, Some, None, fold, take}
use Rattle.tipc_types.specs.declared.identity.Addr.{Addr}
use Rattle.tipc_types.specs.declared.identity.PortId.{PortId}
use Rattle.tipc_types.specs.declared.message_forms.Form.TheVariants.{Multicast as Many, Named, Direct}
use Rattle.tipc_types.specs.declared.message_forms.Message.{Message}
use Rattle.tipc_types.specs.declared.message_forms.Message.TheVariants.{Payload, Items}
use Rattle.tipc_types.specs.declared.node_calls.Answer.{Answer}
use Rattle.tipc_types.specs.declared.node_calls.Answer.TheVariants.{Sent, SentTo}
use Rattle.tipc_types.specs.declared.node_calls.EventNote.{EventNote}
use Rattle.tipc_types.specs.declared.node_calls.EventNote.TheVariants.{SendName, SendPort, Multicast}
use Rattle.tipc_journal.specs.declared.entries.Entry.{Entry}
use Rattle.tipc_journal.specs.declared.entries.Entry.TheVariants.{Delivered, Returned}

-- what the next entry of a step has to be
pub data Due : Type 0 where
  -- nothing is asked of it
  NothingDue : Due
  -- the fate of this message, which arrived or not
  FateDue : (message : Message) (arrived : Bool) → Due
  -- that this return is accepted for a peer
  ReturnDue : (message : Message) → Due

-- what a multicast names in place of a port that it is for
abbrev pub nowhere : PortId
nowhere = record { node = record { word = 0 }; port = 0 }

-- the message that a call of a node makes of its arguments and its answer, where it sends one
abbrev pub sent_message : Addr → EventNote → Answer → Option Message
sent_message own (SendName port kind instance importance body) (SentTo to) =
    Some (Payload importance Named (record { node = own; port = port }) to kind instance instance 0 false body)
sent_message own (SendPort port to importance body) Sent =
    Some (Payload importance Direct (record { node = own; port = port }) to 0 0 0 0 false body)
sent_message own (Multicast port kind lower upper importance body) Sent =
    Some (Payload importance Many (record { node = own; port = port }) nowhere kind lower upper 0 true body)
sent_message own event answer = None

-- a message as it is returned: direct, with the code and at most its first 1,024 bytes, from the port that it was for
-- to the port that sent it
abbrev pub returned_message : ℕ → Message → Message
returned_message code (Payload importance form from to kind lower upper old droppable body) =
    Payload importance Direct to from 0 0 0 code false (take 1024 body)
returned_message code (Items withdrawal items) = Items withdrawal items

-- whether a message that a node makes has a fate at this node: a multicast, and one for a port of its own
abbrev pub comes_home : Addr → Message → Bool
comes_home own (Payload importance Many from to kind lower upper code droppable body) = true
comes_home own (Payload importance form from to kind lower upper code droppable body) = to.node.word == own.word
comes_home own (Items withdrawal items) = false

-- what is due of a message that a call sends
abbrev pub due_of_sent : Addr → Option Message → Due
due_of_sent own None = NothingDue
due_of_sent own (Some m) = if comes_home own m then FateDue m false else NothingDue

-- what is due at the beginning of a step
abbrev pub first_due : Addr → EventNote → Answer → Due
first_due own event answer = due_of_sent own (sent_message own event answer)

-- what is due of a message that was delivered
abbrev pub due_of_delivered : Message → Due
due_of_delivered (Payload importance form from to kind lower upper code droppable body) =
    FateDue (Payload importance form from to kind lower upper code droppable body) true
due_of_delivered (Items withdrawal items) = NothingDue

-- what is due of a message that is returned
abbrev pub due_of_returned : Addr → Message → Due
due_of_returned own m = if comes_home own m then FateDue m false else ReturnDue m

-- what is due behind an entry, where d was due
abbrev pub due_after : Addr → Due → Entry → Due
due_after own d (Delivered peer contact flow message by) = due_of_delivered message
due_after own (FateDue m arrived) (Returned code) = due_of_returned own (returned_message code m)
due_after own d e = NothingDue

-- what is due behind entries of a step, where d was due before them
unfoldable pub due_behind : Addr → Due → List Entry → Due
due_behind own d entries = fold (due_after own) d entries
