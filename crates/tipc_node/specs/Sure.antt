-- Deliveries whose messages surely wait at their ports: nothing goes back by them.
use Rattle.std.specs.Prelude.{ℕ, ◌&&◌, Bool, true, List, [], ◌∷◌, Option, Some, None, fold}
use Rattle.std.specs.List.{flat_map, list_all}
use Rattle.tipc_types.specs.declared.message_forms.Message.{Message}
use Rattle.tipc_journal.specs.declared.entries.Entry.{Entry}
use Rattle.tipc_journal.specs.declared.entries.Entry.TheVariants.{Queued}
use Rattle.tipc_sockets.specs.Fates.{port_of, surely_waits, with_waiting}
use Rattle.tipc_sockets.specs.SocketTables.{SocketTable}
use Rattle.tipc_node.specs.declared.frames.Delivery.{Delivery}

-- whether the message of a delivery surely waits, as the last of so many
abbrev pub waits_surely : SocketTable → ℕ → Option Message → Bool
waits_surely s count None = true
waits_surely s count (Some m) = surely_waits s count m

-- whether each message surely waits, as the last of so many
abbrev pub all_wait : SocketTable → ℕ → List Delivery → Bool
all_wait s count ds = list_all (λ (d : Delivery). waits_surely s count d.message) ds

-- the message of a delivery, as a list
abbrev pub message_of : Option Message → List Message
message_of None = []
message_of (Some m) = m ∷ []

-- the messages of deliveries, in order
abbrev pub messages_in : List Delivery → List Message
messages_in ds = flat_map (λ (d : Delivery). message_of d.message) ds

-- what is told of a message that waits at its port
abbrev pub waiting_entries : Option Message → List Entry
waiting_entries None = []
waiting_entries (Some m) = Queued (port_of m ∷ []) ∷ []

-- what is told of a delivery whose message waits at its port
abbrev pub told_of_delivery : Delivery → List Entry
told_of_delivery d = d.entry ∷ waiting_entries d.message

-- what is told of all deliveries, in order
abbrev pub told_in : List Delivery → List Entry
told_in ds = flat_map told_of_delivery ds

-- the sockets where each of these messages waits
abbrev pub with_all_waiting : SocketTable → List Message → SocketTable
with_all_waiting s ms = fold with_waiting s ms

-- each of these messages surely waits at its port behind those before it
abbrev pub are_sure : SocketTable → List Message → Bool
are_sure s [] = true
are_sure s (m ∷ ms) = surely_waits s 1 m && are_sure (with_waiting s m) ms
