-- What a node's sockets hold is what its journal tells.
use Rattle.std.specs.Prelude.{◌≡◌, ◌<◌, ◌+◌, ◌||◌, ℕ, Bool, true, false, not, List, [], ◌++◌, Some, find, length}
use Rattle.std.specs.List.{list_all}
use Rattle.tipc_types.specs.declared.identity.Addr.{Addr}
use Rattle.tipc_types.specs.declared.message_forms.Message.{Message}
use Rattle.tipc_types.specs.declared.message_forms.Message.TheVariants.{Payload, Items}
use Rattle.tipc_types.specs.declared.node_calls.EventNote.{EventNote}
use Rattle.tipc_types.specs.declared.node_calls.EventNote.TheVariants.{Tick}
use Rattle.tipc_types.specs.Tables.{is_named}
use Rattle.tipc_journal.specs.declared.entries.Entry.{Entry}
use Rattle.tipc_journal.specs.declared.entries.Entry.TheVariants as entry
use Rattle.tipc_journal.specs.Dues.{Due}
use Rattle.tipc_journal.specs.Licensed.{events_given}
use Rattle.tipc_journal.specs.Matches.{names}
use Rattle.tipc_journal.specs.Names.{live, AreAtHome}
use Rattle.tipc_journal.specs.Queues.{queue_inside, sockets, IsFed}
use Rattle.tipc_journal.specs.Refusals.{sockets_made}
use Rattle.tipc_ports.specs.Numbers.{port_number}
use Rattle.tipc_topology.specs.Changing.{cancelled, ended_at, subscribed}
use Rattle.tipc_sockets.specs.declared.fates.Fate.{Fate}
use Rattle.tipc_sockets.specs.declared.fates.Fate.TheVariants.{Queued, Returned, ReturnDropped, Dropped}
use Rattle.tipc_sockets.specs.Fates.{is_by_name}
use Rattle.tipc_sockets.specs.Publishing.{published, purged, withdrawn}
use Rattle.tipc_sockets.specs.SocketTables.{has_port, queue_at, with_watchers, SocketTable}
use Rattle.tipc_sockets.specs.Watched.{AreWatchersTold}

-- In a step behind these whole steps, at whose beginning d was due, the entries so far tell what the sockets hold:
-- the live publications in the order of publishing, all publications in order, the ports and how many were made, and
-- what waits at each of them, and of each subscription what it was told. Every own publication is at a port that is
-- there, and nothing waits at a port that isn't made yet.
pub record AreTold (own : Addr) (before : List Entry) (d : Due) (front : List Entry) (s : SocketTable) : Type 0 where
  pub node : s.own ≡ own.word
  pub home : AreAtHome own (before ++ front)
  pub live : s.live ≡ live (before ++ front)
  pub names : s.names ≡ names (before ++ front)
  pub ports : s.ports.present ≡ sockets before
  pub made : s.ports.made ≡ length (sockets_made before)
  pub queues : (port : ℕ) (waiting : List Message) → queue_at s port ≡ Some waiting
      → waiting ≡ queue_inside own before d front port
  pub placed : list_all (λ p. has_port s p.at.port) s.live ≡ true
  pub unused : (port : ℕ) → port_number s.ports.boot s.ports.made < port → queue_inside own before d front port ≡ []
  pub fed : (port : ℕ) → IsFed own before port
  pub watchers : AreWatchersTold (before ++ front) (events_given before) s.watchers

-- the entry that tells a fate
abbrev pub fate_entry : Fate → Entry
fate_entry (Queued ports) = entry.Queued ports
fate_entry (Returned (Payload importance form from to kind lower upper code droppable body)) = entry.Returned code
fate_entry (Returned (Items withdrawal items)) = entry.Dropped 0
fate_entry (ReturnDropped waiting) = entry.ReturnDropped waiting
fate_entry Dropped = entry.Dropped 0

-- whether a message is a user's
abbrev pub is_payload : Message → Bool
is_payload (Payload importance form from to kind lower upper code droppable body) = true
is_payload (Items withdrawal items) = false

-- where a message comes from
abbrev pub origin_of : Message → Addr
origin_of (Payload importance form from to kind lower upper code droppable body) = from.node
origin_of (Items withdrawal items) = record { word = 0 }

-- whether the port of a message by name is there
abbrev pub is_for_one_there : SocketTable → Message → Bool
is_for_one_there s (Payload importance form from to kind lower upper code droppable body) =
    not (is_by_name form) || has_port s to.port
is_for_one_there s (Items withdrawal items) = true

-- what a node's sockets hold after an entry that is no fate: a publication is published, withdrawn, learned or
-- forgotten, those of a peer are purged where the contact ends, a subscription is made, cancelled or timed out, and
-- nothing changes by any other
abbrev pub after_entry : SocketTable → Entry → SocketTable
after_entry s (entry.Published p) = published s p
after_entry s (entry.Withdrawn p) = withdrawn s p.at.node.word p.key
after_entry s (entry.Learned p) = published s p
after_entry s (entry.Forgot p) = withdrawn s p.at.node.word p.key
after_entry s (entry.ContactDown peer numbers states shown) = purged s peer.word
after_entry s (entry.Subscribed number asked) = with_watchers s (subscribed asked s.names s.watchers)
after_entry s (entry.Cancelled number) = with_watchers s (cancelled number s.watchers)
after_entry s (entry.TimedOut number) = with_watchers s (ended_at number s.watchers)
after_entry s _ = s

-- whether an entry, where it publishes, does so at a port that is there
abbrev pub is_placed : SocketTable → Entry → Bool
is_placed s (entry.Published p) = has_port s p.at.port
is_placed s _ = true

-- An entry may stand behind the others where the sockets are so: what is withdrawn or forgotten is there, a
-- subscription has the next number, and no step begins.
abbrev pub MayFollow : SocketTable → Entry → Type 0
MayFollow s (entry.Withdrawn p) = find (is_named p.at.node.word p.key) s.names ≡ Some p
MayFollow s (entry.Forgot p) = find (is_named p.at.node.word p.key) s.names ≡ Some p
MayFollow s (entry.Subscribed number asked) = number ≡ s.watchers.made + 1
MayFollow s (entry.Step by event) = ⊥
MayFollow s _ = Unit {0}

-- whether a call is a tick
abbrev pub is_tick : EventNote → Bool
is_tick Tick = true
is_tick _ = false

-- whether an entry makes, cancels or ends a subscription, or begins a step
abbrev pub is_of_subscriptions : Entry → Bool
is_of_subscriptions (entry.Subscribed number asked) = true
is_of_subscriptions (entry.Cancelled number) = true
is_of_subscriptions (entry.TimedOut number) = true
is_of_subscriptions (entry.Step by event) = true
is_of_subscriptions _ = false
