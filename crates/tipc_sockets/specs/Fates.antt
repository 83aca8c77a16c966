-- The fate of a message that arrived, or that the own node sent to itself: the first row that fits.
use Rattle.std.specs.Prelude.{ℕ, ◌+◌, ◌==◌, ◌&&◌, ◌||◌, Bool, true, false, not, nat_le, nat_lt, if◌then◌else◌, List, [], ◌∷◌, Option, None, Some, filter, length, replicate}
use Rattle.std.specs.List.{list_any}
use Rattle.tipc_types.specs.Span.{Span}
use Rattle.tipc_types.specs.declared.message_forms.Form.{Form}
use Rattle.tipc_types.specs.declared.message_forms.Form.TheVariants.{Connected, Multicast, Named}
use Rattle.tipc_types.specs.declared.message_forms.Message.{Message}
use Rattle.tipc_types.specs.declared.message_forms.Message.TheVariants.{Payload, Items}
use Rattle.tipc_types.specs.declared.services.Publication.{Publication}
use Rattle.tipc_types.specs.Matching.{covers, overlaps}
use Rattle.tipc_journal.specs.Dues.{returned_message}
use Rattle.tipc_journal.specs.Fates.{counts_for, inbox_size, no_name, no_port, overload, return_limit}
use Rattle.tipc_journal.specs.Names.{is_clusterwide}
use Rattle.tipc_sockets.specs.declared.fates.Fate.{Fate}
use Rattle.tipc_sockets.specs.declared.fates.Fate.TheVariants.{Queued, Returned, ReturnDropped, Dropped}
use Rattle.tipc_sockets.specs.Publishing.{is_at}
use Rattle.tipc_sockets.specs.SocketTables.{queue_at, queued, queued_at_each, with_queues, SocketTable}

-- whether a port offers an instance to other nodes: it has a live publication of cluster or zone scope that covers it
abbrev pub is_offered : List Publication → ℕ → ℕ → ℕ → Bool
is_offered live port kind instance =
    list_any (λ p. is_at port p && (is_clusterwide p.scope && covers kind instance p)) live

-- the live publications that a multicast of a range is for: those that share an instance with it and count
abbrev pub aimed_at : List Publication → Bool → Span → List Publication
aimed_at live arrived range = filter (λ p. overlaps range p && counts_for arrived p) live

-- whether one more message may wait at a port where these wait: the port is there, and its inbox isn't full
abbrev pub may_wait : Option (List Message) → Bool
may_wait None = false
may_wait (Some waiting) = nat_lt (length waiting) inbox_size

-- the ports to which a multicast is queued, rising
abbrev pub hearers : SocketTable → Bool → Span → List ℕ
hearers s arrived range =
    filter (λ port. list_any (is_at port) (aimed_at s.live arrived range) && may_wait (queue_at s port)) s.ports.present

-- What a multicast will make of the sockets: the ports to which it is queued, rising, and a copy of it for each.
pub record Spread : Type 0 where
  pub ports : List ℕ
  pub copies : List Message

-- the ports to which a message is queued as a multicast, by the range that it names
abbrev pub hearers_of : SocketTable → Bool → Message → List ℕ
hearers_of s arrived (Payload importance form from to kind lower upper code droppable body) =
    hearers s arrived (record { kind = kind; lower = lower; upper = upper })
hearers_of s arrived (Items withdrawal items) = []

-- what it will make of the sockets
abbrev pub spread_of : SocketTable → Bool → Message → Spread
spread_of s arrived m = record { ports = hearers_of s arrived m; copies = replicate (length (hearers_of s arrived m)) m }

-- whether messages of this form are sent by name, to the port that was picked
abbrev pub is_by_name : Form → Bool
is_by_name Named = true
is_by_name _ = false

-- why a message isn't queued to a port where these wait: the port isn't there, or its inbox is full
abbrev pub room_refusal : Option (List Message) → Option ℕ
room_refusal None = Some no_port
room_refusal (Some waiting) = if nat_lt (length waiting) inbox_size then None else Some overload

-- why a message isn't queued to the one port that it is for: it arrived by name and the port offers no such instance;
-- else as above
abbrev pub refusal : SocketTable → Bool → Form → ℕ → ℕ → ℕ → Option ℕ
refusal s arrived form port kind instance =
    if arrived && (is_by_name form && not (is_offered s.live port kind instance)) then Some no_name
    else room_refusal (queue_at s port)

-- what becomes of the return to a node: the own node gets it always; a peer, where fewer than 200 packets wait on the
-- link to it; a node without contact never
abbrev pub return_fate : Bool → Option ℕ → Message → Fate
return_fate true waiting m = Returned m
return_fate false None m = ReturnDropped 0
return_fate false (Some waiting) m = if nat_le return_limit waiting then ReturnDropped waiting else Returned m

-- what becomes of a message that isn't queued, with the reason: it is dropped where it may be, or was returned before;
-- else it is to go back
abbrev pub unqueued_fate : ℕ → Option ℕ → ℕ → Message → Fate
unqueued_fate own waiting why (Payload importance form from to kind lower upper code droppable body) =
    if droppable || not (code == 0) then Dropped
    else return_fate (from.node.word == own) waiting
    (returned_message why (Payload importance form from to kind lower upper code droppable body))
unqueued_fate own waiting why (Items withdrawal items) = Dropped

-- what becomes of a message for one port, where there is a reason against it or none
abbrev pub one_port_fate : ℕ → Option ℕ → ℕ → Option ℕ → Message → Fate
one_port_fate own waiting port None m = Queued (port ∷ [])
one_port_fate own waiting port (Some why) m = unqueued_fate own waiting why m

-- The fate of a message. `waiting` is how many packets wait on the active link to its origin, or none without contact.
-- Connected messages, and name items, are dropped.
abbrev pub fate : SocketTable → Bool → Option ℕ → Message → Fate
fate s arrived waiting (Payload importance Connected from to kind lower upper code droppable body) = Dropped
fate s arrived waiting (Payload importance Multicast from to kind lower upper code droppable body) =
    Queued (hearers s arrived (record { kind = kind; lower = lower; upper = upper }))
fate s arrived waiting (Payload importance form from to kind lower upper code droppable body) =
    one_port_fate s.own waiting to.port (refusal s arrived form to.port kind lower)
    (Payload importance form from to kind lower upper code droppable body)
fate s arrived waiting (Items withdrawal items) = Dropped

-- ---- a message that surely waits

-- the port that a message is for
abbrev pub port_of : Message → ℕ
port_of (Payload importance form from to kind lower upper code droppable body) = to.port
port_of (Items withdrawal items) = 0

-- whether so many messages more may wait at a port where these wait
abbrev pub has_places : ℕ → Option (List Message) → Bool
has_places count None = false
has_places count (Some waiting) = nat_le (length waiting + count) inbox_size

-- whether a message that arrived surely waits at the one port that it is for, as the last of so many that arrived: the port is there, has
-- room for them all, and offers the instance where the message is by name
abbrev pub surely_waits : SocketTable → ℕ → Message → Bool
surely_waits s count (Payload importance Connected from to kind lower upper code droppable body) = false
surely_waits s count (Payload importance Multicast from to kind lower upper code droppable body) = false
surely_waits s count (Payload importance form from to kind lower upper code droppable body) =
    (not (is_by_name form) || is_offered s.live to.port kind lower) && has_places count (queue_at s to.port)
surely_waits s count (Items withdrawal items) = false

-- the sockets when such a message waits at its port
abbrev pub with_waiting : SocketTable → Message → SocketTable
with_waiting s m = with_queues s (queued m s.queues (port_of m))

-- the sockets after a fate: the message waits at each port to which it was queued
abbrev pub after_fate : SocketTable → Message → Fate → SocketTable
after_fate s m (Queued ports) = with_queues s (queued_at_each m s.queues ports)
after_fate s m _ = s
