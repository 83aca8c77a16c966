-- What the calls on sockets, names and subscriptions make of a node, and why each is refused.
use Rattle.std.specs.Prelude.{◌≡◌, ℕ, ◌+◌, ◌||◌, Bool, true, nat_le, nat_lt, not, is_some, slice_get, if◌then◌else◌, List, [], ◌∷◌, Option, Some, None, filter, find, length, map, option_map, option_to_list, slice_index_or, unwrap_or}
use Rattle.std.specs.List.{range_with_len}
use Rattle.tipc_types.specs.Span.{Span}
use Rattle.tipc_types.specs.declared.message_forms.Message.{Message}
use Rattle.tipc_types.specs.declared.node_calls.Answer.{Answer}
use Rattle.tipc_types.specs.declared.node_calls.Answer.TheVariants as answer
use Rattle.tipc_types.specs.declared.node_calls.Event.{Event}
use Rattle.tipc_types.specs.declared.node_calls.Subscription.{Subscription}
use Rattle.tipc_types.specs.declared.services.Publication.{Publication}
use Rattle.tipc_types.specs.declared.services.Scope.{Scope}
use Rattle.tipc_journal.specs.declared.entries.Entry.{Entry}
use Rattle.tipc_journal.specs.declared.entries.Entry.TheVariants.{Published, Withdrawn, Subscribed, Cancelled, TimedOut}
use Rattle.tipc_journal.specs.Refusals.{most_publications, most_sockets, most_sockets_made, most_subscriptions, most_subscriptions_made}
use Rattle.tipc_types.specs.Matching.{closest, covers}
use Rattle.tipc_name_dist.specs.Items.{tellings}
use Rattle.tipc_ports.specs.Numbers.{port_number}
use Rattle.tipc_topology.specs.Changing.{due, events_left, is_filter, of_number, passed, with_event_taken as taken_one, with_kept}
use Rattle.tipc_sockets.specs.declared.publishing.PublishFault.{PublishFault}
use Rattle.tipc_sockets.specs.declared.publishing.PublishFault.TheVariants as fault
use Rattle.tipc_sockets.specs.Publishing.{closed, is_at, own_publication, published, published_at, publish_refusal, withdrawn}
use Rattle.tipc_sockets.specs.SocketTables.{has_port, queue_at, with_first_taken, with_queues, with_watchers, SocketTable}
use Rattle.tipc_node.specs.declared.neighbours.Neighbour.{Neighbour}
use Rattle.tipc_node.specs.declared.calls.NameChange.{NameChange}
use Rattle.tipc_node.specs.declared.calls.NameChange.TheVariants as change
use Rattle.tipc_node.specs.Nodes.{NodeState, load_with, waiting_in}
use Rattle.tipc_node.specs.Works.{Work, begun, noted}

-- the work on a step that changed the sockets so, and nothing else
abbrev pub with_sockets_of : Work → SocketTable → Work
with_sockets_of w sockets = record w { sockets = sockets }

-- ---- a socket is made

-- as many sockets are there as may be, or as many were made in this boot
abbrev pub socket_refusal : SocketTable → Option Answer
socket_refusal s =
    if nat_le most_sockets (length s.ports.present) || nat_le most_sockets_made s.ports.made then Some (answer.Full most_sockets) else None

-- the port of the next socket
abbrev pub next_port : SocketTable → ℕ
next_port s = port_number s.ports.boot (s.ports.made + 1)

-- ---- a port that is named

-- why a call on a port is refused: there is no such socket
abbrev pub port_refusal : SocketTable → ℕ → Option Answer
port_refusal s port = if has_port s port then None else Some answer.NoSocket

-- the messages that wait at a port
abbrev pub waiting_at : SocketTable → ℕ → List Message
waiting_at s port = unwrap_or (queue_at s port) []

-- what a receive is answered where these messages wait: the first of them, or that there is none
abbrev pub first_answer : List Message → Answer
first_answer [] = answer.Empty
first_answer (first ∷ rest) = answer.Received first

-- what the journal keeps of an answer: of a message that was received, only that one was given
abbrev pub kept_answer : Answer → Answer
kept_answer (answer.Received message) = answer.Got
kept_answer other = other

-- the work where the first message that waits at a port is taken
abbrev pub received_work : NodeState → ℕ → Work
received_work n port = with_sockets_of (begun n) (with_queues n.sockets (with_first_taken n.sockets.queues port))

-- a port is closed, behind the withdrawals of what is published there
abbrev pub closed_work : NodeState → ℕ → Work
closed_work n port = record (begun n) { sockets = closed n.sockets port; inside = map Withdrawn (filter (is_at port) n.sockets.live) }

-- ---- names

-- the answer of a publication that is refused. That memory runs out is no refusal.
abbrev pub refused_publication : Option PublishFault → Option Answer
refused_publication None = None
refused_publication (Some fault.NoSocket) = Some answer.NoSocket
refused_publication (Some fault.Reserved) = Some answer.Reserved
refused_publication (Some (fault.Duplicate key)) = Some (answer.Duplicate key)
refused_publication (Some fault.Full) = Some (answer.Full most_publications)
refused_publication (Some fault.NoMemory) = None

-- why a publication of that service type and key is refused at a port: the first reason that holds
abbrev pub publication_refusal : SocketTable → ℕ → ℕ → ℕ → Option Answer
publication_refusal s port kind key = refused_publication (publish_refusal s port kind key)

-- the work where a range is published at a port
abbrev pub published_work : NodeState → ℕ → Span → Scope → ℕ → Work
published_work n port range scope key = noted (begun n) (Published (own_publication n.own port range scope key) ∷ [])

-- the key isn't live at that port
abbrev pub key_refusal : Option Publication → Option Answer
key_refusal None = Some answer.Unknown
key_refusal (Some p) = None

-- why a key isn't withdrawn at a port: there is no such socket, or the key isn't live there
abbrev pub withdrawal_refusal : SocketTable → ℕ → ℕ → Option Answer
withdrawal_refusal s port key = if has_port s port then key_refusal (published_at s port key) else Some answer.NoSocket

-- what a withdrawal takes out
abbrev pub withdrawn_entries : Option Publication → List Entry
withdrawn_entries None = []
withdrawn_entries (Some p) = Withdrawn p ∷ []

-- the work where a key is withdrawn at a port
abbrev pub withdrawn_work : NodeState → ℕ → ℕ → Work
withdrawn_work n port key = noted (begun n) (withdrawn_entries (published_at n.sockets port key))

-- the sockets where the own names are changed so
abbrev pub with_names_changed : SocketTable → NameChange → SocketTable
with_names_changed s (change.Close port) = closed s port
with_names_changed s (change.Publish port range scope key) = published s (own_publication s.own port range scope key)
with_names_changed s (change.Withdraw port key) = withdrawn s s.own key

-- nothing speaks against it: the port is there, the range can be published, the key is live at its port
abbrev pub CanChangeNames : SocketTable → NameChange → Type 0
CanChangeNames s (change.Close port) = has_port s port ≡ true
CanChangeNames s (change.Publish port range scope key) = publication_refusal s port range.kind key ≡ None
CanChangeNames s (change.Withdraw port key) = (has_port s port ≡ true) × (is_some (published_at s port key) ≡ true)

-- the publications that a name finds at the node, closest first
abbrev pub found_at : NodeState → ℕ → ℕ → List Publication
found_at n kind instance = closest n.own (filter (covers kind instance) n.sockets.names)

-- ---- subscriptions

-- why a subscription isn't made: its lower bound is above the upper, its filter is neither 1 nor 2, or as many are
-- there, or were made in this boot, as may be
abbrev pub subscription_refusal : SocketTable → Subscription → Option Answer
subscription_refusal s asked =
    if nat_lt asked.upper asked.lower then Some answer.BadRange
    else (if not (is_filter asked) then Some answer.BadFilter
    else (if nat_le most_subscriptions (length s.watchers.kept) || nat_le most_subscriptions_made s.watchers.made
    then Some (answer.Full most_subscriptions) else None))

-- no subscription of that number is there
abbrev pub number_refusal : SocketTable → ℕ → Option Answer
number_refusal s number = if is_some (of_number s.watchers number) then None else Some answer.Unknown

-- the number of the next subscription
abbrev pub next_number : SocketTable → ℕ
next_number s = s.watchers.made + 1

-- the work where a subscription is made
abbrev pub subscribed_work : NodeState → Subscription → Work
subscribed_work n asked = noted (begun n) (Subscribed (next_number n.sockets) asked ∷ [])

-- the work where the subscription of that number is cancelled
abbrev pub cancelled_work : NodeState → ℕ → Work
cancelled_work n number = noted (begun n) (Cancelled number ∷ [])

-- the first event of a subscription that wasn't taken yet
abbrev pub first_event : SocketTable → ℕ → Option Event
first_event s number = slice_get (events_left (of_number s.watchers number)) 0

-- the work where that event is taken
abbrev pub next_work : NodeState → ℕ → Work
next_work n number =
    with_sockets_of (begun n)
    (with_watchers n.sockets (with_kept n.sockets.watchers (taken_one number n.sockets.watchers.kept)))

-- the subscriptions that time out in the next tick, rising
abbrev pub timeouts_of : SocketTable → List Entry
timeouts_of s = map TimedOut (due s.watchers.kept)

-- the work where a tick passes for the subscriptions that last
abbrev pub passed_work : Work → Work
passed_work w = with_sockets_of w (with_watchers w.sockets (passed w.sockets.watchers))

-- ---- what peers are told of names

-- no name item is put while so many packets wait on the link to a peer
abbrev pub names_limit : ℕ
names_limit = 1000

-- whether as many packets wait on the link to the peer of that number
abbrev pub is_crowded : List (Option Neighbour) → ℕ → Bool
is_crowded xs peer = nat_le names_limit (waiting_in (load_with (slice_index_or xs peer None)))

-- what a call is answered where so many packets wait for a peer: its number, and how many they are
abbrev pub crowded_answer : List (Option Neighbour) → ℕ → Answer
crowded_answer xs peer = answer.NamesCongested peer (waiting_in (load_with (slice_index_or xs peer None)))

-- the lowest peer on whose link as many packets wait
unfoldable pub first_crowded : List (Option Neighbour) → Option ℕ
first_crowded xs = find (is_crowded xs) (range_with_len 1 32)

-- why peers aren't told by these messages: one is crowded; nothing where there are no messages
abbrev pub crowd_refusal : List (Option Neighbour) → List Message → Option Answer
crowd_refusal xs [] = None
crowd_refusal xs (m ∷ ms) = option_map (crowded_answer xs) (first_crowded xs)

-- what peers are told where a key is withdrawn
abbrev pub told_withdrawal : SocketTable → ℕ → ℕ → List Message
told_withdrawal s port key = tellings true (option_to_list (published_at s port key))

-- what peers are told where a port is closed
abbrev pub told_closing : SocketTable → ℕ → List Message
told_closing s port = tellings true (filter (is_at port) s.live)
