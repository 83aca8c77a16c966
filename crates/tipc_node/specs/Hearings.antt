-- What an arrival makes of a node's parts, one after the other, and the frames that leave with it.
use Rattle.std.specs.Prelude.{◌≡◌, ◌≤◌, ◌-◌, ℕ, Bool, true, false, List, [], Option, Some, None, is_some, length, slice_index_or, slice_set}
use Rattle.tipc_types.specs.declared.message_forms.Flow.TheVariants.{Zero}
use Rattle.tipc_types.specs.declared.link_words.BroadcastState.{BroadcastState}
use Rattle.tipc_types.specs.declared.message_forms.Message.{Message}
use Rattle.tipc_types.specs.declared.node_calls.Arrival.{Arrival}
use Rattle.tipc_types.specs.declared.node_calls.By.{By}
use Rattle.tipc_outside.specs.declared.outgoing.Outgoing.{Outgoing}
use Rattle.tipc_outside.specs.Frames.{Adds, Out}
use Rattle.tipc_types.specs.Address.{node_word}
use Rattle.tipc_discovery.specs.Hearing.{is_of_network}
use Rattle.tipc_header.specs.Grammar.{Fits}
use Rattle.tipc_header.specs.Spelling.{view}
use Rattle.tipc_journal.specs.declared.entries.Entry.{Entry}
use Rattle.tipc_journal.specs.declared.entries.Entry.TheVariants as entry
use Rattle.tipc_broadcast.specs.Casting.{Casting, shown}
use Rattle.tipc_broadcast.specs.Deeds.{after_deeds, deeds_frames}
use Rattle.tipc_pair.specs.declared.transitions.Transition.{Transition}
use Rattle.tipc_pair.specs.Courses.{sent_in}
use Rattle.tipc_pair.specs.PairTurns.{Outset}
use Rattle.tipc_pair.specs.Preparing.{Prepares, changes_of}
use Rattle.tipc_sockets.specs.SocketTables.{SocketTable}
use Rattle.tipc_node.specs.declared.frames.Delivery.{Delivery}
use Rattle.tipc_node.specs.declared.frames.Due.{Due}
use Rattle.tipc_node.specs.declared.frames.Hearing.{Hearing}
use Rattle.tipc_node.specs.declared.packets.HeardPacket.{HeardPacket}
use Rattle.tipc_node.specs.declared.neighbours.Neighbour.{Neighbour}
use Rattle.tipc_node.specs.Arrivals.{BringsDiscovery, Discovers, Greets, Hears, IsDue, answered_work, last_course}
use Rattle.tipc_node.specs.Casting.{arrival_deeds, stated_in}
use Rattle.tipc_journal.specs.Room.{free_entries}
use Rattle.tipc_node.specs.Neighbours.{HearsAt, heard_neighbour}
use Rattle.tipc_pair.specs.Contacts.{begins, ends}
use Rattle.tipc_node.specs.Nodes.{NodeState, arrival_answer, arrival_deliveries, change_entries, end_with, is_met, is_other, neighbour_of}
use Rattle.tipc_node.specs.Turns.{IsFrom}
use Rattle.tipc_node.specs.Works.{Delivers, DeliversAll, DeliversTo, GoesAway, GoesBack, PutsEach, GivesFate, Work, noted, work_of}

-- whether an entry is one of what an arrival delivers: a message, or a part of a packet that is dropped
abbrev pub is_plain : Entry → Bool
is_plain (entry.Delivered peer contact flow message number) = true
is_plain (entry.Dropped place) = true
is_plain other = false

-- ---- what is delivered

-- a return was put on the link to a peer, and what left for it is in the box
pub record WentAway (own : ℕ) (w : Work) (m : Message) (w' : Work) (box box' : Out) : Type 0 where
  pub frames : List Outgoing
  pub goes : GoesAway own w m w' frames
  pub adds : Adds box box' frames

-- a return went back
pub record WentBack (own : ℕ) (w : Work) (m : Message) (w' : Work) (box box' : Out) : Type 0 where
  pub frames : List Outgoing
  pub goes : GoesBack own w m w' frames
  pub adds : Adds box box' frames

-- a message that arrived has its fate
pub record Settled (own : ℕ) (w : Work) (m : Message) (w' : Work) (box box' : Out) : Type 0 where
  pub frames : List Outgoing
  pub settles : GivesFate own w true m w' frames
  pub adds : Adds box box' frames

-- a message that arrived from a peer has its fate, or its items are applied
pub record TookIn (own peer : ℕ) (w : Work) (m : Message) (w' : Work) (box box' : Out) : Type 0 where
  pub frames : List Outgoing
  pub delivers : DeliversTo own peer w (Some m) w' frames
  pub adds : Adds box box' frames

-- what arrived from a peer was delivered
pub record Delivered (own peer : ℕ) (w : Work) (d : Delivery) (w' : Work) (box box' : Out) : Type 0 where
  pub frames : List Outgoing
  pub delivers : Delivers own peer w d w' frames
  pub adds : Adds box box' frames

-- it was delivered one after the other
pub record AllDelivered (own peer : ℕ) (w : Work) (ds : List Delivery) (w' : Work) (box box' : Out) : Type 0 where
  pub frames : List Outgoing
  pub delivers : DeliversAll own peer w ds w' frames
  pub adds : Adds box box' frames

-- ---- a packet that is due

-- a frame brings this packet, which names another node as its sender, on one of the two bearers
abbrev pub IsLooked : ℕ → List ℕ → Due → Type 0
IsLooked own bytes d = (1 ≤ d.peer) × (d.peer ≤ 32) × (d.bearer ≤ 1) × IsFrom d.peer bytes d.first d.second (view d.packet)
    × (is_other own d.packet.previous ≡ true)

-- it is due at a link end that the node has
abbrev pub IsDueAt : NodeState → Due → Type 0
IsDueAt n d = (1 ≤ d.peer) × (d.peer ≤ 32) × (d.bearer ≤ 1) × Fits (view d.packet) × (is_some (end_with d.bearer (neighbour_of n d.peer)) ≡ true)

-- it is a discovery packet of the network, from another node
abbrev pub FindsAt : NodeState → Due → Type 0
FindsAt n d = (1 ≤ d.peer) × (d.peer ≤ 32) × (d.bearer ≤ 1) × (d.packet.previous ≡ node_word d.peer)
    × (is_other n.own (node_word d.peer) ≡ true) × (is_of_network d.packet.header ≡ true)

-- what came of it at a neighbour that heard it by the arrival of that number, where a STATE shows this of the broadcast link
abbrev pub HearsOf : Neighbour → Due → ℕ → BroadcastState → Outset → Type 0
HearsOf x d number shown o = HearsAt x d.bearer d.first d.second (view d.packet) number shown o

-- What it will make of the neighbour at a place: of its pair, what that delivers, what it tells of broadcast, and the answer.
pub record IsPrepared (place : Option Neighbour) (d : Due) (h : Hearing) : Type 0 where
  pub neighbour : Neighbour
  pub was : place ≡ Some neighbour
  pub arriving : Prepares neighbour.pair d.first d.second (view d.packet) h.number h.shown h.arriving
  pub bearer : h.arriving.bearer ≡ d.bearer
  pub deliveries : h.deliveries.items ≡ arrival_deliveries Zero d.peer neighbour.pair h.arriving.outcome
  pub stated : h.stated ≡ stated_in d.packet.header h.arriving.outcome
  pub answer : h.answer ≡ arrival_answer h.arriving.outcome h.deliveries.items
  pub few : length h.deliveries.items ≤ free_entries - 4

-- what will be told of links and contact
abbrev pub told_changes : Hearing → List Transition
told_changes h = changes_of h.arriving.way

-- ---- a neighbour hears it

-- The neighbour x heard it as y, which gave this, and what left then is in the box.
pub record HasHeard (x : Neighbour) (d : Due) (number : ℕ) (shown : BroadcastState) (y : Neighbour) (h : HeardPacket) (box box' : Out) : Type 0 where
  pub out : Outset
  pub hears : HearsOf x d number shown out
  pub after : y ≡ heard_neighbour x out
  pub changes : h.changes ≡ out.course.changes
  pub stated : h.stated ≡ stated_in d.packet.header out.given
  -- no contact begins and ends by one packet
  pub once : begins h.changes ≡ true → ends h.changes ≡ false
  pub deliveries : h.deliveries.items ≡ arrival_deliveries Zero d.peer x.pair out.given
  pub answer : h.answer ≡ arrival_answer out.given h.deliveries.items
  pub adds : Adds box box' (sent_in out.course)

-- the work then: the neighbour of that number is y, and what became of its links is noted
abbrev pub heard_at : List (Option Neighbour) → SocketTable → ℕ → Neighbour → List Transition → Work
heard_at neighbours sockets peer y changes = noted (work_of (slice_set neighbours peer (Some y)) sockets []) (change_entries peer changes)

-- what that made of the parts of the node
pub record HeardThere (neighbours : List (Option Neighbour)) (sockets : SocketTable) (x : Neighbour) (d : Due) (number : ℕ) (shown : BroadcastState) (h : HeardPacket) (w : Work) (box box' : Out) : Type 0 where
  pub after : Neighbour
  pub heard : HasHeard x d number shown after h box box'
  pub work : w ≡ heard_at neighbours sockets d.peer after h.changes

-- ---- what follows

-- where a contact begins there is contact with the neighbour at a place
abbrev pub HasContact : List Transition → Option Neighbour → Type 0
HasContact changes place = begins changes ≡ true → is_met place ≡ true

-- a peer with which a contact began was told of the live publications
pub record Greeted (own peer : ℕ) (changes : List Transition) (w w' : Work) (box box' : Out) : Type 0 where
  pub messages : List Message
  pub greets : Greets w.sockets.live changes messages
  pub frames : List Outgoing
  pub puts : PutsEach own peer w messages w' frames
  pub adds : Adds box box' frames

-- what an arrival from a peer tells the broadcast link, and what leaves by that
pub record ToldCasting (peer : ℕ) (changes : List Transition) (stated : Option BroadcastState) (v v' : Casting) (box box' : Out) : Type 0 where
  pub after : v' ≡ after_deeds (arrival_deeds peer changes stated) v
  pub adds : Adds box box' (deeds_frames (arrival_deeds peer changes stated) v)

-- It was, then the broadcast link was told, what the packet gave was delivered, and the STATE that was due left last.
pub record Followed (own peer bearer : ℕ) (changes : List Transition) (stated : Option BroadcastState) (ds : List Delivery) (v v' : Casting) (w w' : Work) (box box' : Out) : Type 0 where
  pub told : Work
  pub told_box : Out
  pub greeted : Greeted own peer changes w told box told_box
  pub cast_box : Out
  pub cast : ToldCasting peer changes stated v v' told_box cast_box
  pub work : Work
  pub work_box : Out
  pub delivered : AllDelivered own peer told ds work cast_box work_box
  pub then : Neighbour
  pub then_is : slice_index_or work.neighbours peer None ≡ Some then
  pub after : w' ≡ answered_work work peer bearer stated v' then
  pub adds : Adds work_box box' (last_course peer bearer stated v' then).states

-- The neighbour x heard a packet, and that followed.
pub record Worked (own : ℕ) (v v' : Casting) (neighbours : List (Option Neighbour)) (sockets : SocketTable) (x : Neighbour) (d : Due) (number : ℕ) (answered : Arrival) (w' : Work) (box box' : Out) : Type 0 where
  pub given : HeardPacket
  pub work : Work
  pub between : Out
  pub heard : HeardThere neighbours sockets x d number (shown v (node_word d.peer)) given work box between
  pub answer : answered ≡ given.answer
  pub followed : Followed own d.peer d.bearer given.changes given.stated given.deliveries.items v v' work w' between box'

-- ---- the node

-- the packet of an arrival was heard, and what left is in the box
abbrev pub IsHeard : NodeState → NodeState → By → ℕ → ℕ → List ℕ → Out → Out → Arrival → Type 0
IsHeard n n' by bearer number bytes box box' answered = (frames : List Outgoing) × Hears n n' by bearer number bytes frames answered × Adds box box' frames

-- so it is where a frame brought the packet that is due
abbrev pub HearsDue : NodeState → NodeState → By → ℕ → Due → Out → Out → Arrival → Type 0
HearsDue n n' by number d box box' answered =
    (bytes : List ℕ) → IsDue n bytes d.bearer d.peer d.first d.second (view d.packet) → IsHeard n n' by d.bearer number bytes box box' answered

-- the discovery packet of an arrival was taken, and what left is in the box
abbrev pub FindsDue : NodeState → NodeState → By → ℕ → Due → Out → Out → Arrival → Type 0
FindsDue n n' by number d box box' answered =
    (bytes : List ℕ) → BringsDiscovery n bytes d.bearer d.peer d.first d.second (view d.packet)
    → (frames : List Outgoing) × Discovers n n' by d.bearer number bytes frames answered × Adds box box' frames
