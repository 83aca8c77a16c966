-- What an arrival makes of a node, exactly.
use Rattle.std.specs.Prelude.{◌≡◌, ◌≤◌, ◌<◌, ◌^◌, ℕ, Bool, true, false, List, [], ◌++◌, Option, None, Some, is_some, length, slice_index_or, slice_set}
use Rattle.tipc_types.specs.declared.message_forms.Flow.TheVariants.{Zero}
use Rattle.tipc_types.specs.Address.{node_word}
use Rattle.tipc_types.specs.declared.link_words.BroadcastState.{BroadcastState}
use Rattle.tipc_types.specs.declared.link_words.Why.{Why}
use Rattle.tipc_types.specs.declared.message_forms.Message.{Message}
use Rattle.tipc_types.specs.declared.node_calls.Answer.TheVariants as answer
use Rattle.tipc_types.specs.declared.node_calls.Arrival.{Arrival}
use Rattle.tipc_types.specs.declared.node_calls.Arrival.TheVariants as arrival
use Rattle.tipc_types.specs.declared.node_calls.By.{By}
use Rattle.tipc_types.specs.declared.node_calls.EventNote.TheVariants.{Arrive}
use Rattle.tipc_types.specs.declared.services.Publication.{Publication}
use Rattle.tipc_outside.specs.declared.outgoing.Outgoing.{Outgoing}
use Rattle.tipc_outside.specs.Frames.{Adds, Out}
use Rattle.tipc_header.specs.declared.frames.FrameKind.TheVariants.{Casts, Finds, Links}
use Rattle.tipc_header.specs.Frames.{frame_of, kind_in}
use Rattle.tipc_header.specs.Grammar.{Fits}
use Rattle.tipc_header.specs.Spelling.{Fields, spelling}
use Rattle.tipc_discovery.specs.Hearing.{is_of_network}
use Rattle.tipc_name_dist.specs.Items.{IsBulk}
use Rattle.tipc_pair.specs.declared.transitions.Transition.{Transition}
use Rattle.tipc_broadcast.specs.Casting.{Casting, shown}
use Rattle.tipc_broadcast.specs.Contacts.{contact_with}
use Rattle.tipc_broadcast.specs.Deeds.{CastDeed, after_deeds, deeds_frames}
use Rattle.tipc_pair.specs.Courses.{Course, sent_in}
use Rattle.tipc_pair.specs.PairTurns.{Outset}
use Rattle.tipc_node.specs.declared.neighbours.Neighbour.{Neighbour}
use Rattle.tipc_node.specs.Calls.{CallTurn}
use Rattle.tipc_node.specs.CastArrivals.{HearsCast}
use Rattle.tipc_node.specs.Casting.{arrival_deeds, asks_of, stated_in}
use Rattle.tipc_node.specs.Discovery.{discovered_frames, discovered_node, responses}
use Rattle.tipc_node.specs.Neighbours.{HearsAt, answered_neighbour, answering, heard_neighbour}
use Rattle.tipc_pair.specs.Contacts.{begins}
use Rattle.tipc_node.specs.Nodes.{NodeState, arrival_answer, arrival_deliveries, change_entries, end_with, is_other, neighbour_of, recorded, stop_of, stopped_node}
use Rattle.tipc_node.specs.Turns.{IsFrom}
use Rattle.tipc_node.specs.Works.{DeliversAll, PutsEach, Work, begun, concluded, noted}

-- a frame brings a link packet, under an envelope of two numbers, that is due at the link of a bearer to its sender, the peer of that number
pub record IsDue (n : NodeState) (bytes : List ℕ) (bearer peer first second : ℕ) (p : Fields) : Type 0 where
  pub range : (1 ≤ peer) × (peer ≤ 32)
  pub on_one : bearer ≤ 1
  pub first_fits : first < 2 ^ 64
  pub second_fits : second < 2 ^ 64
  pub fits : Fits p
  pub opened : bytes ≡ frame_of first second (spelling p)
  pub previous : p.previous ≡ node_word peer
  pub kind : kind_in bytes ≡ Links
  pub there : is_some (end_with bearer (neighbour_of n peer)) ≡ true

-- the work on an arrival before anything is delivered: the pair heard the packet, and what became of the links and the contact is noted
abbrev pub heard_work : NodeState → ℕ → Neighbour → Outset → Work
heard_work n peer x o =
    noted (record (begun n) { neighbours = slice_set n.neighbours peer (Some (heard_neighbour x o)) })
    (change_entries peer o.course.changes)

-- what it makes of the broadcast link, and that link then
abbrev pub heard_deeds : ℕ → Fields → Outset → List CastDeed
heard_deeds peer p o = arrival_deeds peer o.course.changes (stated_in p.header o.given)

abbrev pub heard_casting : NodeState → ℕ → Fields → Outset → Casting
heard_casting n peer p o = after_deeds (heard_deeds peer p o) n.casting

-- the messages with which a contact begins tell the peer of the live publications; where no contact begins there are none
abbrev pub GreetsWhere : Bool → List Publication → List Message → Type 0
GreetsWhere true live ms = IsBulk live ms
GreetsWhere false live ms = ms ≡ []

-- the messages that tell a peer of the live publications, where a contact with it began by one of these changes
abbrev pub Greets : List Publication → List Transition → List Message → Type 0
Greets live changes ms = GreetsWhere (begins changes) live ms

-- what is asked for by the broadcast, and what is shown of it, where a packet told this of it
abbrev pub asks_peer : ℕ → Option BroadcastState → Casting → Bool
asks_peer peer stated v = asks_of stated (contact_with (node_word peer) v.contacts)

-- the STATE that is due to the neighbour of that number on a bearer, with this broadcast link
abbrev pub last_course : ℕ → ℕ → Option BroadcastState → Casting → Neighbour → Course
last_course peer bearer stated v y = answering bearer (asks_peer peer stated v) (shown v (node_word peer)) y

-- that neighbour when it has left
abbrev pub last_neighbour : ℕ → ℕ → Option BroadcastState → Casting → Neighbour → Neighbour
last_neighbour peer bearer stated v y = answered_neighbour bearer (asks_peer peer stated v) (shown v (node_word peer)) y

-- the neighbour of that number sends the STATE that is due on a bearer
abbrev pub with_answer : Work → ℕ → ℕ → Bool → BroadcastState → Neighbour → Work
with_answer w peer bearer asks shown y = record w { neighbours = slice_set w.neighbours peer (Some (answered_neighbour bearer asks shown y)) }

abbrev pub answered_work : Work → ℕ → ℕ → Option BroadcastState → Casting → Neighbour → Work
answered_work w peer bearer stated v y = with_answer w peer bearer (asks_peer peer stated v) (shown v (node_word peer)) y

-- The frame of that number brought a packet of a peer on a bearer. Where a contact began by it, the peer was told of the live
-- publications. The broadcast link was told of the contact, and of a STATE that was taken. What the links made of the packet was opened, and
-- delivered one after the other, returns went back, and the STATE that was due on the bearer left last. (A contact that ends has no greeting, and
-- a STATE gives nothing to return: so packets that are numbered leave before those of the broadcast link.)
pub record Hears (n n' : NodeState) (by : By) (bearer number : ℕ) (bytes : List ℕ) (frames : List Outgoing) (answered : Arrival) : Type 0 where
  pub peer : ℕ
  pub first : ℕ
  pub second : ℕ
  pub packet : Fields
  pub due : IsDue n bytes bearer peer first second packet
  pub neighbour : Neighbour
  pub was : neighbour_of n peer ≡ Some neighbour
  pub out : Outset
  pub hears : HearsAt neighbour bearer first second packet number (shown n.casting (node_word peer)) out
  pub greeting : List Message
  pub greets : Greets n.sockets.live out.course.changes greeting
  pub greeted : Work
  pub greeting_frames : List Outgoing
  pub greeting_put : PutsEach n.own peer (heard_work n peer neighbour out) greeting greeted greeting_frames
  pub work : Work
  pub returned : List Outgoing
  pub delivers : DeliversAll n.own peer greeted (arrival_deliveries Zero peer neighbour.pair out.given) work returned
  pub then : Neighbour
  pub then_is : slice_index_or work.neighbours peer None ≡ Some then
  pub after : n' ≡ concluded (record n { casting = heard_casting n peer packet out }) by (Arrive bearer number)
      (answered_work work peer bearer (stated_in packet.header out.given) (heard_casting n peer packet out) then) (answer.Arrived answered)
  pub frames_are : frames ≡ sent_in out.course ++ (greeting_frames ++ (deeds_frames (heard_deeds peer packet out) n.casting
      ++ (returned ++ (last_course peer bearer (stated_in packet.header out.given) (heard_casting n peer packet out) then).states)))
  pub answer_is : answered ≡ arrival_answer out.given (arrival_deliveries Zero peer neighbour.pair out.given)

-- ---- discovery

-- a frame brings a discovery packet of the network on a bearer, under an envelope of two numbers, from another node, that of this number
pub record BringsDiscovery (n : NodeState) (bytes : List ℕ) (bearer peer first second : ℕ) (p : Fields) : Type 0 where
  pub range : (1 ≤ peer) × (peer ≤ 32)
  pub on_one : bearer ≤ 1
  pub from : IsFrom peer bytes first second p
  pub kind : kind_in bytes ≡ Finds
  pub other : is_other n.own (node_word peer) ≡ true
  pub network : is_of_network p.header ≡ true

-- The frame of that number brought a discovery packet of a peer on a bearer. A request was answered. Where the peer is new on the bearer the
-- link end was made, whose RESET left behind the response. No message was taken.
pub record Discovers (n n' : NodeState) (by : By) (bearer number : ℕ) (bytes : List ℕ) (frames : List Outgoing) (answered : Arrival) : Type 0 where
  pub peer : ℕ
  pub first : ℕ
  pub second : ℕ
  pub packet : Fields
  pub brings : BringsDiscovery n bytes bearer peer first second packet
  -- there is a place for each number
  pub within : peer < length n.neighbours
  pub after : n' ≡ recorded (discovered_node n peer bearer) by (Arrive bearer number) [] (answer.Arrived (arrival.Took 0))
  pub frames_are : frames ≡ responses n peer bearer packet.header ++ discovered_frames n peer bearer
  pub answer_is : answered ≡ arrival.Took 0

-- ---- any frame

-- a frame arrived on a bearer: it was stopped, or it brought a link packet, or a discovery packet, or a broadcast packet
pub record Arrives (n n' : NodeState) (by : By) (bearer number : ℕ) (bytes : List ℕ) (frames : List Outgoing) (answered : Arrival) : Type 0 where
  pub stopped : (reason : Why) → stop_of n bearer bytes ≡ Some reason
      → (n' ≡ stopped_node n by bearer number reason) × (frames ≡ []) × (answered ≡ arrival.Ignored reason)
  pub heard : stop_of n bearer bytes ≡ None → kind_in bytes ≡ Links → Hears n n' by bearer number bytes frames answered
  pub discovered : stop_of n bearer bytes ≡ None → kind_in bytes ≡ Finds → Discovers n n' by bearer number bytes frames answered
  pub cast : stop_of n bearer bytes ≡ None → kind_in bytes ≡ Casts → HearsCast n n' by bearer number bytes frames answered

-- it arrived, and what left is in the box
pub record Arrived (n : NodeState) (by : By) (bearer number : ℕ) (bytes : List ℕ) (n' : NodeState) (box box' : Out) (answered : Arrival) : Type 0 where
  pub frames : List Outgoing
  pub arrives : Arrives n n' by bearer number bytes frames answered
  pub turn : CallTurn n n' by (Arrive bearer number) bytes (answer.Arrived answered) frames
  pub adds : Adds box box' frames
