-- What a broadcast packet that arrives makes of a node, exactly.
use Rattle.std.specs.Prelude.{◌≡◌, ◌≤◌, ◌<◌, ◌==◌, ◌%◌, ◌^◌, ℕ, Bool, true, false, List, [], ◌∷◌, ◌++◌, Option, None, Some, is_some, length, slice_index_or, slice_set}
use Rattle.tipc_types.specs.Address.{node_word}
use Rattle.tipc_types.specs.declared.message_forms.Flow.TheVariants.{Broadcast}
use Rattle.tipc_types.specs.declared.node_calls.Answer.TheVariants as answer
use Rattle.tipc_types.specs.declared.node_calls.Arrival.{Arrival}
use Rattle.tipc_types.specs.declared.node_calls.By.{By}
use Rattle.tipc_types.specs.declared.node_calls.EventNote.TheVariants.{Arrive}
use Rattle.tipc_outside.specs.declared.outgoing.Outgoing.{Outgoing}
use Rattle.tipc_header.specs.declared.frames.FrameKind.TheVariants.{Casts}
use Rattle.tipc_header.specs.Frames.{kind_in}
use Rattle.tipc_header.specs.Spelling.{Fields}
use Rattle.tipc_broadcast.specs.declared.contacts.Contact.{Contact}
use Rattle.tipc_broadcast.specs.Casting.{Casting, arriving_outcome, shown}
use Rattle.tipc_broadcast.specs.Contacts.{contact_with, deferred_of}
use Rattle.tipc_broadcast.specs.Deeds.{CastDeed, after_deeds, hears}
use Rattle.tipc_fragments.specs.Joining.{Joining}
use Rattle.tipc_pair.specs.declared.changes.PairOutcome.{PairOutcome}
use Rattle.tipc_pair.specs.Courses.{Course, rests}
use Rattle.tipc_pair.specs.Messages.{OpensTo}
use Rattle.tipc_pair.specs.PairCalls.{answered_near, at_bearer}
use Rattle.tipc_recv_window.specs.declared.outcomes.LinkOutcome.{LinkOutcome}
use Rattle.tipc_recv_window.specs.declared.outcomes.LinkOutcome.TheVariants as outcome
use Rattle.tipc_node.specs.declared.neighbours.Neighbour.{Neighbour}
use Rattle.tipc_node.specs.Neighbours.{with_casts, with_pair}
use Rattle.tipc_node.specs.Nodes.{NodeState, arrival_answer, arrival_deliveries, is_other, neighbour_of}
use Rattle.tipc_node.specs.Turns.{IsFrom}
use Rattle.tipc_node.specs.Works.{DeliversAll, Work, begun, concluded}

-- a frame brings a broadcast packet of a peer to which there is a link end, under an envelope of the peer's boot and of the set of the members that
-- it is for
pub record BringsCast (n : NodeState) (bytes : List ℕ) (bearer peer first second : ℕ) (p : Fields) : Type 0 where
  pub range : (1 ≤ peer) × (peer ≤ 32)
  pub on_one : bearer ≤ 1
  pub from : IsFrom peer bytes first second p
  pub kind : kind_in bytes ≡ Casts
  -- a boot number
  pub boot : first < 2 ^ 32
  pub there : is_some (neighbour_of n peer) ≡ true
  pub other : is_other n.own (node_word peer) ≡ true

-- the members of an envelope: those above 32 are looked at by nobody
abbrev pub members_in : ℕ → ℕ
members_in second = second % 2 ^ 32

-- ---- the STATE that is due

-- how many packets were taken
abbrev pub taken_packets : LinkOutcome → ℕ
taken_packets (outcome.Took taken) = length taken
taken_packets other = 0

-- whether a STATE is asked for: the packet is the only one that waits
abbrev pub asks_by : LinkOutcome → Option Contact → Bool
asks_by outcome.Deferred c = deferred_of c == 1
asks_by other c = false

-- the STATE that is due on a bearer to the neighbour with this address word leaves, where the packet isn't ignored; the broadcast link is this one by
-- then
abbrev pub cast_answering : LinkOutcome → ℕ → ℕ → Casting → Neighbour → Course
cast_answering (outcome.Ignored reason) bearer word v x = rests x.pair
cast_answering o bearer word v x = at_bearer bearer x.pair (answered_near (taken_packets o) (asks_by o (contact_with word v.contacts)) (shown v word))

-- the work when it has left
abbrev pub cast_answered : LinkOutcome → ℕ → ℕ → Casting → Work → Neighbour → Work
cast_answered o bearer peer v w x =
    record w { neighbours = slice_set w.neighbours peer (Some (with_pair x (cast_answering o bearer (node_word peer) v x).pair)) }

-- ---- the arrival

-- what is done at the broadcast link: it hears the packet
abbrev pub cast_deeds : ℕ → ℕ → Fields → ℕ → List CastDeed
cast_deeds first second p number = hears first (members_in second) number p ∷ []

-- the work before anything is delivered: this is begun of the peer's broadcast
abbrev pub cast_work : NodeState → ℕ → Neighbour → Joining → Work
cast_work n peer x joining = record (begun n) { neighbours = slice_set n.neighbours peer (Some (with_casts x joining)) }

-- The frame of that number brought a broadcast packet of a peer on a bearer. What the broadcast link made of it was opened behind what was begun of
-- the peer's broadcast, and delivered one after the other, returns went back, and the STATE that was due on the bearer left last.
pub record HearsCast (n n' : NodeState) (by : By) (bearer number : ℕ) (bytes : List ℕ) (frames : List Outgoing) (answered : Arrival) : Type 0 where
  pub peer : ℕ
  pub first : ℕ
  pub second : ℕ
  pub packet : Fields
  pub brings : BringsCast n bytes bearer peer first second packet
  pub neighbour : Neighbour
  pub was : neighbour_of n peer ≡ Some neighbour
  pub outcome : LinkOutcome
  pub outcome_is : outcome ≡ arriving_outcome n.casting first (members_in second) packet number
  pub given : PairOutcome
  pub joining : Joining
  pub opens : OpensTo neighbour.casts outcome given joining
  pub work : Work
  pub returned : List Outgoing
  pub delivers : DeliversAll n.own peer (cast_work n peer neighbour joining) (arrival_deliveries Broadcast peer neighbour.pair given) work returned
  pub then : Neighbour
  pub then_is : slice_index_or work.neighbours peer None ≡ Some then
  pub casting : Casting
  pub casting_is : casting ≡ after_deeds (cast_deeds first second packet number) n.casting
  pub after : n' ≡ record (concluded n by (Arrive bearer number) (cast_answered outcome bearer peer casting work then) (answer.Arrived answered)) { casting = casting }
  pub frames_are : frames ≡ returned ++ (cast_answering outcome bearer (node_word peer) casting then).states
  pub answer_is : answered ≡ arrival_answer given (arrival_deliveries Broadcast peer neighbour.pair given)
