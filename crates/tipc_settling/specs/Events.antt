-- What each event of a node does while nothing goes down between it and another one.
use Rattle.std.specs.Prelude.{◌≡◌, ◌≤◌, ◌+◌, ℕ, true, All, List, [], Option, None, count_by, filter}
use Rattle.tipc_types.specs.declared.link_words.BroadcastState.{BroadcastState}
use Rattle.tipc_types.specs.declared.node_calls.Answer.TheVariants as answer
use Rattle.tipc_types.specs.declared.node_calls.Arrival.{Arrival}
use Rattle.tipc_types.specs.declared.node_calls.By.{By}
use Rattle.tipc_types.specs.declared.node_calls.EventNote.{EventNote}
use Rattle.tipc_types.specs.declared.node_calls.EventNote.TheVariants.{Arrive, Tick}
use Rattle.tipc_outside.specs.declared.outgoing.Outgoing.{Outgoing}
use Rattle.tipc_header.specs.declared.frames.FrameKind.TheVariants.{Links}
use Rattle.tipc_header.specs.Frames.{is_of_link, kind_in}
use Rattle.tipc_header.specs.Spelling.{Fields}
use Rattle.tipc_journal.specs.Steps.{NodeStep}
use Rattle.tipc_pair.specs.Facing.{facing, is_up_at}
use Rattle.tipc_pair.specs.LinkReadings.{silence_in}
use Rattle.tipc_pair.specs.PairTurns.{PairTurn, Reply}
use Rattle.tipc_pair.specs.PairTurns.Opening.{hears}
use Rattle.tipc_paired.specs.Views.{es_of}
use Rattle.tipc_two_nodes.specs.Sights.{AreSeen, Sight, pair_seen}
use Rattle.tipc_node.specs.Arrivals.{Arrives}
use Rattle.tipc_node.specs.Calls.{CallTurn}
use Rattle.tipc_node.specs.Nodes.{NodeState, is_change, pair_with, stop_of}
use Rattle.tipc_node.specs.Telling.{IsTold}
use Rattle.tipc_node.specs.Turns.{IsFrom, NodeTurn, frames_to, is_change_of}
use Rattle.tipc_settling.specs.Silence.{IsSaidByTicks}
use Rattle.tipc_settling.specs.Stillness.{Footing, IsStill, MayComeTo, ShowsPresent}

-- an event of a node leaves its pair to node b still
abbrev pub EventsStayStill : Type 0
EventsStayStill = (own peer : Footing) (n n' : NodeState) (bytes : List ℕ) (s : NodeStep) (frames : List Outgoing) (b : ℕ) → IsTold n
    → NodeTurn n n' bytes s frames → MayComeTo peer b (pair_with n b) s.event bytes
    → IsStill own peer (pair_with n b) → IsStill own peer (pair_with n' b)

-- a link packet of node b comes on a bearer on which the link was up
abbrev pub ComesToUpAt : Footing → ℕ → EventNote → List ℕ → Type 0
ComesToUpAt own b (Arrive bearer by) bytes = (es er : ℕ) (p : Fields) → IsFrom b bytes es er p → kind_in bytes ≡ Links → own.up bearer ≡ true
ComesToUpAt own b other bytes = Unit {0}

-- where each link packet of node b comes so, nothing is told of the links to node b, and of the contact with it
abbrev pub EventsTellNothing : Type 0
EventsTellNothing = (own peer : Footing) (n n' : NodeState) (bytes : List ℕ) (s : NodeStep) (frames : List Outgoing) (b : ℕ) → IsTold n
    → NodeTurn n n' bytes s frames → MayComeTo peer b (pair_with n b) s.event bytes → ComesToUpAt own b s.event bytes
    → IsStill own peer (pair_with n b) → filter (is_change_of b) s.inside ≡ []

-- So where every pair of a node is still, and link packets come on links alone that were up, nothing is told of any link and any contact.
abbrev pub EventsAreCalm : Type 0
EventsAreCalm = (own peer : ℕ → Footing) (n n' : NodeState) (bytes : List ℕ) (s : NodeStep) (frames : List Outgoing) → IsTold n
    → NodeTurn n n' bytes s frames → ((b : ℕ) → IsStill (own b) (peer b) (pair_with n b))
    → ((b : ℕ) → MayComeTo (peer b) b (pair_with n b) s.event bytes) → ((b : ℕ) → ComesToUpAt (own b) b s.event bytes)
    → count_by is_change n'.journal ≡ count_by is_change n.journal

-- each frame to node b is under the node's present epoch
abbrev pub EventsSendUnderPresent : Type 0
EventsSendUnderPresent = (v w : Sight) (own peer : Footing) (n n' : NodeState) (bytes : List ℕ) (s : NodeStep) (frames : List Outgoing) (b : ℕ)
    → IsTold n → NodeTurn n n' bytes s frames → AreSeen v w → pair_seen v ≡ pair_with n b → MayComeTo peer b (pair_with n b) s.event bytes
    → IsStill own peer (pair_with n b)
    → All (λ (o : Outgoing). is_of_link o.frame ≡ true → es_of o.frame ≡ own.epoch o.bearer) (frames_to b frames)

-- for how many ticks more a link may be silent by an event
abbrev pub silence_of_event : EventNote → ℕ
silence_of_event Tick = 1
silence_of_event other = 0

-- a link to node b is silent for no more
abbrev pub EventsAddSilence : Type 0
EventsAddSilence = (n n' : NodeState) (bytes : List ℕ) (s : NodeStep) (frames : List Outgoing) (b bearer : ℕ) → IsTold n
    → NodeTurn n n' bytes s frames
    → silence_in (facing bearer (pair_with n' b)).near ≤ silence_in (facing bearer (pair_with n b)).near + silence_of_event s.event

-- A STATE or an ACTIVATE of node b that nothing stops comes on a bearer on which the link to b is up, and shows what both nodes have at present: the
-- link isn't silent then.
abbrev pub ArrivalsEndSilence : Type 0
ArrivalsEndSilence = (own peer : Footing) (n n' : NodeState) (by : By) (bearer number : ℕ) (bytes : List ℕ) (frames : List Outgoing)
    (answered : Arrival) (b es er : ℕ) (p : Fields) → Arrives n n' by bearer number bytes frames answered
    → CallTurn n n' by (Arrive bearer number) bytes (answer.Arrived answered) frames → stop_of n bearer bytes ≡ None → IsFrom b bytes es er p
    → kind_in bytes ≡ Links → IsStill own peer (pair_with n b) → ShowsPresent peer bearer es p → er ≡ own.epoch bearer → IsSaidByTicks p.header
    → is_up_at (facing bearer (pair_with n b)).near ≡ true → silence_in (facing bearer (pair_with n' b)).near ≡ 0

-- ---- a frame that arrives, be it stopped or not

-- an arrival leaves the pair to node b still: nothing is asked of a frame that is stopped
abbrev pub ArrivalsStayStill : Type 0
ArrivalsStayStill = (own peer : Footing) (n n' : NodeState) (by : By) (bearer number : ℕ) (bytes : List ℕ) (frames : List Outgoing)
    (answered : Arrival) (b : ℕ) → Arrives n n' by bearer number bytes frames answered
    → CallTurn n n' by (Arrive bearer number) bytes (answer.Arrived answered) frames
    → (stop_of n bearer bytes ≡ None → MayComeTo peer b (pair_with n b) (Arrive bearer number) bytes)
    → IsStill own peer (pair_with n b) → IsStill own peer (pair_with n' b)

-- and where each pair is still, and link packets that aren't stopped come on links that were up, it tells of no link and no contact
abbrev pub ArrivalsAreCalm : Type 0
ArrivalsAreCalm = (own peer : ℕ → Footing) (n n' : NodeState) (by : By) (bearer number : ℕ) (bytes : List ℕ) (frames : List Outgoing)
    (answered : Arrival) → Arrives n n' by bearer number bytes frames answered
    → CallTurn n n' by (Arrive bearer number) bytes (answer.Arrived answered) frames → ((b : ℕ) → IsStill (own b) (peer b) (pair_with n b))
    → (stop_of n bearer bytes ≡ None → (b : ℕ) → MayComeTo (peer b) b (pair_with n b) (Arrive bearer number) bytes)
    → (stop_of n bearer bytes ≡ None → (b : ℕ) → ComesToUpAt (own b) b (Arrive bearer number) bytes)
    → count_by is_change n'.journal ≡ count_by is_change n.journal

-- and what leaves is under the present epoch
abbrev pub ArrivalsSendUnderPresent : Type 0
ArrivalsSendUnderPresent = (v w : Sight) (own peer : Footing) (n n' : NodeState) (by : By) (bearer number : ℕ) (bytes : List ℕ)
    (frames : List Outgoing) (answered : Arrival) (b : ℕ) → Arrives n n' by bearer number bytes frames answered
    → CallTurn n n' by (Arrive bearer number) bytes (answer.Arrived answered) frames → AreSeen v w → pair_seen v ≡ pair_with n b
    → (stop_of n bearer bytes ≡ None → MayComeTo peer b (pair_with n b) (Arrive bearer number) bytes) → IsStill own peer (pair_with n b)
    → All (λ (o : Outgoing). is_of_link o.frame ≡ true → es_of o.frame ≡ own.epoch o.bearer) (frames_to b frames)

-- the turn of the pair to node b in which it heard this packet, by the arrival of that number
pub record TurnHears (n n' : NodeState) (b bearer es er : ℕ) (p : Fields) (number : ℕ) : Type 0 where
  pub one : bearer ≤ 1
  pub shown : BroadcastState
  pub messages : List (List ℕ)
  pub reply : Option Reply
  pub frames : List Outgoing
  pub turn : PairTurn (pair_with n b) (hears bearer es er p number shown) messages reply (pair_with n' b) frames

-- The arrival of a link packet of node b that isn't stopped is such a turn, whatever the pair makes of it.
abbrev pub ArrivalsHear : Type 0
ArrivalsHear = (n n' : NodeState) (by : By) (bearer number : ℕ) (bytes : List ℕ) (frames : List Outgoing) (answered : Arrival) (b es er : ℕ)
    (p : Fields) → Arrives n n' by bearer number bytes frames answered → stop_of n bearer bytes ≡ None → IsFrom b bytes es er p
    → kind_in bytes ≡ Links → TurnHears n n' b bearer es er p number
