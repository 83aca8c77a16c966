-- How the frames of ticks bring what was lost, at the link ends of nodes.
use Rattle.std.specs.Prelude.{◌≡◌, ℕ, Bool, true, List, [], Option, None, Some, Contains}
use Rattle.tipc_types.specs.Address.{node_word}
use Rattle.tipc_types.specs.declared.link_words.BroadcastState.{BroadcastState}
use Rattle.tipc_types.specs.declared.node_calls.Answer.TheVariants.{Arrived}
use Rattle.tipc_types.specs.declared.node_calls.Arrival.{Arrival}
use Rattle.tipc_types.specs.declared.node_calls.By.{By}
use Rattle.tipc_types.specs.declared.node_calls.EventNote.TheVariants.{Arrive}
use Rattle.tipc_header.specs.declared.frames.FrameKind.TheVariants.{Links}
use Rattle.tipc_header.specs.Frames.{kind_in}
use Rattle.tipc_outside.specs.declared.outgoing.Outgoing.{Outgoing}
use Rattle.tipc_broadcast.specs.Casting.{shown}
use Rattle.tipc_link_fsm.specs.Table.{is_session}
use Rattle.tipc_link.specs.Links.{LinkEnd, is_traffic}
use Rattle.tipc_header.specs.Spelling.{Fields}
use Rattle.tipc_repair.specs.Laws.{GoesOn}
use Rattle.tipc_link.specs.Sessions.{SessionEnd, after_state, again_frames, content_of, heard, state_frame}
use Rattle.tipc_pair.specs.declared.changes.PairOutcome.{PairOutcome}
use Rattle.tipc_pair.specs.Courses.{Course}
use Rattle.tipc_pair.specs.Facing.{PairEnds, facing}
use Rattle.tipc_pair.specs.PairArrivals.{Arrives as PairArrives, hears}
use Rattle.tipc_node.specs.Arrivals.{Arrives}
use Rattle.tipc_node.specs.Calls.{CallTurn}
use Rattle.tipc_node.specs.Nodes.{NodeState, end_with, neighbour_of, pair_with, stop_of}
use Rattle.tipc_node.specs.Turns.{IsFrom}
use Rattle.tipc_settling.specs.Loads.{IsCalm}
use Rattle.tipc_settling.specs.Goings.{HaveRecords, OpensKnown, StaysOn, up_session}

-- an end that is up sends the STATE of its session as it stood, which shows this of the broadcast link, and it has sent it then
abbrev pub EndTells : BroadcastState → List Outgoing → Option LinkEnd → Option LinkEnd → Type 0
EndTells shown frames before now = (s : SessionEnd) → up_session before ≡ Some s
    → (probe : Bool) × Contains frames (state_frame s shown probe) × (up_session now ≡ Some (after_state s))

-- the session of a node's link end to a peer on a bearer, where it is up
abbrev pub session_with : NodeState → ℕ → ℕ → Option SessionEnd
session_with n peer bearer = up_session (end_with bearer (neighbour_of n peer))

-- a node told a peer the STATE of its session on a bearer, as it stood
abbrev pub SaysStateTo : NodeState → NodeState → List Outgoing → ℕ → ℕ → Type 0
SaysStateTo n n' frames peer bearer = EndTells (shown n.casting (node_word peer)) frames (end_with bearer (neighbour_of n peer)) (end_with bearer (neighbour_of n' peer))

-- By this course an end that was up in a session has heard a packet of it: it is up in that session, which went on from there; and what the packet asks
-- for was sent again.
pub record EndHears (by : ℕ) (p : Fields) (c : Course) (before now : Option LinkEnd) (r : SessionEnd) : Type 0 where
  pub then : SessionEnd
  pub then_is : up_session now ≡ Some then
  pub stays : StaysOn r then
  pub hears : GoesOn (heard r by p.acknowledgement (content_of p)) then
  pub again : (o : Outgoing) → Contains (again_frames r p.acknowledgement (content_of p)) o → Contains c.states o

-- so it is with each packet of a session that arrives on the near link of a pair, where the end is up in that session
abbrev pub SessionsHear : Type 0
SessionsHear = (known : ℕ → ℕ) (x : PairEnds) (e : LinkEnd) (r : SessionEnd) (es er : ℕ) (p : Fields) (by : ℕ) (shown : BroadcastState) (c : Course) (given : PairOutcome)
    → HaveRecords known x → x.near ≡ Some e → up_session x.near ≡ Some r → is_session e.fsm es er ≡ true → is_traffic p.header ≡ true
    → OpensKnown known (hears p.header es er p by shown x).course.pair (hears p.header es er p by shown x).outcome
    → PairArrives x es er p by shown c given → c.changes ≡ [] → EndHears by p c x.near c.pair.near r

-- A node heard a packet of a peer's session on a bearer: it is up in that session, which went on from what that makes of it; and what the packet asks for
-- was sent again.
pub record NodeHears (n' : NodeState) (frames : List Outgoing) (peer bearer by : ℕ) (p : Fields) (r : SessionEnd) : Type 0 where
  pub then : SessionEnd
  pub then_is : session_with n' peer bearer ≡ Some then
  pub stays : StaysOn r then
  pub hears : GoesOn (heard r by p.acknowledgement (content_of p)) then
  pub again : (o : Outgoing) → Contains (again_frames r p.acknowledgement (content_of p)) o → Contains frames o

-- So it is in each calm arrival of a packet of a peer under the epochs of a session in which the node's end is up.
abbrev pub NodesHear : Type 0
NodesHear = (known : ℕ → ℕ) (n n' : NodeState) (by : By) (bearer number : ℕ) (bytes : List ℕ) (frames : List Outgoing) (answered : Arrival)
    (peer es er : ℕ) (p : Fields) (e : LinkEnd) (r : SessionEnd) → Arrives n n' by bearer number bytes frames answered
    → CallTurn n n' by (Arrive bearer number) bytes (Arrived answered) frames → IsCalm n n' → stop_of n bearer bytes ≡ None
    → IsFrom peer bytes es er p → kind_in bytes ≡ Links → end_with bearer (neighbour_of n peer) ≡ Some e → up_session (Some e) ≡ Some r
    → is_session e.fsm es er ≡ true → is_traffic p.header ≡ true → HaveRecords known (pair_with n peer)
    → OpensKnown known (hears p.header es er p number (shown n.casting (node_word peer)) (facing bearer (pair_with n peer))).course.pair
    (hears p.header es er p number (shown n.casting (node_word peer)) (facing bearer (pair_with n peer))).outcome
    → NodeHears n' frames peer bearer number p r
