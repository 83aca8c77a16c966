-- What an event makes of the node at which it happens: the node after it, the frames that leave, and the answer.
use Rattle.std.specs.Prelude.{◌≡◌, ℕ, List, [], length}
use Rattle.tipc_types.specs.declared.node_calls.Answer.{Answer}
use Rattle.tipc_types.specs.declared.node_calls.Answer.TheVariants as answer
use Rattle.tipc_types.specs.declared.node_calls.Arrival.{Arrival}
use Rattle.tipc_types.specs.declared.node_calls.By.{By}
use Rattle.tipc_types.specs.declared.node_calls.EventNote.{EventNote}
use Rattle.tipc_types.specs.declared.node_calls.EventNote.TheVariants as note
use Rattle.tipc_outside.specs.declared.outgoing.Outgoing.{Outgoing}
use Rattle.tipc_outside.specs.Frames.{Adds, Out}
use Rattle.tipc_node.specs.Arrivals.{Arrives}
use Rattle.tipc_node.specs.Calls.{CallTurn, Performs}
use Rattle.tipc_node.specs.Numbers.{IsBounded}
use Rattle.tipc_node.specs.Sockets.{kept_answer}
use Rattle.tipc_replay.specs.declared.events.WorldEvent.{WorldEvent}
use Rattle.tipc_replay.specs.declared.events.WorldEvent.TheVariants.{Restart, Call, Arrive}
use Rattle.tipc_replay.specs.Members.{arrived_member, called, sender_of, IsRestarted}
use Rattle.tipc_replay.specs.States.{MemberState}

-- the node performs a call, which is recorded, and stays within its limits
pub record Makes (by : By) (call : EventNote) (m m' : MemberState) (frames : List Outgoing) (answered : Answer)
    : Type 0 where
  pub performs : Performs m.node by call m'.node frames answered
  pub turn : CallTurn m.node m'.node by call [] (kept_answer answered) frames
  pub bounded : IsBounded m'.node
  pub after : m' ≡ called m m'.node

-- these bytes arrive at the node, those of the frame of that place in a bearer's air
pub record Meets (by : By) (bearer place : ℕ) (bytes : List ℕ) (m m' : MemberState) (frames : List Outgoing)
    (answered : Answer) : Type 0 where
  pub arrived : Arrival
  pub arrives : Arrives m.node m'.node by bearer (length m.arrivals) bytes frames arrived
  pub turn : CallTurn m.node m'.node by (note.Arrive bearer (length m.arrivals)) bytes
      (answer.Arrived arrived) frames
  pub bounded : IsBounded m'.node
  pub answer_is : answered ≡ answer.Arrived arrived
  pub after : m' ≡ arrived_member m m'.node (sender_of bytes) bearer place

-- An event happens at a node, as the call of that caller, call number and stamp where it is one that is recorded; of an arrival, these are
-- the bytes of the frame.
abbrev pub HasEffect : By → WorldEvent → List ℕ → MemberState → MemberState → List Outgoing → Answer → Type 0
HasEffect by (Restart node) bytes m m' frames answered = IsRestarted m m' × (frames ≡ []) × (answered ≡ answer.Done)
HasEffect by (Call node call) bytes m m' frames answered = Makes by call m m' frames answered
HasEffect by (Arrive node bearer place) bytes m m' frames answered = Meets by bearer place bytes m m' frames answered

-- an event happened at a node, whose frames are in the box
pub record Did (by : By) (event : WorldEvent) (bytes : List ℕ) (m m' : MemberState) (box box' : Out)
    (answered : Answer) : Type 0 where
  pub frames : List Outgoing
  pub does : HasEffect by event bytes m m' frames answered
  pub adds : Adds box box' frames
