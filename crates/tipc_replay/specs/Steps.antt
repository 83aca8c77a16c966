-- What one event makes of nodes and the air between them, exactly.
use Rattle.std.specs.Prelude.{◌≡◌, ℕ, Bool, false, ◌||◌, List, [], Option, Some, None, slice_index_or, slice_set}
use Rattle.tipc_types.specs.declared.node_calls.Answer.{Answer}
use Rattle.tipc_types.specs.declared.node_calls.By.{By}
use Rattle.tipc_outside.specs.declared.outgoing.Outgoing.{Outgoing}
use Rattle.tipc_replay.specs.declared.air.Sent.{Sent}
use Rattle.tipc_replay.specs.declared.events.WorldEvent.{WorldEvent}
use Rattle.tipc_replay.specs.declared.events.WorldEvent.TheVariants.{Arrive}
use Rattle.tipc_replay.specs.Air.{Leaves}
use Rattle.tipc_replay.specs.Calls.{node_of}
use Rattle.tipc_replay.specs.Effects.{HasEffect}
use Rattle.tipc_replay.specs.Events.{JoinsAt}
use Rattle.tipc_replay.specs.Due.{frame_for, unarrived}
use Rattle.tipc_replay.specs.Skies.{AirState}
use Rattle.tipc_replay.specs.States.{MemberState, ReplayState, contact_at}

-- the nodes and the air, which events change
pub record Stage : Type 0 where
  pub members : List (Option MemberState)
  pub air : AirState

-- these nodes and this air
abbrev pub stage : List (Option MemberState) → AirState → Stage
stage members air = record { members = members; air = air }

-- node a went from one state to the next, and these frames left it
pub record Turns (old new : Stage) (a : ℕ) (before after : MemberState) (frames : List Outgoing) (lost : Bool) : Type 0 where
  pub was : slice_index_or old.members a None ≡ Some before
  pub members : new.members ≡ slice_set old.members a (Some after)
  pub leaves : Leaves old.air new.air (contact_at old.members a) new.members a frames lost

-- an event happened at its node
pub record Happens (old new : Stage) (by : By) (event : WorldEvent) (bytes : List ℕ) (answered : Answer) (lost : Bool) : Type 0 where
  pub before : MemberState
  pub after : MemberState
  pub frames : List Outgoing
  pub does : HasEffect by event bytes before after frames answered
  pub turns : Turns old new (node_of event) before after frames lost

-- the frame of that place in a bearer's air arrives at a node, or there is none that does
pub record IsArrival (old new : Stage) (by : By) (node bearer place : ℕ) (answered : Answer) (lost : Bool) : Type 0 where
  pub none : (why : Answer) → unarrived old.members old.air node bearer place ≡ Some why
      → (answered ≡ why) × (new ≡ old) × (lost ≡ false)
  pub arrives : unarrived old.members old.air node bearer place ≡ None →
      (f : Sent) × (frame_for old.air node bearer place ≡ Some f)
      × Happens old new by (Arrive node bearer place) f.frame answered lost

-- what an event makes of the nodes and the air, what it answers, and whether a frame was lost for want of memory
abbrev pub Becomes : Stage → By → WorldEvent → Stage → Answer → Bool → Type 0
Becomes old by (Arrive node bearer place) new answered lost = IsArrival old new by node bearer place answered lost
Becomes old by event new answered lost = Happens old new by event [] answered lost

-- one step of a replay: an event as the call of that caller and stamp, and what it answered
pub record IsReplayStep (old : ReplayState) (by : By) (event : WorldEvent) (new : ReplayState) (answered : Answer) : Type 0 where
  pub lost : Bool
  pub becomes : Becomes (stage old.members old.air) by event (stage new.members new.air) answered lost
  pub lost_is : new.lost ≡ (old.lost || lost)

-- a node without links and history came in under the number n, in this boot, and every other is as it was
pub record IsReplayJoined (old new : ReplayState) (n boot : ℕ) : Type 0 where
  pub joins : JoinsAt old.members new.members n boot
  pub air : new.air ≡ old.air
  pub lost : new.lost ≡ old.lost
