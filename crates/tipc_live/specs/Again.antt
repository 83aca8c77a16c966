-- What becomes of a call that a replay is to make again.
use Rattle.std.specs.Prelude.{◌≡◌, ◌<◌, ◌≤◌, ℕ, false, List, Some, None, length, slice_get}
use Rattle.tipc_types.specs.declared.node_calls.Answer.{Answer}
use Rattle.tipc_types.specs.declared.node_calls.Answer.TheVariants as answer
use Rattle.tipc_types.specs.declared.node_calls.By.{By}
use Rattle.tipc_types.specs.declared.node_calls.EventNote.{EventNote}
use Rattle.tipc_types.specs.declared.node_calls.EventNote.TheVariants as note
use Rattle.tipc_types.specs.Limits.{most_age}
use Rattle.tipc_pick.specs.Choosing.{Choosing}
use Rattle.tipc_node.specs.Calls.{CanPerform}
use Rattle.tipc_replay.specs.declared.air.Sent.{Sent}
use Rattle.tipc_replay.specs.declared.events.WorldEvent.{WorldEvent}
use Rattle.tipc_replay.specs.declared.events.WorldEvent.TheVariants.{Arrive, Call}
use Rattle.tipc_replay.specs.Calls.{has_room_at}
use Rattle.tipc_replay.specs.Choices.{ChoosesAt}
use Rattle.tipc_replay.specs.Due.{age_of, frame_for, unarrived}
use Rattle.tipc_replay.specs.Skies.{AirState}
use Rattle.tipc_replay.specs.States.{ReplayState}
use Rattle.tipc_replay.specs.Steps.{IsReplayStep}
use Rattle.tipc_live.specs.declared.again.Again.{Again}
use Rattle.tipc_live.specs.declared.again.Again.TheVariants.{Full, Made, NoFrame, TooOld}

-- ---- frames in the air

-- the frame at that place in the air of a bearer is for a node and has these bytes
pub record HasFrame (air : AirState) (n bearer : ℕ) (bytes : List ℕ) (place : ℕ) : Type 0 where
  pub frame : Sent
  pub sent : frame_for air n bearer place ≡ Some frame
  pub bytes_are : frame.frame ≡ bytes

-- the frame at that place is the latest one that is for a node and has these bytes
pub record IsLatest (air : AirState) (n bearer : ℕ) (bytes : List ℕ) (place : ℕ) : Type 0 where
  pub here : HasFrame air n bearer bytes place
  pub last : (k : ℕ) → place < k → HasFrame air n bearer bytes k → ⊥

-- no frame in the air of a bearer is for a node and has these bytes
abbrev pub HasNoFrame : AirState → ℕ → ℕ → List ℕ → Type 0
HasNoFrame air n bearer bytes = (k : ℕ) → HasFrame air n bearer bytes k → ⊥

-- the latest such frame is too old: more packets than may be were numbered since it was sent
pub record IsTooOld (replay : ReplayState) (n bearer : ℕ) (bytes : List ℕ) (count : ℕ) : Type 0 where
  pub place : ℕ
  pub latest : IsLatest replay.air n bearer bytes place
  pub age : count ≡ age_of replay.members latest.here.frame n bearer
  pub old : most_age < count

-- ---- a call

-- a node can make the call, or the frame of its number was heard
abbrev pub CanBeAgain : List (List ℕ) → EventNote → Type 0
CanBeAgain heard (note.Arrive bearer number) = (bearer ≤ 1) × (number < length heard)
CanBeAgain heard call = CanPerform call

-- an event happened in the replay, as the call of that caller and stamp, with that chooser
pub record HappensAgain {Q : Type 0} (gives : Q → ℕ → ℕ → ℕ → Type 0) (old new : ReplayState) (by : By) (event : WorldEvent) (c c' : Choosing Q) : Type 0 where
  pub answer : Answer
  pub step : IsReplayStep old by event new answer
  pub chose : ChoosesAt gives old.members event answer c c'

-- the latest frame with these bytes arrived at a node, since it wasn't too old
pub record MeetsAgain {Q : Type 0} (gives : Q → ℕ → ℕ → ℕ → Type 0) (old new : ReplayState) (n : ℕ) (by : By) (bearer : ℕ) (bytes : List ℕ) (c c' : Choosing Q) : Type 0 where
  pub place : ℕ
  pub latest : IsLatest old.air n bearer bytes place
  pub young : unarrived old.members old.air n bearer place ≡ None
  pub happens : HappensAgain gives old new by (Arrive n bearer place) c c'

-- nothing was made, and nothing is changed
abbrev pub IsUnmade : {Q : Type 0} → ReplayState → ReplayState → Choosing Q → Choosing Q → Type 0
IsUnmade old new c c' = (new ≡ old) × (c' ≡ c)

-- what became of an arrival that was answered so
abbrev pub became : Answer → Again
became (answer.TooOld count) = TooOld count
became answered = Made

-- what became of an arrival with these bytes
abbrev pub IsOutcomeOfBytes : {Q : Type 0} → (Q → ℕ → ℕ → ℕ → Type 0) → ReplayState → ReplayState → ℕ → By → ℕ → List ℕ → Choosing Q → Choosing Q → Again → Type 0
IsOutcomeOfBytes gives old new n by bearer bytes c c' Made = MeetsAgain gives old new n by bearer bytes c c'
IsOutcomeOfBytes gives old new n by bearer bytes c c' Full = IsUnmade old new c c' × (has_room_at old.members n ≡ false)
IsOutcomeOfBytes gives old new n by bearer bytes c c' NoFrame = IsUnmade old new c c' × HasNoFrame old.air n bearer bytes
IsOutcomeOfBytes gives old new n by bearer bytes c c' (TooOld count) = IsUnmade old new c c' × IsTooOld old n bearer bytes count

-- what became of a call that is no arrival
abbrev pub IsOutcomeOfCall : {Q : Type 0} → (Q → ℕ → ℕ → ℕ → Type 0) → ReplayState → ReplayState → ℕ → By → EventNote → Choosing Q → Choosing Q → Again → Type 0
IsOutcomeOfCall gives old new n by call c c' Made = HappensAgain gives old new by (Call n call) c c'
IsOutcomeOfCall gives old new n by call c c' Full = IsUnmade old new c c' × (has_room_at old.members n ≡ false)
IsOutcomeOfCall gives old new n by call c c' other = ⊥

-- What became of a call of node `n` that was to be made again: an arrival is one with the bytes that were heard under
-- its number.
abbrev pub IsOutcomeOf : {Q : Type 0} → (Q → ℕ → ℕ → ℕ → Type 0) → ReplayState → ReplayState → List (List ℕ) → ℕ → By → EventNote → Choosing Q → Choosing Q → Again → Type 0
IsOutcomeOf gives old new heard n by (note.Arrive bearer number) c c' outcome =
    (bytes : List ℕ) × (slice_get heard number ≡ Some bytes) × IsOutcomeOfBytes gives old new n by bearer bytes c c' outcome
IsOutcomeOf gives old new heard n by call c c' outcome = IsOutcomeOfCall gives old new n by call c c' outcome
