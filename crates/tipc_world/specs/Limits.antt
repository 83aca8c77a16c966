-- When a limit of a world is reached, and what an event makes of the world then.
use Rattle.std.specs.Prelude.{◌≡◌, ◌≤◌, ◌<◌, ℕ, true, false, List, Option}
use Rattle.tipc_types.specs.declared.node_calls.Answer.{Answer}
use Rattle.tipc_world.specs.declared.faults.Limit.TheVariants as limit
use Rattle.tipc_replay.specs.declared.events.WorldEvent.{WorldEvent}
use Rattle.tipc_world.specs.declared.faults.WorldFault.{WorldFault}
use Rattle.tipc_world.specs.declared.faults.WorldFault.TheVariants as fault
use Rattle.tipc_replay.specs.Calls.{counts_at, has_room_at, is_call_at, node_of}
use Rattle.tipc_world.specs.Events.{counts}
use Rattle.tipc_replay.specs.Skies.{AirState, air_size}
use Rattle.tipc_replay.specs.States.{MemberState}
use Rattle.tipc_world.specs.States.{WorldState}
use Rattle.tipc_world.specs.Steps.{IsStep}

-- no limit keeps an event from happening: where it counts, fewer than 300,000 have happened; where it is a call, the
-- node's journal has room
pub record IsFree (members : List (Option MemberState)) (air : AirState) (events : ℕ) (event : WorldEvent) : Type 0 where
  pub below : counts_at members air event ≡ true → events < 300000
  pub room : is_call_at members air event ≡ true → has_room_at members (node_of event) ≡ true

-- a limit keeps it from happening
abbrev pub IsStopped : List (Option MemberState) → AirState → ℕ → WorldEvent → WorldFault → Type 0
IsStopped members air events event (fault.Limit limit.Events) = (300000 ≤ events)
    × (counts_at members air event ≡ true)
IsStopped members air events event (fault.Limit limit.Journal) = (events < 300000)
    × (is_call_at members air event ≡ true) × (has_room_at members (node_of event) ≡ false)
IsStopped members air events event (fault.Limit limit.Frames) = ⊥
IsStopped members air events event fault.NoMemory = Unit {0}

-- the event happened, and the air of both bearers together has more frames than it may have
pub record PassesFrames (old : WorldState) (event : WorldEvent) (new : WorldState) : Type 0 where
  pub answer : Answer
  pub step : IsStep old event new answer
  pub counted : counts old event ≡ true
  pub free : IsFree old.members old.air old.events event
  pub over : 100000 < air_size new.air

-- what a world is after an event that has no answer
abbrev pub Stops : WorldState → WorldEvent → WorldState → WorldFault → Type 0
Stops old event new (fault.Limit limit.Events) = IsStopped old.members old.air old.events event (fault.Limit limit.Events) × (new ≡ old)
Stops old event new (fault.Limit limit.Journal) = IsStopped old.members old.air old.events event (fault.Limit limit.Journal) × (new ≡ old)
Stops old event new (fault.Limit limit.Frames) = PassesFrames old event new
Stops old event new fault.NoMemory = new ≡ old

-- an event has an answer: no limit kept it from happening, and none is passed after it
pub record IsAnswered (old : WorldState) (event : WorldEvent) (new : WorldState) (answered : Answer) : Type 0 where
  pub step : IsStep old event new answered
  pub free : IsFree old.members old.air old.events event
  pub within : counts old event ≡ true → air_size new.air ≤ 100000
