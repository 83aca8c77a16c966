-- What one event makes of a world, exactly.
use Rattle.std.specs.Prelude.{◌≡◌, ◌≢◌, ℕ, ◌+◌, Bool, ◌||◌, List, Option, Some, None, slice_index_or, if◌then◌else◌}
use Rattle.tipc_types.specs.declared.node_calls.Answer.{Answer}
use Rattle.tipc_types.specs.declared.node_calls.By.{By}
use Rattle.tipc_replay.specs.declared.events.WorldEvent.{WorldEvent}
use Rattle.tipc_replay.specs.Calls.{node_of}
use Rattle.tipc_replay.specs.Members.{IsNewcomer}
use Rattle.tipc_replay.specs.States.{MemberState, calls_recorded}
use Rattle.tipc_replay.specs.Steps.{stage, Becomes}
use Rattle.tipc_world.specs.Events.{counts, is_call}
use Rattle.tipc_world.specs.States.{WorldState}

-- the i-th recorded call of a world, i from 0, has the stamp i, the caller 0, and the number of the calls before it in
-- that boot of its node
abbrev pub by_in : List (Option MemberState) → ℕ → WorldEvent → By
by_in members stamp event = record { stamp = stamp; caller = 0; call = calls_recorded members (node_of event) }

-- one step of a world: an event, and what it answered
pub record IsStep (old : WorldState) (event : WorldEvent) (new : WorldState) (answered : Answer) : Type 0 where
  pub lost : Bool
  pub becomes : Becomes (stage old.members old.air) (by_in old.members old.stamps event) event (stage new.members new.air) answered lost
  pub events : new.events ≡ (if counts old event then old.events + 1 else old.events)
  pub stamps : new.stamps ≡ (if is_call old event then old.stamps + 1 else old.stamps)
  pub lost_is : new.lost ≡ (old.lost || lost)

-- a node without links and history came in under the number n, in its first boot, and every other is as it was
pub record IsJoined (old new : WorldState) (n : ℕ) : Type 0 where
  pub newcomer : MemberState
  pub fresh : IsNewcomer newcomer n 1
  pub here : slice_index_or new.members n None ≡ Some newcomer
  pub others : (m : ℕ) → m ≢ n → slice_index_or new.members m None ≡ slice_index_or old.members m None
  pub air : new.air ≡ old.air
  pub events : new.events ≡ old.events
  pub stamps : new.stamps ≡ old.stamps
  pub lost : new.lost ≡ old.lost
