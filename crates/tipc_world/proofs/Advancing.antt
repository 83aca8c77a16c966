-- A step of a world, put together from what became of its nodes and its air, and from its counts.
use Rattle.std.proofs.Common.{◌≡◌, ◌≤◌, ◌<◌, ◌+◌, ℕ, Bool, true, List, Option, Some, None, slice_index_or, sym, ap, ◌∙◌}
use Rattle.std.specs.Prelude.{if◌then◌else◌, option_map, unwrap_or, ◌&&◌}
use Rattle.tipc_types.specs.Address.{node_word}
use Rattle.tipc_types.specs.declared.node_calls.Answer.{Answer}
use Rattle.tipc_types.specs.declared.node_calls.By.{By}
use Rattle.tipc_replay.specs.Skies.{air_size}
use Rattle.tipc_replay.specs.declared.events.WorldEvent.{WorldEvent}
use Rattle.tipc_replay.specs.Calls.{counts_at, is_call_at, is_recorded, node_of}
use Rattle.tipc_replay.specs.Sound.{IsNumber}
use Rattle.tipc_replay.specs.States.{MemberState, ReplayState}
use Rattle.tipc_replay.specs.Steps.{IsReplayStep}
use Rattle.tipc_world.specs.Limits.{IsAnswered, IsFree, PassesFrames}
use Rattle.tipc_world.specs.States.{WorldState}
use Rattle.tipc_world.specs.Steps.{by_in, IsStep}

-- each node has a number and its address
abbrev pub HaveNumbers : List (Option MemberState) → Type 0
HaveNumbers members = (n : ℕ) (m : MemberState) → slice_index_or members n None ≡ Some m → IsNumber n × (m.node.own ≡ node_word n)

-- the next recorded call of a node: the one of that stamp
abbrev pub next_by : ℕ → MemberState → By
next_by stamp m = record { stamp = stamp; caller = 0; call = m.calls }

pub by_is : (members : List (Option MemberState)) (stamp : ℕ) (event : WorldEvent) (m : MemberState) → slice_index_or members (node_of event) None ≡ Some m → by_in members stamp event ≡ next_by stamp m
by_is members stamp event m was =
    let by_of : Option MemberState → By = λ o. record { stamp = stamp; caller = 0; call = unwrap_or (option_map (λ (x : MemberState). x.calls) o) 0 } in
    ap by_of was

-- the world of these nodes and this air
abbrev pub world_of : ReplayState → ℕ → ℕ → WorldState
world_of r events stamps = record { members = r.members; air = r.air; events = events; stamps = stamps; lost = r.lost }

-- what became of the counts of a world
pub record Counts (old : WorldState) (event : WorldEvent) (counted : Bool) (events stamps : ℕ) : Type 0 where
  pub counted_is : counted ≡ counts_at old.members old.air event
  pub recorded : Bool
  pub recorded_is : recorded ≡ is_recorded event
  pub call : Bool
  pub call_is : call ≡ (recorded && counted)
  pub events_are : events ≡ (if counted then old.events + 1 else old.events)
  pub stamps_are : stamps ≡ (if call then old.stamps + 1 else old.stamps)

-- the nodes and the air of a world made a step
abbrev pub Steps : ReplayState → ReplayState → ℕ → WorldEvent → Answer → Type 0
Steps r r' stamps event answered = IsReplayStep r (by_in r.members stamps event) event r' answered

pub step_of : (r r' : ReplayState) (event : WorldEvent) (events stamps events' stamps' : ℕ) (counted : Bool) (answered : Answer)
    → Steps r r' stamps event answered → Counts (world_of r events stamps) event counted events' stamps' → IsStep (world_of r events stamps) event (world_of r' events' stamps') answered
step_of r r' event events stamps events' stamps' counted answered step k =
    let call : k.call ≡ is_call_at r.members r.air event = k.call_is ∙ (ap (λ b. b && counted) k.recorded_is ∙ ap (λ c. is_recorded event && c) k.counted_is) in
    record {
      lost = step.lost;
      becomes = step.becomes;
      events = k.events_are ∙ ap (λ b. if b then events + 1 else events) k.counted_is;
      stamps = k.stamps_are ∙ ap (λ b. if b then stamps + 1 else stamps) call;
      lost_is = step.lost_is;
    }

pub answered_of : (r r' : ReplayState) (event : WorldEvent) (events stamps events' stamps' : ℕ) (counted : Bool) (answered : Answer)
    → Steps r r' stamps event answered → Counts (world_of r events stamps) event counted events' stamps'
    → IsFree r.members r.air events event → (counted ≡ true → air_size r'.air ≤ 100000) → IsAnswered (world_of r events stamps) event (world_of r' events' stamps') answered
answered_of r r' event events stamps events' stamps' counted answered step k free within = record {
  step = step_of r r' event events stamps events' stamps' counted answered step k;
  free = free;
  within = λ is. within (k.counted_is ∙ is);
}

pub passes_of : (r r' : ReplayState) (event : WorldEvent) (events stamps events' stamps' : ℕ) (counted : Bool) (answered : Answer)
    → Steps r r' stamps event answered → Counts (world_of r events stamps) event counted events' stamps'
    → IsFree r.members r.air events event → counted ≡ true → 100000 < air_size r'.air → PassesFrames (world_of r events stamps) event (world_of r' events' stamps')
passes_of r r' event events stamps events' stamps' counted answered step k free is over = record {
  answer = answered;
  step = step_of r r' event events stamps events' stamps' counted answered step k;
  counted = sym k.counted_is ∙ is;
  free = free;
  over = over;
}
