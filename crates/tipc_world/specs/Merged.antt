-- The calls of all nodes in order of their stamps, read off the journals of all boots.
use Rattle.std.specs.Prelude.{◌≡◌, ◌==◌, ℕ, List, [], ◌∷◌, ◌++◌, Option, Some, None, if◌then◌else◌, length, slice_get, slice_index_or}
use Rattle.std.specs.List.{flat_map, range_with_len}
use Rattle.tipc_types.specs.declared.node_calls.Answer.{Answer}
use Rattle.tipc_types.specs.declared.node_calls.EventNote.{EventNote}
use Rattle.tipc_types.specs.declared.node_calls.EventNote.TheVariants as note
use Rattle.tipc_journal.specs.declared.entries.Entry.{Entry}
use Rattle.tipc_journal.specs.Steps.{steps, NodeStep, PlacedStep}
use Rattle.tipc_node.specs.Sockets.{kept_answer}
use Rattle.tipc_world.specs.declared.faults.Limit.TheVariants as limit
use Rattle.tipc_replay.specs.declared.events.WorldEvent.{WorldEvent}
use Rattle.tipc_replay.specs.declared.events.WorldEvent.TheVariants.{Call, Arrive}
use Rattle.tipc_world.specs.declared.faults.WorldFault.{WorldFault}
use Rattle.tipc_world.specs.declared.faults.WorldFault.TheVariants as fault
use Rattle.tipc_replay.specs.States.{journal_at, journals_of, MemberState, arrivals_at}
use Rattle.tipc_world.specs.Events.{counts}
use Rattle.tipc_world.specs.States.{WorldState}
use Rattle.tipc_world.specs.Steps.{IsStep}

-- a recorded call: the number of the node that made it, the call, and the answer that was kept
pub record Recorded : Type 0 where
  pub node : ℕ
  pub call : EventNote
  pub answer : Answer

-- the call that a step of node n records
abbrev pub call_in : ℕ → NodeStep → Recorded
call_in n s = record { node = n; call = s.event; answer = s.answer }

-- ---- those with one stamp

-- the call of a step of node n, where it has this stamp
abbrev pub call_if : ℕ → ℕ → PlacedStep → List Recorded
call_if n stamp s = if s.step.by.stamp == stamp then call_in n s.step ∷ [] else []

-- the calls of node n with this stamp, in all its boots
abbrev pub calls_at : ℕ → ℕ → Option MemberState → List Recorded
calls_at n stamp None = []
calls_at n stamp (Some m) = flat_map (λ journal. flat_map (call_if n stamp) (steps journal)) (journals_of m)

-- the numbers that nodes may have
unfoldable pub node_numbers : List ℕ
node_numbers = range_with_len 1 32

-- those of all nodes
unfoldable pub calls_with : List (Option MemberState) → ℕ → List Recorded
calls_with members stamp = flat_map (λ n. calls_at n stamp (slice_index_or members n None)) node_numbers

-- ---- all of them

-- the calls of all nodes: those with stamp 0, then those with stamp 1, and so on, for as many stamps as were given
unfoldable pub merged : WorldState → List Recorded
merged w = flat_map (calls_with w.members) (range_with_len 0 w.stamps)

-- a step stands in the journal of node n in the boot of that place
pub record HasStep (members : List (Option MemberState)) (n boot : ℕ) (s : NodeStep) : Type 0 where
  pub journal : List Entry
  pub there : journal_at members n boot ≡ Some journal
  pub place : ℕ
  pub placed : PlacedStep
  pub stands : slice_get (steps journal) place ≡ Some placed
  pub step_is : placed.step ≡ s

-- a call is that of a step with this stamp, which stands in a journal of its node
pub record IsMade (members : List (Option MemberState)) (stamp : ℕ) (call : Recorded) : Type 0 where
  pub boot : ℕ
  pub step : NodeStep
  pub stands : HasStep members call.node boot step
  pub stamp_is : step.by.stamp ≡ stamp
  pub call_is : call_in call.node step ≡ call

-- These calls are the steps of all nodes in all their boots in order of their stamps: they are as many as were
-- recorded, each step stands at the place of its stamp, and each call is that of such a step.
pub record AreMerged (members : List (Option MemberState)) (recorded : ℕ) (calls : List Recorded) : Type 0 where
  pub count : length calls ≡ recorded
  pub stand : (n boot : ℕ) (s : NodeStep) → HasStep members n boot s → slice_get calls s.by.stamp ≡ Some (call_in n s)
  pub made : (stamp : ℕ) (call : Recorded) → slice_get calls stamp ≡ Some call → IsMade members stamp call

-- ---- what an event adds

-- What an event that is answered so adds to them: a call of a node itself, with the answer that its journal keeps; and
-- an arrival that counts, by the number of the frames that arrived at the node before. Nothing else is recorded as a
-- call.
abbrev pub recorded_by : WorldState → WorldEvent → Answer → List Recorded
recorded_by w (Call node call) answered = record { node = node; call = call; answer = kept_answer answered } ∷ []
recorded_by w (Arrive node bearer frame) answered =
    if counts w (Arrive node bearer frame)
    then record { node = node; call = note.Arrive bearer (length (arrivals_at w.members node)); answer = kept_answer answered } ∷ []
    else []
recorded_by w other answered = []

-- Where an event has no answer, nothing is added to them; but one that takes the air past its limit happened, and is
-- added with the answer that it had.
abbrev pub AddsAtFault : WorldState → WorldEvent → WorldState → WorldFault → Type 0
AddsAtFault old event new (fault.Limit limit.Frames) =
    (answered : Answer) × IsStep old event new answered × (merged new ≡ merged old ++ recorded_by old event answered)
AddsAtFault old event new other = merged new ≡ merged old
