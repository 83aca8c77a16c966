-- The calls of a caller: those that a journal tells of, beside those that the caller tells.
use Rattle.std.specs.Prelude.{◌≡◌, ◌≢◌, ◌==◌, if◌then◌else◌, ℕ, List, Option, Some, None, slice_get, take}
use Rattle.std.specs.List.{filter_map}
use Rattle.tipc_types.specs.declared.node_calls.Answer.{Answer}
use Rattle.tipc_types.specs.declared.node_calls.EventNote.{EventNote}
use Rattle.tipc_journal.specs.declared.entries.Entry.{Entry}
use Rattle.tipc_journal.specs.declared.entries.Entry.TheVariants.{Answered, Step}
use Rattle.tipc_journal.specs.Steps.{NodeStep, steps}
use Rattle.tipc_node_lock.specs.declared.passes.MadeCall.{MadeCall}
use Rattle.tipc_live.specs.declared.keeping.KeptStep.{KeptStep}

-- a step as its caller tells it
abbrev pub call_told : NodeStep → MadeCall
call_told s = record { stamp = s.by.stamp; call = s.event; answer = s.answer }

-- the same where the caller is this one
abbrev pub call_of : ℕ → NodeStep → Option MadeCall
call_of who s = if s.by.caller == who then Some (call_told s) else None

-- the calls of a caller that a journal tells of, in order
unfoldable pub steps_by : ℕ → List Entry → List MadeCall
steps_by who journal = filter_map (λ p. call_of who p.step) (steps journal)

-- two lists are the same up to that place, and differ there, where one of them may have ended
pub record DifferAt {A : Type 0} (xs ys : List A) (place : ℕ) : Type 0 where
  pub before : take place xs ≡ take place ys
  pub there : slice_get xs place ≢ slice_get ys place

-- ---- one step

-- the call with which an entry begins a step, where it begins one
abbrev pub begun_call : Option Entry → Option EventNote
begun_call (Some (Step by event)) = Some event
begun_call other = None

-- the answer with which an entry ends a step, where it ends one
abbrev pub given_answer : Option Entry → Option Answer
given_answer (Some (Answered caller call answered)) = Some answered
given_answer other = None

-- a step of a journal is as its caller tells it
pub record IsToldSo (entries : List Entry) (k : KeptStep) (told : MadeCall) : Type 0 where
  pub stamp : k.by.stamp ≡ told.stamp
  pub call : begun_call (slice_get entries k.begin) ≡ Some told.call
  pub answered : given_answer (slice_get entries k.end) ≡ Some told.answer

-- so it is of this call, where the caller tells one
abbrev pub IsToldAt : List Entry → KeptStep → Option MadeCall → Type 0
IsToldAt entries k None = ⊥
IsToldAt entries k (Some told) = IsToldSo entries k told
