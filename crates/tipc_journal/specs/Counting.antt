-- What a journal counts: sends by name, stamps, and the calls of each caller.
use Rattle.std.specs.Prelude.{◌≡◌, ◌==◌, ◌&&◌, if◌then◌else◌, nat_lt, ℕ, Bool, true, false, List, Option, Some, None, length, map, count_by}
use Rattle.std.specs.List.{All, filter_map, range_with_len}
use Rattle.std.specs.List.Sorted.{IsStrictlySortedBy}
use Rattle.std.specs.Ordering.{nat_cmp}
use Rattle.tipc_types.specs.declared.node_calls.Answer.{Answer}
use Rattle.tipc_types.specs.declared.node_calls.Answer.TheVariants.{SentTo}
use Rattle.tipc_types.specs.declared.node_calls.EventNote.{EventNote}
use Rattle.tipc_types.specs.declared.node_calls.EventNote.TheVariants.{SendName}
use Rattle.tipc_journal.specs.declared.entries.Entry.{Entry}
use Rattle.tipc_journal.specs.Steps.{steps, NodeStep}

-- whether a call sent a message by name
abbrev pub is_sent_by_name : EventNote → Answer → Bool
is_sent_by_name (SendName port kind instance importance body) (SentTo to) = true
is_sent_by_name event answer = false

-- how many messages were sent by name
unfoldable pub names_sent : List Entry → ℕ
names_sent entries = count_by (λ p. is_sent_by_name p.step.event p.step.answer) (steps entries)

-- how many messages were sent by name in steps with a stamp below this one
unfoldable pub names_sent_before : List Entry → ℕ → ℕ
names_sent_before entries stamp =
    count_by (λ p. nat_lt p.step.by.stamp stamp && is_sent_by_name p.step.event p.step.answer) (steps entries)

-- the stamps of the steps, in order
unfoldable pub stamps : List Entry → List ℕ
stamps entries = map (λ p. p.step.by.stamp) (steps entries)

-- the stamps rise from step to step
abbrev pub StampsRise : List Entry → Type 0
StampsRise entries = IsStrictlySortedBy nat_cmp (stamps entries)

-- a step is answered to the caller that made it, with the number of its call
pub record IsAnsweredToCaller (s : NodeStep) : Type 0 where
  pub caller : s.caller ≡ s.by.caller
  pub call : s.call ≡ s.by.call

-- each step of a journal is answered to its caller
abbrev pub AllAnsweredToCallers : List Entry → Type 0
AllAnsweredToCallers entries = All (λ p. IsAnsweredToCaller p.step) (steps entries)

-- the number of a step's call, where the caller is this one
abbrev pub call_by : ℕ → NodeStep → Option ℕ
call_by caller s = if s.caller == caller then Some s.call else None

-- the numbers of a caller's calls, in order
unfoldable pub calls_of : List Entry → ℕ → List ℕ
calls_of entries caller = filter_map (λ p. call_by caller p.step) (steps entries)

-- the calls of each caller are counted from 0
abbrev pub CallsCount : List Entry → Type 0
CallsCount entries = (caller : ℕ) → calls_of entries caller ≡ range_with_len 0 (length (calls_of entries caller))
