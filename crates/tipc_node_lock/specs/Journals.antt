-- What a journal tells of the calls of several callers: the answers to each, the arrivals in order, and that each step can be made again.
use Rattle.std.specs.Prelude.{◌==◌, ◌≤◌, if◌then◌else◌, ℕ, List, Option, Some, None}
use Rattle.std.specs.List.{All, filter_map}
use Rattle.tipc_types.specs.declared.node_calls.Answer.{Answer}
use Rattle.tipc_types.specs.declared.node_calls.EventNote.{EventNote}
use Rattle.tipc_types.specs.declared.node_calls.EventNote.TheVariants.{Arrive}
use Rattle.tipc_journal.specs.declared.entries.Entry.{Entry}
use Rattle.tipc_journal.specs.declared.entries.Entry.TheVariants.{Answered}
use Rattle.tipc_journal.specs.Steps.{steps}
use Rattle.tipc_node.specs.Calls.{CanPerform}

-- the answer that an entry gives to a caller
abbrev pub answer_to : ℕ → Entry → Option Answer
answer_to who (Answered caller call answered) = if caller == who then Some answered else None
answer_to who other = None

-- the answers to a caller, in order
unfoldable pub answers_to : ℕ → List Entry → List Answer
answers_to who entries = filter_map (answer_to who) entries

-- the number of an arrival
abbrev pub arrival_number : EventNote → Option ℕ
arrival_number (Arrive bearer number) = Some number
arrival_number other = None

-- the numbers of the arrivals, in order
unfoldable pub arrival_numbers : List Entry → List ℕ
arrival_numbers entries = filter_map (λ p. arrival_number p.step.event) (steps entries)

-- a call that a node performs, or an arrival on one of the two bearers
abbrev pub CanBeMade : EventNote → Type 0
CanBeMade (Arrive bearer number) = bearer ≤ 1
CanBeMade other = CanPerform other

-- each step is of such a call
abbrev pub AreCalls : List Entry → Type 0
AreCalls entries = All (λ p. CanBeMade p.step.event) (steps entries)
