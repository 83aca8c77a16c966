-- Steps in a journal: each begins with a Step and ends with an Answered.
use Rattle.std.specs.Prelude.{◌≡◌, ℕ, Bool, true, false, List, [], ◌∷◌, ◌++◌, drop, take_while}
use Rattle.std.specs.List.{flat_map, list_all, prefix_len}
use Rattle.tipc_types.specs.declared.node_calls.By.{By}
use Rattle.tipc_types.specs.declared.node_calls.EventNote.{EventNote}
use Rattle.tipc_types.specs.declared.node_calls.Answer.{Answer}
use Rattle.tipc_journal.specs.declared.entries.Entry.{Entry}
use Rattle.tipc_journal.specs.declared.entries.Entry.TheVariants.{Step, Answered}

-- one step of a node: who called, what was called, the entries that it made, and how it was answered
pub record NodeStep : Type 0 where
  pub by : By
  pub event : EventNote
  pub inside : List Entry
  pub caller : ℕ
  pub call : ℕ
  pub answer : Answer

-- a step beside the journal before it
pub record PlacedStep : Type 0 where
  pub before : List Entry
  pub step : NodeStep

-- the entries of a step: a Step, those that it made, and the Answered that ends it
abbrev pub step_entries : NodeStep → List Entry
step_entries s = Step s.by s.event ∷ (s.inside ++ Answered s.caller s.call s.answer ∷ [])

-- whether an entry neither begins nor ends a step
abbrev pub is_inner : Entry → Bool
is_inner (Step by event) = false
is_inner (Answered caller call answer) = false
is_inner _ = true

-- none of the entries begins or ends a step
abbrev pub IsInside : List Entry → Type 0
IsInside entries = list_all is_inner entries ≡ true

-- the step that a Step begins, where an Answered is the first entry after it that isn't inside a step
abbrev pub ended : List Entry → By → EventNote → List Entry → List Entry → List PlacedStep
ended before by event inside (Answered caller call answer ∷ rest) =
    record {
      before = before;
      step = record { by = by; event = event; inside = inside; caller = caller; call = call; answer = answer };
    } ∷ []
ended before by event inside _ = []

-- the steps of the later part of a journal, behind the part before it
abbrev pub steps_behind : List Entry → List Entry → List PlacedStep
steps_behind before [] = []
steps_behind before (Step by event ∷ rest) =
    ended before by event (take_while is_inner rest) (drop (prefix_len is_inner rest) rest)
    ++ steps_behind (before ++ Step by event ∷ []) rest
steps_behind before (entry ∷ rest) = steps_behind (before ++ entry ∷ []) rest

-- the steps of a journal, in order, each beside the journal before it
unfoldable pub steps : List Entry → List PlacedStep
steps entries = steps_behind [] entries

-- the journal is whole steps, one after another
pub record IsWhole (entries : List Entry) : Type 0 where
  pub made : List NodeStep
  pub joined : entries ≡ flat_map step_entries made
  pub clean : list_all (λ s. list_all is_inner s.inside) made ≡ true
