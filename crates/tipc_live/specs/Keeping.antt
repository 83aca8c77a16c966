-- The steps that journals keep, as an audit goes through them.
use Rattle.std.specs.Prelude.{◌==◌, ◌+◌, ◌<◌, ◌≤◌, ℕ, Bool, true, false, List, Option, Some, None, count_by, length, map}
use Rattle.tipc_types.specs.declared.node_calls.By.{By}
use Rattle.tipc_journal.specs.declared.entries.Entry.{Entry}
use Rattle.tipc_journal.specs.declared.entries.Entry.TheVariants.{Answered, Step}
use Rattle.tipc_journal.specs.Steps.{PlacedStep, steps}
use Rattle.tipc_live.specs.declared.keeping.KeptStep.{KeptStep}

-- who made the step that an entry begins, where there is one that does
abbrev pub maker_of : Option Entry → Option By
maker_of (Some (Step by event)) = Some by
maker_of other = None

-- whether a step goes on behind an entry of it
abbrev pub is_open : Entry → Bool
is_open (Answered caller call answer) = false
is_open other = true

-- a step of the node at that place, with the places of its first and its last entry
abbrev pub kept_step : ℕ → PlacedStep → KeptStep
kept_step node p = record { by = p.step.by; node = node; begin = length p.before; end = length p.before + 1 + length p.step.inside }

-- the steps of its journal
unfoldable pub kept_in : ℕ → List Entry → List KeptStep
kept_in node journal = map (kept_step node) (steps journal)

-- the stamp of a step
abbrev pub stamp_of : KeptStep → ℕ
stamp_of k = k.by.stamp

-- ---- stamps that stand twice

-- how often a stamp stands in a list
abbrev pub uses_in : List ℕ → ℕ → ℕ
uses_in stamps stamp = count_by (λ s. s == stamp) stamps

-- it stands there twice at least, and each below it once at most
pub record FirstTwice (stamps : List ℕ) (stamp : ℕ) : Type 0 where
  pub twice : 2 ≤ uses_in stamps stamp
  pub first : (s : ℕ) → s < stamp → uses_in stamps s ≤ 1
