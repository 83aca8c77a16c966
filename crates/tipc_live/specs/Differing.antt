-- Where two journals differ within a step.
use Rattle.std.specs.Prelude.{◌≡◌, ◌≢◌, ◌-◌, ◌<◌, ◌≤◌, ℕ, List, Option, Some, slice_get}
use Rattle.tipc_journal.specs.declared.entries.Entry.{Entry}
use Rattle.tipc_live.specs.declared.answers.Audit.{Audit}
use Rattle.tipc_live.specs.declared.answers.Audit.TheVariants.{Differ}

-- each entry that is kept from one place to another, which is counted in, stands at its place in the journal of the
-- replay
abbrev pub AreSameIn : List Entry → List Entry → ℕ → ℕ → Type 0
AreSameIn kept replayed begin end = (k : ℕ) → begin ≤ k → k ≤ end → slice_get replayed k ≡ slice_get kept k

-- Of these places that is the first at which an entry is kept that the journal of the replay doesn't have there.
pub record DifferFirst (kept replayed : List Entry) (begin end place : ℕ) (entry : Entry) (other : Option Entry) : Type 0 where
  pub low : begin ≤ place
  pub high : place ≤ end
  pub same : (k : ℕ) → begin ≤ k → k < place → slice_get replayed k ≡ slice_get kept k
  pub entry_is : slice_get kept place ≡ Some entry
  pub other_is : slice_get replayed place ≡ other
  pub differ : Some entry ≢ other

-- the answer names it, of that node, with places from 1
abbrev pub TellsDifference : ℕ → List Entry → List Entry → ℕ → ℕ → Audit → Type 0
TellsDifference n kept replayed begin end (Differ node place entry other) =
    (node ≡ n) × (1 ≤ place) × DifferFirst kept replayed begin end (place - 1) entry other
TellsDifference n kept replayed begin end answer = ⊥
