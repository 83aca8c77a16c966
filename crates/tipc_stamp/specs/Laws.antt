-- What the rule of stamps says of the numbers that were drawn.
use Rattle.std.specs.Prelude.{◌≡◌, ◌≢◌, ℕ, ◌<◌, slice_index, All, Contains}
use Rattle.std.specs.List.{AllPairs}
use mathlib.Core.Option.{some}
use lib.ListN.{get_elem?}
use Rattle.atomic_table.specs.Table.{State}
use Rattle.tipc_stamp.specs.declared.rule.Drawn.{Drawn}
use Rattle.tipc_stamp.specs.Given.{Given}

-- each number that a seat drew is below the word
abbrev pub AreBelow : Type 0
AreBelow = (s : State ℕ Drawn) → Given s → (id : ℕ) (v : Drawn) → get_elem? s.views id ≡ some v
    → All (λ x. x < slice_index s.words 0) v.drawn

-- a seat drew none twice
abbrev pub AreDrawnOnce : Type 0
AreDrawnOnce = (s : State ℕ Drawn) → Given s → (id : ℕ) (v : Drawn) → get_elem? s.views id ≡ some v
    → AllPairs (λ x y. x ≢ y) v.drawn

-- no two seats drew the same
abbrev pub AreOfOneSeat : Type 0
AreOfOneSeat = (s : State ℕ Drawn) → Given s → (id other : ℕ) (v w : Drawn)
    → get_elem? s.views id ≡ some v → get_elem? s.views other ≡ some w → id ≢ other
    → (x : ℕ) → Contains v.drawn x → Contains w.drawn x → ⊥

-- some seat drew each number below the word
abbrev pub AllAreDrawn : Type 0
AllAreDrawn = (s : State ℕ Drawn) → Given s → (x : ℕ) → x < slice_index s.words 0
    → (id : ℕ) × (v : Drawn) × (get_elem? s.views id ≡ some v) × Contains v.drawn x
