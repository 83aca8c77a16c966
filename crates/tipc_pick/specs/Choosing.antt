-- A pick at one of its turns.
use Rattle.std.specs.Prelude.{ℕ}

-- a pick and the turn that it is at
pub record Choosing (P : Type 0) : Type 0 where
  pub pick : P
  pub turn : ℕ
