-- Service ranges.
use Rattle.std.specs.Prelude.{ℕ}

-- a service type and the instances from lower to upper, both included
pub record Span : Type 0 where
  pub kind : ℕ
  pub lower : ℕ
  pub upper : ℕ
