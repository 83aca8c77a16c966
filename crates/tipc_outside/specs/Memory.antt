-- A source and a sink in memory, which fail at the calls that a test names.
use Rattle.std.specs.Prelude.{ℕ, ◌==◌, Bool, List}
use Rattle.std.specs.List.{list_any}
use Rattle.tipc_outside.specs.Causes.{counted}

-- a source over memory: the bytes that are left, how often it was called, the numbers of the calls that fail, and
-- how often it has failed
pub record Reading : Type 0 where
  pub left : List ℕ
  pub calls : ℕ
  pub failing : List ℕ
  pub faults : ℕ

-- a sink over memory: the bytes that were written, and its calls and failures as a source's
pub record Writing : Type 0 where
  pub contents : List ℕ
  pub calls : ℕ
  pub failing : List ℕ
  pub faults : ℕ

-- whether the call after so many is one of those that fail
abbrev pub is_failing : List ℕ → ℕ → Bool
is_failing failing calls = list_any (λ number. number == counted calls) failing
