-- Which closures are picks.
use Rattle.std.specs.Prelude.{ℕ, ◌≡◌, ◌<◌, ◌≤◌, ◌^◌}

-- What makes a closure a pick, by when it may be called and what it may answer: for every turn below 2^64 and every count
-- from 1 to 32,768 it may be called and has one answer, which is below the count.
pub record IsFair (pre : ℕ → ℕ → Type 0) (post : ℕ → ℕ → ℕ → Type 0) : Type 0 where
  pub callable : (turn count : ℕ) → turn < 2 ^ 64 → 1 ≤ count → count ≤ 32768 → pre turn count
  pub below : (turn count k : ℕ) → turn < 2 ^ 64 → 1 ≤ count → count ≤ 32768 → post turn count k → k < count
  pub one : (turn count k l : ℕ) → turn < 2 ^ 64 → 1 ≤ count → count ≤ 32768 → post turn count k → post turn count l → k ≡ l
