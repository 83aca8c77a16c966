-- The rest of a turn by a count is below the count, and one number.
use Rattle.std.specs.Prelude.{ℕ, ◌≡◌, ◌<◌, ◌≤◌, ◌%◌}
use Rattle.std.proofs.Common.{sym, ◌∙◌, arith}

-- The choice for a turn among `count` is below `count`, where there is anything to choose from.
pub turn_below : (turn count k : ℕ) → 1 ≤ count → k ≡ turn % count → k < count
turn_below turn count k least gives = omega arith

-- Two choices for the same turn and count are the same.
pub turn_once : (turn count k l : ℕ) → k ≡ turn % count → l ≡ turn % count → k ≡ l
turn_once turn count k l gives other = gives ∙ sym other
