use Rattle.std.proofs.Common.{◌≡◌, ℕ, ◌+◌, ◌-◌, ◌<◌, ◌≤◌, ◌^◌, arith}
use Rattle.tipc_types.specs.Position.{distance_of, number_of}

-- what a number past another by less than a whole round is past it by
pub distance_of-ahead : (p q : ℕ) → p ≤ q → q < p + 65536 → distance_of (number_of p) (number_of q) ≡ q - p
unfolding distance_of number_of
distance_of-ahead p q order near = omega arith

-- a number that lies behind is a round less that far ahead
pub distance_of-behind : (p q : ℕ) → q < p → p < q + 65536 → distance_of (number_of p) (number_of q) + p ≡ 65536 + q
unfolding distance_of number_of
distance_of-behind p q order near = omega arith

-- a distance from a number is the distance to a position ahead of it that has the other number
pub distance_of-reaches : (p number : ℕ) → number < 2 ^ 16 → number_of (p + distance_of (number_of p) number) ≡ number
unfolding distance_of number_of
distance_of-reaches p number within = omega arith

pub number_of-below : (p : ℕ) → number_of p < 65536
unfolding number_of
number_of-below p = omega arith

-- positions less than a whole round apart are equal where their numbers are
pub same_position : (p q : ℕ) → q < p + 65536 → p < q + 65536 → number_of p ≡ number_of q → p ≡ q
unfolding number_of
same_position p q high low same = omega arith
