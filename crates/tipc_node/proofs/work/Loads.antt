-- The loads of all links together.
use Rattle.std.proofs.Common.{◌≡◌, ℕ, ◌+◌, ◌*◌, ◌^◌, ◌≤◌, List, Option, take}
use Rattle.std.specs.Prelude.{sum_by}
use Rattle.tipc_node.specs.declared.neighbours.Neighbour.{Neighbour}
use Rattle.tipc_node.specs.Nodes.{load_on}

-- the loads of the links to the first i neighbours, added up: each number of one link has 32 bits
pub record IsSummed (xs : List (Option Neighbour)) (i unacked waiting : ℕ) : Type 0 where
  pub unacked_is : unacked ≡ sum_by (λ x. (load_on 0 x).0 + (load_on 1 x).0) (take i xs)
  pub waiting_is : waiting ≡ sum_by (λ x. (load_on 0 x).1 + (load_on 1 x).1) (take i xs)
  pub unacked_fits : unacked ≤ i * 2 ^ 33
  pub waiting_fits : waiting ≤ i * 2 ^ 33
