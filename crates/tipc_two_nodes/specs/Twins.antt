-- What holds of two nodes with a pair each, at every moment.
use Rattle.std.specs.Prelude.{◌≡◌, ℕ, Some}
use Rattle.tipc_paired.specs.Paired.{ArePaired}
use Rattle.tipc_paired.specs.Views.{Begun, View}
use Rattle.tipc_two_nodes.specs.Carriages.{AreCounted, Carriage, IsSent, IsTaken, Numbers}
use Rattle.tipc_two_nodes.specs.Numbers.{AreNumbers, AreRecorded}
use Rattle.tipc_two_nodes.specs.Steps.{TellsMore}

-- what x sends y in each contact, its own number first, and what y takes of it
pub record Crosses (x y : View) (n : Numbers) : Type 0 where
  pub carriage : ℕ → ℕ → Carriage
  pub sent : (own theirs : ℕ) → IsSent x n own theirs (carriage own theirs)
  pub taken : (own theirs : ℕ) → IsTaken y theirs own (carriage own theirs)
  pub counted : (own theirs : ℕ) → AreCounted x y own theirs (carriage own theirs)

-- Two nodes, each with a pair of two links, are twins: they are paired, their contact numbers, epochs and records are
-- in order, and in each contact either takes what the other sends.
pub record AreTwins (x y : View) : Type 0 where
  pub paired : ArePaired x y
  pub here : Numbers
  pub there : Numbers
  pub numbers_here : AreNumbers x y here
  pub numbers_there : AreNumbers y x there
  pub recorded_here : AreRecorded x y
  pub recorded_there : AreRecorded y x
  pub sends : Crosses x y here
  pub receives : Crosses y x there

-- ---- steps of x

-- what every step of x shows: the two are paired then, what began and was told stays so, and the records are in order
pub record GoesOn (x x' y : View) : Type 0 where
  pub paired : ArePaired x' y
  pub tells : TellsMore x x'
  pub begun : (b epoch : ℕ) (g : Begun) → (x.wires b).begun epoch ≡ Some g → (x'.wires b).begun epoch ≡ Some g
  pub recorded : AreRecorded x' y

-- what x sends and what it takes
abbrev pub sends_in : (x y : View) → AreTwins x y → Carriage
sends_in x y h = h.sends.carriage x.node.contact x.node.seen

-- what x takes in its present contact
abbrev pub takes_in : (x y : View) → AreTwins x y → Carriage
takes_in x y h = h.receives.carriage x.node.seen x.node.contact
