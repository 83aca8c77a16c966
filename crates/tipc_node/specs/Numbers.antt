-- The contact numbers and the own epochs of a node: of which boot they are, how high they are, and that none falls.
use Rattle.std.specs.Prelude.{◌≤◌, ◌<◌, ◌^◌, ◌%◌, ℕ, Option, Some, None, IfSome, length}
use Rattle.tipc_contact.specs.Sides.{first_number}
use Rattle.tipc_link.specs.Links.{LinkEnd}
use Rattle.tipc_pair.specs.Addressed.{HasEpochs}
use Rattle.tipc_pair.specs.Facing.{PairEnds, facing}
use Rattle.tipc_node.specs.Nodes.{NodeState, pair_with}

-- the own epoch of a link end; 0 where there is none
abbrev pub own_epoch : Option LinkEnd → ℕ
own_epoch None = 0
own_epoch (Some e) = e.fsm.own

-- the own epoch of a pair's link end on a bearer
abbrev pub own_epoch_on : PairEnds → ℕ → ℕ
own_epoch_on x bearer = own_epoch (facing bearer x).near

-- From one pair to the other no number falls: neither the contact number, nor the own epoch of a link end, which is 0 where none was made.
pub record NeverFalls (x y : PairEnds) : Type 0 where
  pub contact : x.contact ≤ y.contact
  pub epochs : (bearer : ℕ) → bearer ≤ 1 → own_epoch_on x bearer ≤ own_epoch_on y bearer

-- The contact number of a pair is at least the first one of the node's boot. No own epoch is below it, and each is of the same boot.
pub record IsOfBoot (boot : ℕ) (x : PairEnds) : Type 0 where
  pub from : first_number boot ≤ x.contact
  pub epochs : HasEpochs x

-- so it is with the pair to each node, a stranger's too
abbrev pub HasOwnNumbers : NodeState → Type 0
HasOwnNumbers n = (b : ℕ) → IsOfBoot n.boot (pair_with n b)

-- The boot number of a node has 32 bits and isn't 0, and its journal has at most 1,048,576 entries.
pub record IsBounded (n : NodeState) : Type 0 where
  pub boot : (1 ≤ n.boot) × (n.boot < 2 ^ 32)
  pub few : length n.journal ≤ 1048576

-- the count in a contact number or an epoch, which is its lower half; its upper half is the boot number
abbrev pub lower_half : ℕ → ℕ
lower_half number = number % 4294967296

-- the counts in the contact number of a pair and in the own epochs of its link ends are below 4,000,000,000
pub record IsLow (x : PairEnds) : Type 0 where
  pub contact : lower_half x.contact < 4000000000
  pub near : IfSome x.near (λ (e : LinkEnd). lower_half e.fsm.own < 4000000000)
  pub far : IfSome x.far (λ (e : LinkEnd). lower_half e.fsm.own < 4000000000)

-- so it is with the pair to each node, a stranger's too
abbrev pub AreLow : NodeState → Type 0
AreLow n = (b : ℕ) → IsLow (pair_with n b)
