-- What holds of the link ends of a node, whatever it does and whatever arrives: how long each was silent, how high its numbers are, and that it is up
-- only where its bearer is mended.
use Rattle.std.specs.Prelude.{◌≡◌, ◌≤◌, ℕ, ◌+◌, Bool, true, Some, IfSome, length}
use Rattle.tipc_types.specs.LinkStates.{is_up}
use Rattle.tipc_contact.specs.Sides.{first_number}
use Rattle.tipc_link.specs.Links.{LinkEnd}
use Rattle.tipc_link_fsm.specs.Ends.{IsSound}
use Rattle.tipc_pair.specs.Facing.{PairEnds, other}
use Rattle.tipc_node.specs.declared.neighbours.Neighbour.{Neighbour}
use Rattle.tipc_node.specs.Nodes.{NodeState, is_mended_on, neighbour_of}

-- the link states of both ends of a pair are sound: the silent count is at most 4, and 0 where the link isn't up
pub record AreSoundEnds (x : PairEnds) : Type 0 where
  pub near : IfSome x.near (λ (e : LinkEnd). IsSound e.fsm)
  pub far : IfSome x.far (λ (e : LinkEnd). IsSound e.fsm)

-- the contact number of a pair, and the epochs of its ends, are at most this
pub record IsAtMost (most : ℕ) (x : PairEnds) : Type 0 where
  pub contact : x.contact ≤ most
  pub near : IfSome x.near (λ (e : LinkEnd). e.fsm.own ≤ most)
  pub far : IfSome x.far (λ (e : LinkEnd). e.fsm.own ≤ most)

-- a link end tells whether its bearer is mended, and its link is up only where it is
pub record StandsOn (mended : Bool) (e : LinkEnd) : Type 0 where
  pub same : e.mended ≡ mended
  pub up : is_up e.fsm.state ≡ true → mended ≡ true

-- both ends of a pair stand so, each on its bearer; these two are mended, or aren't
pub record BothStand (mended : Bool × Bool) (x : PairEnds) : Type 0 where
  pub near : IfSome x.near (StandsOn (is_mended_on mended x.bearer))
  pub far : IfSome x.far (StandsOn (is_mended_on mended (other x.bearer)))

-- the highest number that a node can have: the first one of its boot, and one more for each entry of its journal
abbrev pub highest_number : NodeState → ℕ
highest_number n = first_number n.boot + length n.journal

-- so it is with the pair to each neighbour of a node
pub record HasRightEnds (n : NodeState) : Type 0 where
  pub sound : (b : ℕ) (x : Neighbour) → neighbour_of n b ≡ Some x → AreSoundEnds x.pair
  pub low : (b : ℕ) (x : Neighbour) → neighbour_of n b ≡ Some x → IsAtMost (highest_number n) x.pair
  pub stand : (b : ℕ) (x : Neighbour) → neighbour_of n b ≡ Some x → BothStand n.mended x.pair
