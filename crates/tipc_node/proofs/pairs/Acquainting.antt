-- What is kept of a peer, which may be a stranger still, by its place.
use Rattle.std.proofs.Common.{◌≡◌, ℕ, Option, Some, None, refl}
use Rattle.std.specs.Prelude.{unwrap_or}
use Rattle.tipc_types.specs.Address.{node_word}
use Rattle.tipc_pair.specs.Facing.{facing}
use Rattle.tipc_node.specs.declared.neighbours.Neighbour.{Neighbour}
use Rattle.tipc_node.specs.Neighbours.{stranger}
use Rattle.tipc_node.specs.Nodes.{NodeState, acquaintance, end_with}
use Rattle.tipc_node.proofs.pairs.Strangers.{alone_near}

-- where there is no link end on a bearer, there is none at what is kept of the peer
pub none_there : (own peer boot bearer : ℕ) (place : Option Neighbour) → end_with bearer place ≡ None → (facing bearer (unwrap_or place (stranger own peer boot)).pair).near ≡ None
none_there own peer boot bearer None none = alone_near bearer own (node_word peer) boot
none_there own peer boot bearer (Some x) none = none

pub same_acquaintance : (n : NodeState) (peer : ℕ) (place : Option Neighbour) → unwrap_or place (stranger n.own peer n.boot) ≡ acquaintance n peer place
same_acquaintance n peer None = refl
same_acquaintance n peer (Some x) = refl
