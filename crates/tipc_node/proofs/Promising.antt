-- What always holds of a node says nothing of how many calls were promised their memory.
use Rattle.std.proofs.Common.{◌≡◌, ℕ, Result, Ok, Err, subst, sym}
use Rattle.std.specs.Prelude.{OnErr, OnOk}
use Rattle.tipc_node.specs.Nodes.{NodeState, promising}
use Rattle.tipc_node.specs.Sharing.{SharesNames}
use Rattle.tipc_node.specs.Telling.{IsTold}
use Rattle.tipc_node.specs.Turns.{AreCast}
use Rattle.tipc_node.proofs.Keeping.{Held}

promising_told : (n : NodeState) (calls : ℕ) → IsTold n → IsTold (promising n calls)
promising_told n calls h = record {
  whole = h.whole;
  links = h.links;
  nobody = h.nobody;
  alone = h.alone;
  below = h.below;
  sockets = record { told = h.sockets.told; sound = h.sockets.sound; boot = h.sockets.boot; reached = h.sockets.reached; unmade = h.sockets.unmade };
  licensed = h.licensed;
  answered = h.answered;
  fates = h.fates;
  full = h.full;
}

promising_shares : (n : NodeState) (calls : ℕ) → SharesNames n → SharesNames (promising n calls)
promising_shares n calls h = record {
  own_names = h.own_names;
  told = h.told;
  holds = h.holds;
  unused = record { later = h.unused.later; next = h.unused.next };
}

promising_cast : (n : NodeState) (calls : ℕ) → AreCast n → AreCast (promising n calls)
promising_cast n calls h = record { node = h.node; own = h.own; boot = h.boot; joined = h.joined; small = h.small; framed = h.framed }

-- where calls are promised, and where there is no memory for that
pub reserved_held : {T E : Type 0} (r : Result T E) (n n' : NodeState) (calls : ℕ) → OnOk r (n' ≡ promising n calls) → OnErr r (n' ≡ n) → Held n → Held n'
reserved_held (Ok x) n n' calls ok err held =
    subst Held (sym ok) (promising_told n calls held.0, held.1, held.2, promising_shares n calls held.3, held.4, promising_cast n calls held.5)
reserved_held (Err e) n n' calls ok err held = subst Held (sym err) held
