-- Two nodes after any turns and restarts of either, in any order: what they come to from the beginning.
use Rattle.std.specs.Prelude.{◌<◌, ℕ, ◌+◌, ◌^◌, All, List, Option}
use Rattle.tipc_types.specs.Prefixes.{IsPrefixOf}
use Rattle.tipc_outside.specs.declared.outgoing.Outgoing.{Outgoing}
use Rattle.tipc_reassembly.specs.Slots.{packets_in}
use Rattle.tipc_pair.specs.Facing.{PairEnds}
use Rattle.tipc_pair.specs.PairTurns.{Opening, PairTurn, Reply, ShowsAtLast, ShowsIn}
use Rattle.tipc_pair.specs.Messages.{IsMessage, opened_in}
use Rattle.tipc_two_nodes.specs.Sights.{AreSeen, PairBecomes, IsNew, MayHappen, Restarts, Sight, pair_seen}

-- A step of v beside w: it takes a turn at its pair, whatever happens there first and whatever is put, or is restarted.
pub data Steps (v w : Sight) : Sight → Type 0 where
  turns : (v' : Sight) (opening : Opening) (messages : List (List ℕ)) (reply : Option Reply) (x : PairEnds)
      (frames : List Outgoing)
      → MayHappen v w opening → ShowsIn opening → ShowsAtLast reply → All (IsMessage v.node.own) messages
      → (t : PairTurn (pair_seen v) opening messages reply x frames)
      → PairBecomes v v' w x frames messages (packets_in (opened_in t.first.given)) → Steps v w v'
  restarts : (v' : Sight) → Restarts v v' → v.node.boot + 1 < 2 ^ 32 → Steps v w v'

-- the two nodes at the beginning, or after any steps of either
pub data AreReached : Sight → Sight → Type 0 where
  new : (v w : Sight) → IsNew v → IsNew w → AreReached v w
  here : (v w v' : Sight) → AreReached v w → Steps v w v' → AreReached v' w
  there : (v w w' : Sight) → AreReached v w → Steps w v w' → AreReached v w'

-- they are seen to talk
abbrev pub ReachedAreSeen : Type 0
ReachedAreSeen = (v w : Sight) → AreReached v w → AreSeen v w

-- and what either was given in a contact is a front of what the other put in it
abbrev pub ReachedAreFronts : Type 0
ReachedAreFronts = (v w : Sight) → AreReached v w → (own theirs : ℕ) → IsPrefixOf (v.given own theirs) (w.put theirs own)
