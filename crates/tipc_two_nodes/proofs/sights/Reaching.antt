-- Two nodes are seen to talk after any turns and restarts of either.
use Rattle.tipc_two_nodes.specs.Reaching.{ReachedAreFronts, ReachedAreSeen, Steps, here, new, restarts, there, turns}
use Rattle.tipc_two_nodes.specs.Sights.{AreSeen, Sight}
use Rattle.tipc_two_nodes.proofs.sights.Sights.{front, restarted, starts, turned, turns as turns_seen}

steps_seen : (v w v' : Sight) → AreSeen v w → Steps v w v' → AreSeen v' w
steps_seen v w _ h (turns v' opening messages reply x frames may shows last are t goes) = turns_seen v v' w opening messages reply x frames h may shows last are t goes
steps_seen v w _ h (restarts v' again few) = restarted v v' w h again few

pub reached : ReachedAreSeen
reached _ _ (new v w first second) = starts v w first second
reached _ _ (here v w v' before step) = steps_seen v w v' (reached v w before) step
reached _ _ (there v w w' before step) = turned w' v (steps_seen w v w' (turned v w (reached v w before)) step)

pub reached_fronts : ReachedAreFronts
reached_fronts v w h = front v w (reached v w h)
