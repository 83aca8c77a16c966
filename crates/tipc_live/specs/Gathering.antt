-- What is gathered of a run.
use Rattle.std.specs.Prelude.{List, []}
use Rattle.tipc_node_lock.specs.Locked.{LockedState}
use Rattle.tipc_replay.specs.States.{ReplayState, empty_replay}

-- the nodes of a run with their passes in them, the replay of their audit, and the bearers
pub record GatheredState (P B : Type 0) : Type 0 where
  pub nodes : List (LockedState P)
  pub replay : ReplayState
  pub bearers : List B

-- nothing yet
abbrev pub nothing_gathered : {P B : Type 0} → GatheredState P B
nothing_gathered = record { nodes = []; replay = empty_replay; bearers = [] }
