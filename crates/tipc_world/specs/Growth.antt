-- A world only grows.
use Rattle.std.specs.Prelude.{ℕ}
use Rattle.tipc_types.specs.Prefixes.{IsPrefixOf}
use Rattle.tipc_replay.specs.Skies.{air_on}
use Rattle.tipc_replay.specs.States.{history_at}
use Rattle.tipc_world.specs.States.{WorldState}

-- every frame that was sent and everything that happened at a node stays, and what is new stands behind it
pub record Grows (old new : WorldState) : Type 0 where
  pub air : (bearer : ℕ) → IsPrefixOf (air_on bearer old.air) (air_on bearer new.air)
  pub histories : (n : ℕ) → IsPrefixOf (history_at old.members n) (history_at new.members n)
