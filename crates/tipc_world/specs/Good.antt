-- What is promised of every world.
use Rattle.std.specs.Prelude.{ℕ}
use Rattle.tipc_replay.specs.Replayed.{IsReplayed}
use Rattle.tipc_world.specs.Answered.{AreOrderly}
use Rattle.tipc_world.specs.Merged.{merged, AreMerged}
use Rattle.tipc_world.specs.States.{WorldView}

-- What is always true of a world that sends messages by name as its pick gives: the promises of this project.
pub record IsGood {P : Type 0} (gives : P → ℕ → ℕ → ℕ → Type 0) (w : WorldView P) : Type 0 where
  -- What is true of its nodes and its air whatever happens to them: all promises that speak of no chooser and of no
  -- count of stamps.
  pub kept : IsReplayed w.state.members w.state.air
  -- For each node and each of its boots: calls are counted and stamped; and each message by name went to the match that
  -- the pick gives for its turn, which is how many were sent so before, at all nodes.
  pub orderly : AreOrderly gives w.state.members w.state.stamps w.chooser
  -- The calls of all nodes in order of their stamps are just the steps of all journals, each with its answer: as many
  -- as were recorded, each at the place of its stamp.
  pub merged : AreMerged w.state.members w.state.stamps (merged w.state)
