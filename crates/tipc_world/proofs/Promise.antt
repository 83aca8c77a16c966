-- What a world keeps is what is promised of it.
use Rattle.std.proofs.Common.{ℕ}
use Rattle.tipc_replay.specs.Replayed.{IsReplayed}
use Rattle.tipc_world.specs.Answered.{AreOrderly}
use Rattle.tipc_world.specs.Good.{IsGood}
use Rattle.tipc_world.specs.States.{WorldView}
use Rattle.tipc_world.proofs.calls.Merged.{orderly_merged}

pub is_good : {P : Type 0} (gives : P → ℕ → ℕ → ℕ → Type 0) (w : WorldView P) → IsReplayed w.state.members w.state.air → AreOrderly gives w.state.members w.state.stamps w.chooser → IsGood gives w
is_good gives w kept orderly = record { kept = kept; orderly = orderly; merged = orderly_merged gives w.state w.chooser kept.numbered orderly }
