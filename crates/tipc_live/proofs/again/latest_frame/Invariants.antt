use Rattle.std.proofs.Common.{◌≤◌, ℕ}
use Rattle.tipc_live.specs.Again.{HasFrame}
use Rattle.tipc_live.proofs.again.latest_frame.Given as goal

abbrev pub invariant-loop-place : goal.invariant-loop-place
invariant-loop-place l = (k : ℕ) → l.place ≤ k → HasFrame l.replay.air l.n l.bearer l.bytes k → ⊥

abbrev pub decreases-loop-place : goal.decreases-loop-place
decreases-loop-place l = l.place
