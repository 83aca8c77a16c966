-- How the counts of a world hang together.
use Rattle.std.specs.Prelude.{◌≡◌, ◌≤◌, ℕ, ◌+◌, List, Option, Some, None, slice_index_or}
use Rattle.tipc_replay.specs.States.{MemberState}

-- no more calls are recorded than events have happened, nor more restarts of a node
pub record IsSteady (members : List (Option MemberState)) (events stamps : ℕ) : Type 0 where
  pub calls : stamps ≤ events
  pub few : events ≤ 300000
  pub boots : (n : ℕ) (m : MemberState) → slice_index_or members n None ≡ Some m → m.node.boot ≤ events + 1
