-- What a world is, as its contracts see it.
use Rattle.std.specs.Prelude.{ℕ, Bool, false, List, [], Option, None, is_some, slice_index_or}
use Rattle.tipc_pick.specs.Choosing.{Choosing}
use Rattle.tipc_replay.specs.Skies.{AirState, empty_air}
use Rattle.tipc_replay.specs.States.{MemberState}

-- a world: its nodes by number, every frame that was ever sent, how many events happened, how many calls were recorded,
-- and whether a frame was lost for want of memory
pub record WorldState : Type 0 where
  pub members : List (Option MemberState)
  pub air : AirState
  pub events : ℕ
  pub stamps : ℕ
  pub lost : Bool

-- a world and the chooser that its messages by name are sent with
pub record WorldView (P : Type 0) : Type 0 where
  pub state : WorldState
  pub chooser : Choosing P

-- a world without nodes, in which nothing has happened
abbrev pub no_nodes : WorldState
no_nodes = record { members = []; air = empty_air; events = 0; stamps = 0; lost = false }

-- whether node n is there
abbrev pub is_there : WorldState → ℕ → Bool
is_there w n = is_some (slice_index_or w.members n None)
