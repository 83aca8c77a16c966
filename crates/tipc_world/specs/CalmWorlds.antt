-- A poised world that settles: nothing goes down in it, and nothing goes up.
use Rattle.std.specs.Prelude.{◌≡◌, ◌≢◌, ◌≤◌, ℕ, true}
use Rattle.tipc_pair.specs.Facing.{PairEnds, facing, is_up_at}
use Rattle.tipc_settling.specs.Stillness.{Footing, IsStill}
use Rattle.tipc_node.specs.Nodes.{pair_with}
use Rattle.tipc_replay.specs.declared.air.Sent.{Sent}
use Rattle.tipc_replay.specs.Air.{goes}
use Rattle.tipc_replay.specs.Sound.{IsNumber}
use Rattle.tipc_replay.specs.States.{MemberState, is_mended_at}
use Rattle.tipc_world.specs.Ends.{ends_of}
use Rattle.tipc_world.specs.RoundParts.{Guards}
use Rattle.tipc_world.specs.States.{WorldState}
use Rattle.tipc_world.specs.StillWorlds.{IsUpToDate, footing_at}

-- a pair is calm since a call began: it is still, and each of its links is up just where it was
pub record IsCalmPair (own peer : Footing) (x : PairEnds) : Type 0 where
  pub still : IsStill own peer x
  pub ups : (bearer : ℕ) → bearer ≤ 1 → is_up_at (facing bearer x).near ≡ own.up bearer

-- node n is calm with each other one
abbrev pub IsCalmNode : WorldState → ℕ → MemberState → Type 0
IsCalmNode start n m = (b : ℕ) → IsNumber b → n ≢ b → IsCalmPair (footing_at start n b) (footing_at start b n) (pair_with m.node b)

-- a frame of the links is up to date with its sender when the call began, and the bearer was mended there
pub record IsSaidBy (start : WorldState) (bearer : ℕ) (f : Sent) (s d : ℕ) : Type 0 where
  pub present : IsUpToDate (footing_at start s d) bearer f.frame
  pub mended : is_mended_at start.members s bearer ≡ true

abbrev pub IsFromMended : WorldState → ℕ → Sent → Type 0
IsFromMended start bearer f = (s d : ℕ) → IsNumber s → IsNumber d → s ≢ d → goes s d f ≡ true → IsSaidBy start bearer f s d

-- A world is calm since a call began: it goes on from there, each two nodes are calm, and so says each frame that was
-- sent since.
abbrev pub IsCalmWorld : WorldState → WorldState → Type 0
IsCalmWorld start w = Guards start (ends_of start.air) (IsCalmNode start) (IsFromMended start) w
