-- A world in which links come up since a call began: no link goes down, and each link that is up is answered.
use Rattle.std.specs.Prelude.{◌≡◌, ◌≢◌, ◌≤◌, ℕ, true, None, Some, slice_get, slice_index_or}
use Rattle.tipc_outside.specs.declared.outgoing.Outgoing.{Outgoing}
use Rattle.tipc_pair.specs.Facing.{PairEnds, facing, is_up_at}
use Rattle.tipc_pair.specs.LinkReadings.{silence_in}
use Rattle.tipc_settling.specs.Rises.{AnswersAt, ShowsAnswering}
use Rattle.tipc_settling.specs.Stillness.{Footing, IsStill}
use Rattle.tipc_node.specs.Nodes.{pair_with}
use Rattle.tipc_replay.specs.declared.air.Sent.{Sent}
use Rattle.tipc_replay.specs.Air.{goes}
use Rattle.tipc_replay.specs.Skies.{air_on}
use Rattle.tipc_replay.specs.Sound.{IsNumber}
use Rattle.tipc_replay.specs.States.{MemberState, is_mended_at}
use Rattle.tipc_world.specs.CalmWorlds.{IsFromMended}
use Rattle.tipc_world.specs.Ends.{ends_of, place_on}
use Rattle.tipc_world.specs.RoundParts.{Guards}
use Rattle.tipc_world.specs.States.{WorldState}
use Rattle.tipc_world.specs.StillWorlds.{footing_at}

-- no link of a pair was silent for more than so many ticks
abbrev pub IsSilentFor : ℕ → PairEnds → Type 0
IsSilentFor most x = (bearer : ℕ) → bearer ≤ 1 → silence_in (facing bearer x).near ≤ most

-- so it is at node n with each other one
abbrev pub AreSilentFor : ℕ → ℕ → MemberState → Type 0
AreSilentFor most n m = (b : ℕ) → IsNumber b → n ≢ b → IsSilentFor most (pair_with m.node b)

-- a pair is still, and no link of it was silent for more than so many ticks
pub record IsRisingPair (own peer : Footing) (most : ℕ) (x : PairEnds) : Type 0 where
  pub still : IsStill own peer x
  pub silent : IsSilentFor most x

-- node n is so with each other one
abbrev pub IsRisingNode : WorldState → ℕ → ℕ → MemberState → Type 0
IsRisingNode start most n m = (b : ℕ) → IsNumber b → n ≢ b → IsRisingPair (footing_at start n b) (footing_at start b n) most (pair_with m.node b)

-- A world rises since a call began: it goes on from there, each two nodes are still and weren't silent for long, and
-- each frame that was sent since shows what its sender has at present, and was sent on a mended bearer.
abbrev pub IsRisingWorld : WorldState → ℕ → WorldState → Type 0
IsRisingWorld start most w = Guards start (ends_of start.air) (IsRisingNode start most) (IsFromMended start) w

-- a frame of the air as it left
abbrev pub left_as : ℕ → Sent → Outgoing
left_as bearer f = record { bearer = bearer; to = f.to; frame = f.frame }

-- Each link that is up is answered by the other end, and its bearer is mended there. And of each frame that was sent
-- since the call began, and is an ACTIVATE that shows the present epoch of its receiver, the end of its sender answers
-- that.
pub record AreUpsAnswered (start w : WorldState) : Type 0 where
  pub ups : (a b bearer : ℕ) (m k : MemberState) → slice_index_or w.members a None ≡ Some m → slice_index_or w.members b None ≡ Some k → a ≢ b → bearer ≤ 1
      → is_up_at (facing bearer (pair_with m.node b)).near ≡ true
      → AnswersAt ((footing_at start a b).epoch bearer) (facing bearer (pair_with k.node a)).near
  pub mended : (a b bearer : ℕ) (m : MemberState) → slice_index_or w.members a None ≡ Some m → IsNumber b → a ≢ b → bearer ≤ 1
      → is_up_at (facing bearer (pair_with m.node b)).near ≡ true → is_mended_at start.members b bearer ≡ true
  pub told : (bearer place : ℕ) (f : Sent) (s d : ℕ) (k : MemberState) → bearer ≤ 1 → place_on bearer (ends_of start.air) ≤ place
      → slice_get (air_on bearer w.air) place ≡ Some f → goes s d f ≡ true → IsNumber d → s ≢ d → slice_index_or w.members s None ≡ Some k
      → ShowsAnswering (footing_at start d s) (pair_with k.node d) (left_as bearer f)
