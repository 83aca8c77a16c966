-- A world in which nothing goes down since a call began: what is so of each two nodes, and of each frame that was sent
-- since.
use Rattle.std.specs.Prelude.{◌≡◌, ◌≢◌, ℕ, true, List}
use Rattle.tipc_header.specs.Frames.{frame_of}
use Rattle.tipc_header.specs.Grammar.{Fits}
use Rattle.tipc_header.specs.Spelling.{Fields, spelling}
use Rattle.tipc_paired.specs.Views.{es_of}
use Rattle.tipc_two_nodes.specs.Sights.{pair_seen}
use Rattle.tipc_settling.specs.Beginnings.{AreUpWithPresent, footing}
use Rattle.tipc_settling.specs.Stillness.{AreHeard, Footing, IsStill, TellsEnded}
use Rattle.tipc_node.specs.Nodes.{pair_with}
use Rattle.tipc_replay.specs.declared.air.Sent.{Sent}
use Rattle.tipc_replay.specs.Air.{goes}
use Rattle.tipc_replay.specs.Sound.{IsNumber}
use Rattle.tipc_replay.specs.States.{MemberState}
use Rattle.tipc_replay.specs.Views.{sight_at}
use Rattle.tipc_world.specs.Ends.{ends_of}
use Rattle.tipc_world.specs.RoundParts.{Guards}
use Rattle.tipc_world.specs.States.{WorldState}

-- the footing on which node a stood with node b when a call began
abbrev pub footing_at : WorldState → ℕ → ℕ → Footing
footing_at start a b = footing (pair_seen (sight_at start.members start.air a b)) (pair_seen (sight_at start.members start.air b a))

-- Stillness can begin in a world: each link that is up is up with what the peer has at present.
abbrev pub MayBeStill : WorldState → Type 0
MayBeStill start =
    (a b : ℕ) → IsNumber a → IsNumber b → a ≢ b → AreUpWithPresent (sight_at start.members start.air a b) (sight_at start.members start.air b a)

-- node n is still with each other one
abbrev pub IsStillNode : WorldState → ℕ → MemberState → Type 0
IsStillNode start n m = (b : ℕ) → IsNumber b → n ≢ b → IsStill (footing_at start n b) (footing_at start b n) (pair_with m.node b)

-- a node heard each other one in the last ticks
abbrev pub HasHeardAll : ℕ → MemberState → Type 0
HasHeardAll n m = (b : ℕ) → IsNumber b → n ≢ b → AreHeard (pair_with m.node b)

-- where a frame brings an original tunnel packet, that names a session that its sender, who stands on this footing, has
-- ended
abbrev pub FrameTellsEnded : Footing → List ℕ → Type 0
FrameTellsEnded sender bytes = (es er : ℕ) (p : Fields) → Fits p → bytes ≡ frame_of es er (spelling p) → TellsEnded sender p

-- a frame is up to date: it is under the epoch that its sender had on its bearer when a call began, and brings ended
-- sessions alone
pub record IsUpToDate (sender : Footing) (bearer : ℕ) (bytes : List ℕ) : Type 0 where
  pub epoch : es_of bytes ≡ sender.epoch bearer
  pub ended : FrameTellsEnded sender bytes

-- so is each frame of the links from one node to another one
abbrev pub IsUnderPresent : WorldState → ℕ → Sent → Type 0
IsUnderPresent start bearer f = (s d : ℕ) → IsNumber s → IsNumber d → s ≢ d → goes s d f ≡ true → IsUpToDate (footing_at start s d) bearer f.frame

-- A world is still since a call began: it goes on from there, each two nodes are still, and each frame that was sent
-- since shows what its sender has at present.
abbrev pub IsStillWorld : WorldState → WorldState → Type 0
IsStillWorld start w = Guards start (ends_of start.air) (IsStillNode start) (IsUnderPresent start) w
