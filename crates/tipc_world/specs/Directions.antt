-- One direction of a link between two nodes of a world: what its sender and its receiver have of a packet, by the
-- packet's position in the session.
use Rattle.std.specs.Prelude.{◌≡◌, ◌+◌, ◌≤◌, ◌<◌, ℕ, true, List, None, Some, slice_get, slice_index_or}
use Rattle.tipc_types.specs.Position.{number_of}
use Rattle.tipc_header.specs.declared.frames.FrameKind.TheVariants.{Links}
use Rattle.tipc_header.specs.Frames.{kind_in}
use Rattle.tipc_header.specs.Spelling.{Fields}
use Rattle.tipc_send_window.specs.Sending.{acked_of}
use Rattle.tipc_link.specs.Sessions.{Carries, SessionEnd, content_of}
use Rattle.tipc_node.specs.Turns.{IsFrom}
use Rattle.tipc_settling.specs.Repairs.{session_with}
use Rattle.tipc_replay.specs.declared.air.Sent.{Sent}
use Rattle.tipc_replay.specs.Air.{goes}
use Rattle.tipc_replay.specs.Skies.{air_on}
use Rattle.tipc_replay.specs.States.{MemberState}
use Rattle.tipc_world.specs.declared.places.Places.{Places}
use Rattle.tipc_world.specs.Ends.{place_on}
use Rattle.tipc_world.specs.States.{WorldState}
use Rattle.tipc_world.specs.StillWorlds.{footing_at}

-- a node's link to node b on a bearer is up in a session that is so
abbrev pub IsInSession : (SessionEnd → Type 0) → ℕ → ℕ → MemberState → Type 0
IsInSession P b bearer m = (s : SessionEnd) × (session_with m.node b bearer ≡ Some s) × P s

-- node a is there, and its link to node b on a bearer is up in such a session
abbrev pub StandsIn : WorldState → (SessionEnd → Type 0) → ℕ → ℕ → ℕ → Type 0
StandsIn w P a b bearer = (m : MemberState) × (slice_index_or w.members a None ≡ Some m) × IsInSession P b bearer m

-- ---- at the sender

-- the packet at a position was numbered
abbrev pub WasNumbered : ℕ → SessionEnd → Type 0
WasNumbered position s = position ≤ s.sending.numbered

-- it was, and is the first that isn't acknowledged, or was acknowledged
pub record IsAwaited (position : ℕ) (s : SessionEnd) : Type 0 where
  pub numbered : position ≤ s.sending.numbered
  pub first : position ≤ acked_of s.sending + 1

-- it was acknowledged, so it is released
abbrev pub IsReleased : ℕ → SessionEnd → Type 0
IsReleased position s = position ≤ acked_of s.sending

-- ---- at the receiver

-- the packet at a position was taken
abbrev pub WasTaken : ℕ → SessionEnd → Type 0
WasTaken position r = position ≤ r.taken

-- the peer has shown that it numbered it
abbrev pub HasBeenShown : ℕ → SessionEnd → Type 0
HasBeenShown position r = position < r.shown

-- ---- between them

-- A frame of node a to node b carries the packet at a position, under the epochs that both had on the bearer when the
-- call began.
pub record BringsPacket (start : WorldState) (a b bearer position : ℕ) (f : Sent) : Type 0 where
  pub packet : Fields
  pub from : IsFrom a f.frame ((footing_at start a b).epoch bearer) ((footing_at start b a).epoch bearer) packet
  pub kind : kind_in f.frame ≡ Links
  pub goes_there : goes a b f ≡ true
  pub bytes : List ℕ
  pub carries : content_of packet ≡ Carries (number_of position) bytes

-- such a frame stands in the air, at or behind these places
pub record IsOnItsWay (start : WorldState) (places : Places) (w : WorldState) (a b bearer position : ℕ) : Type 0 where
  pub place : ℕ
  pub behind : place_on bearer places ≤ place
  pub frame : Sent
  pub there : slice_get (air_on bearer w.air) place ≡ Some frame
  pub brings : BringsPacket start a b bearer position frame
