-- Why a link goes down, as the journals, the arrivals and the air show it.
use Rattle.std.specs.Prelude.{◌≡◌, ◌⊎◌, ◌<◌, ◌^◌, ◌≤◌, ◌==◌, ℕ, ◌+◌, true, List, Option, None, Some, drop, if◌then◌else◌, option_and_then, slice_get, sum_by}
use Rattle.tipc_types.specs.declared.identity.Addr.{Addr}
use Rattle.tipc_types.specs.declared.link_words.Cause.{Cause}
use Rattle.tipc_types.specs.declared.link_words.Cause.TheVariants as cause
use Rattle.tipc_types.specs.declared.link_words.LinkState.{LinkState}
use Rattle.tipc_types.specs.declared.node_calls.Answer.TheVariants as answer
use Rattle.tipc_types.specs.declared.node_calls.Arrival.{Arrival}
use Rattle.tipc_types.specs.declared.node_calls.Arrival.TheVariants as arrival
use Rattle.tipc_types.specs.declared.node_calls.EventNote.{EventNote}
use Rattle.tipc_types.specs.declared.node_calls.EventNote.TheVariants as event
use Rattle.tipc_header.specs.declared.packet.Changeover.{Changeover}
use Rattle.tipc_header.specs.declared.packet.ChangeoverType.TheVariants.{Original}
use Rattle.tipc_header.specs.declared.packet.Header.TheVariants as header
use Rattle.tipc_header.specs.declared.frames.FrameKind.TheVariants.{Links}
use Rattle.tipc_header.specs.Frames.{frame_of, kind_in}
use Rattle.tipc_header.specs.Grammar.{Fits}
use Rattle.tipc_header.specs.Spelling.{Fields, spelling}
use Rattle.tipc_journal.specs.declared.entries.Entry.TheVariants as entry
use Rattle.tipc_journal.specs.Steps.{NodeStep, PlacedStep}
use Rattle.tipc_pair.specs.Facing.{other}
use Rattle.tipc_pair.specs.Contacts.{is_reset, shown_contact}
use Rattle.tipc_node.specs.Turns.{IsTakenIn}
use Rattle.tipc_replay.specs.declared.air.Arrived.{Arrived}
use Rattle.tipc_replay.specs.declared.air.Sent.{Sent}
use Rattle.tipc_replay.specs.Skies.{AirState, air_on}

-- ---- arrivals

-- every frame that was sent, and every frame that arrived at the node
pub record Seen : Type 0 where
  pub air : AirState
  pub arrivals : List Arrived

-- the frame by which this came to a node, where it came on that bearer
abbrev pub frame_in : AirState → ℕ → Arrived → Option Sent
frame_in air bearer x = if x.bearer == bearer then slice_get (air_on bearer air) x.frame else None

-- the frame of an arrival at the node, by the number of the arrival, where it came on that bearer
unfoldable pub arrived_frame : Seen → ℕ → ℕ → Option Sent
arrived_frame seen bearer number = option_and_then (frame_in seen.air bearer) (slice_get seen.arrivals number)

-- a step is the arrival of this frame, from this node, on a bearer
pub record IsArrivalOf (seen : Seen) (s : NodeStep) (bearer : ℕ) (f : Sent) (peer : Addr) : Type 0 where
  pub number : ℕ
  pub event_is : s.event ≡ event.Arrive bearer number
  pub frame_is : arrived_frame seen bearer number ≡ Some f
  pub from : f.from.word ≡ peer.word

-- a step is the arrival of a RESET of the peer with this epoch, on a bearer
pub record IsResetOf (seen : Seen) (s : NodeStep) (peer : Addr) (bearer epoch : ℕ) : Type 0 where
  pub frame : Sent
  pub arrives : IsArrivalOf seen s bearer frame peer
  pub packet : Fields
  pub other_epoch : ℕ
  pub epoch_fits : epoch < 2 ^ 64
  pub fits : Fits packet
  pub bytes : frame.frame ≡ frame_of epoch other_epoch (spelling packet)
  pub reset : is_reset packet.header ≡ true

-- a step is the arrival of a frame of the peer that shows this contact number, on one of the two bearers
pub record IsNumberOf (seen : Seen) (s : NodeStep) (peer : Addr) (number : ℕ) : Type 0 where
  pub bearer : ℕ
  pub frame : Sent
  pub arrives : IsArrivalOf seen s bearer frame peer
  pub packet : Fields
  pub epoch : ℕ
  pub other_epoch : ℕ
  pub fits : Fits packet
  pub bytes : frame.frame ≡ frame_of epoch other_epoch (spelling packet)
  pub shows : shown_contact packet.header ≡ Some number

-- A step is the arrival of a tunnel packet of the peer, on the bearer beside this one, and it took that: the packet is an original, which
-- names this bearer, and this epoch of the session that it is of.
pub record IsTunnelOf (seen : Seen) (s : NodeStep) (peer : Addr) (bearer epoch : ℕ) : Type 0 where
  pub frame : Sent
  pub arrives : IsArrivalOf seen s (other bearer) frame peer
  pub messages : ℕ
  pub answer_is : s.answer ≡ answer.Arrived (arrival.Took messages)
  pub packet : Fields
  pub first_epoch : ℕ
  pub second_epoch : ℕ
  pub fits : Fits packet
  pub bytes : frame.frame ≡ frame_of first_epoch second_epoch (spelling packet)
  pub tunnel : Changeover
  pub header_is : packet.header ≡ header.Changeover tunnel
  pub original : tunnel.changeover_type ≡ Original
  pub bearer_is : tunnel.old_bearer ≡ bearer
  pub epoch_is : tunnel.old_epoch ≡ epoch

-- ---- silence

-- 1 for a tick, and 0 for every other call
abbrev pub tick_of : EventNote → ℕ
tick_of event.Tick = 1
tick_of other = 0

-- how many of the steps are ticks
unfoldable pub ticks : List PlacedStep → ℕ
ticks made = sum_by (λ (s : PlacedStep). tick_of s.step.event) made

-- in a step the link to the peer on a bearer went up
pub record BringsUp (s : NodeStep) (peer : Addr) (bearer : ℕ) : Type 0 where
  pub place : ℕ
  pub own : ℕ
  pub theirs : ℕ
  pub entry_is : slice_get s.inside place ≡ Some (entry.LinkUp peer bearer own theirs)

-- a step is the arrival of a link packet of the peer on a bearer, which the link took, or deferred
pub record IsTakenFrom (seen : Seen) (s : NodeStep) (peer : Addr) (bearer : ℕ) : Type 0 where
  pub frame : Sent
  pub arrives : IsArrivalOf seen s bearer frame peer
  pub link : kind_in frame.frame ≡ Links
  pub answered : Arrival
  pub answer_is : s.answer ≡ answer.Arrived answered
  pub taken : IsTakenIn answered

-- At least so many ticks stand after each of these steps in which the link to the peer on a bearer went up or took a link packet of it.
abbrev pub HasTicked : Seen → List PlacedStep → Addr → ℕ → ℕ → Type 0
HasTicked seen made peer bearer least = (k : ℕ) (s : PlacedStep) → slice_get made k ≡ Some s
    → BringsUp s.step peer bearer ⊎ IsTakenFrom seen s.step peer bearer → least ≤ ticks (drop (k + 1) made)

-- ---- why a link goes down

-- In a step after these earlier ones, the link to the peer on a bearer, which went up under the peer's epoch theirs, may go down for this
-- cause, beside which the epoch that the peer showed is kept. A contact's end shows a number above the peer's number of the contact, the
-- second.
abbrev pub IsCaused : Seen → List PlacedStep → PlacedStep → Addr → ℕ → ℕ → Cause → ℕ → Type 0
IsCaused seen earlier s peer bearer theirs cause.Cut shown = s.step.event ≡ event.Cut bearer
IsCaused seen earlier s peer bearer theirs cause.Silent shown = (s.step.event ≡ event.Tick) × HasTicked seen earlier peer bearer 4
IsCaused seen earlier s peer bearer theirs cause.PeerReset shown = IsResetOf seen s.step peer bearer shown × (theirs < shown)
IsCaused seen earlier s peer bearer theirs cause.PeerTunnel shown = IsTunnelOf seen s.step peer bearer shown × (theirs ≡ shown)
IsCaused seen earlier s peer bearer theirs cause.ContactEnded shown =
    (place : ℕ) × (numbers : ℕ × ℕ) × (states : Option LinkState × Option LinkState) × (number : ℕ)
    × (slice_get s.step.inside place ≡ Some (entry.ContactDown peer numbers states number))
    × IsNumberOf seen s.step peer number × (numbers.1 < number)
