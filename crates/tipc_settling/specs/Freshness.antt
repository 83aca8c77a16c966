-- How many packets a link can number while frames arrive that were sent before: what they acknowledge was numbered by then, so at most a window more.
use Rattle.std.specs.Prelude.{◌≡◌, ◌<◌, ◌≤◌, ◌^◌, ℕ, ◌+◌, true, List, IfSome, Option, Some, length, slice_get}
use Rattle.tipc_types.specs.LinkStates.{is_up}
use Rattle.tipc_types.specs.Limits.{window_size}
use Rattle.tipc_types.specs.Position.{number_of}
use Rattle.tipc_outside.specs.declared.outgoing.Outgoing.{Outgoing}
use Rattle.tipc_header.specs.Frames.{frame_of}
use Rattle.tipc_header.specs.Grammar.{Fits}
use Rattle.tipc_header.specs.Spelling.{Fields, spelling}
use Rattle.tipc_send_window.specs.Sending.{Sending, acked_of}
use Rattle.tipc_link.specs.Links.{LinkEnd, is_traffic}
use Rattle.tipc_link.specs.Sessions.{SessionEnd}
use Rattle.tipc_pair.specs.Facing.{PairEnds, facing, other}
use Rattle.tipc_pair.specs.PairTurns.{IsOnOne, Opening, PairTurn, Reply}
use Rattle.tipc_pair.specs.PairTurns.Opening.{hears}
use Rattle.tipc_paired.specs.Views.{Frame, epoch_in}
use Rattle.tipc_two_nodes.specs.Sights.{AreSeen, Sight, pair_seen}

-- of the packets of a send window no more than so many were acknowledged, and at most a window's aren't
pub record IsAckedTo (most : ℕ) (w : Sending) : Type 0 where
  pub window : length w.unacked ≤ window_size
  pub below : length w.unacked ≤ w.numbered
  pub acked : acked_of w ≤ most

-- so it is with a link end, where its link is up
abbrev pub IsAckedEnd : ℕ → LinkEnd → Type 0
IsAckedEnd most e = is_up e.fsm.state ≡ true → (s : SessionEnd) → e.session ≡ Some s → IsAckedTo most s.sending

-- and with both ends of a pair, so many by bearer
pub record AreAckedTo (most : ℕ → ℕ) (x : PairEnds) : Type 0 where
  pub near : IfSome x.near (IsAckedEnd (most x.bearer))
  pub far : IfSome x.far (IsAckedEnd (most (other x.bearer)))

-- such a window has numbered at most a window's packets more
abbrev pub FewAreNumbered : Type 0
FewAreNumbered = (most : ℕ) (w : Sending) → IsAckedTo most w → w.numbered ≤ most + window_size

-- an acknowledgement that comes to this end is of no more than so many packets, and names one that was numbered not too long ago
pub record AcknowledgesTo (most : ℕ) (end : Option LinkEnd) (acknowledgement : ℕ) : Type 0 where
  pub told : ℕ
  pub told_is : acknowledgement ≡ number_of told
  pub no_more : told ≤ most
  pub lately : (e : LinkEnd) (s : SessionEnd) → end ≡ Some e → is_up e.fsm.state ≡ true → e.session ≡ Some s
      → (told ≤ s.sending.numbered) × (s.sending.numbered ≤ told + 32000)

-- so does a STATE or a numbered packet that is heard
abbrev pub MayAcknowledge : (ℕ → ℕ) → PairEnds → Opening → Type 0
MayAcknowledge most x (hears bearer es er p by shown) = is_traffic p.header ≡ true → AcknowledgesTo (most bearer) (facing bearer x).near p.acknowledgement
MayAcknowledge most x other = Unit {0}

-- a turn in which no more is acknowledged, whatever is numbered
abbrev pub TurnsAcknowledgeNoMore : Type 0
TurnsAcknowledgeNoMore = (most : ℕ → ℕ) (x x' : PairEnds) (opening : Opening) (messages : List (List ℕ)) (reply : Option Reply)
    (frames : List Outgoing) → x.bearer ≤ 1 → IsOnOne opening → MayAcknowledge most x opening → PairTurn x opening messages reply x' frames
    → AreAckedTo most x → AreAckedTo most x'

-- At any moment no more than what was numbered was acknowledged.
abbrev pub AckedIsNumbered : Type 0
AckedIsNumbered = (v w : Sight) → AreSeen v w
    → AreAckedTo (λ bearer. v.numbered bearer (epoch_in v.node.contact (v.ends bearer))) (pair_seen v)

-- A STATE or a numbered packet in the air of w acknowledges a packet of v that was numbered by now, and at most a window before what v had numbered
-- when the frame was sent.
abbrev pub AirAcknowledgesNumbered : Type 0
AirAcknowledgesNumbered = (v w : Sight) (place : ℕ) (f : Frame) (es er : ℕ) (p : Fields) → AreSeen v w → slice_get w.sent place ≡ Some f
    → es < 2 ^ 64 → er < 2 ^ 64 → Fits p → f.bytes ≡ frame_of es er (spelling p) → is_traffic p.header ≡ true
    → (told : ℕ) × (p.acknowledgement ≡ number_of told) × (told ≤ v.numbered f.bearer er) × (f.peer_numbered ≤ told + window_size)
