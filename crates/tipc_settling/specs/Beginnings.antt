-- How stillness begins between two nodes that talk, and what comes into the air while it lasts.
use Rattle.std.specs.Prelude.{◌≡◌, ◌==◌, ◌<◌, ◌^◌, ℕ, ◌||◌, ◌&&◌, not, Bool, true, false, All, List, Option, Some, None, slice_get}
use Rattle.tipc_types.specs.LinkStates.{is_up}
use Rattle.tipc_outside.specs.declared.outgoing.Outgoing.{Outgoing}
use Rattle.tipc_header.specs.Frames.{frame_of, is_of_link}
use Rattle.tipc_header.specs.Grammar.{Fits}
use Rattle.tipc_header.specs.Spelling.{Fields, spelling}
use Rattle.tipc_link_fsm.specs.Table.{is_held, is_last, is_peer, is_reset_reset}
use Rattle.tipc_link.specs.Links.{LinkEnd, is_traffic}
use Rattle.tipc_pair.specs.Facing.{PairEnds, facing, in_contact, is_up_at}
use Rattle.tipc_pair.specs.PairTurns.{IsOnOne, MakesNew, Opening, PairTurn, Reply}
use Rattle.tipc_paired.specs.Views.{Frame, epoch_in, es_of}
use Rattle.tipc_two_nodes.specs.Sights.{AreSeen, Sight, pair_seen}
use Rattle.tipc_settling.specs.Stillness.{Footing, IsStill, MayCome, ShowsNumber}

-- ---- the footing of a moment

-- the own epoch of the node of a pair on a bearer, or the one that its next link end there will have
abbrev pub epoch_at : PairEnds → ℕ → ℕ
epoch_at x bearer = epoch_in x.contact (facing bearer x).near

-- whether a link end answers this epoch of its peer
abbrev pub is_answering : ℕ → Option LinkEnd → Bool
is_answering epoch None = false
is_answering epoch (Some e) = is_peer e.fsm.peer epoch && (is_up e.fsm.state || is_reset_reset e.fsm.state)

-- whether no end is held there
abbrev pub is_free_at : Option LinkEnd → Bool
is_free_at None = true
is_free_at (Some e) = not (is_held e.fsm.state)

-- the footing on which the node of the pair x stands with the node of the pair y, its peer
abbrev pub footing : PairEnds → PairEnds → Footing
footing x y = record {
  contact = x.contact;
  epoch = epoch_at x;
  up = λ bearer. is_up_at (facing bearer x).near;
  answers = λ bearer. is_answering (epoch_at y bearer) (facing bearer x).near;
  free = λ bearer. is_free_at (facing bearer x).near;
  sees = x.seen == y.contact;
  alone = not (in_contact x);
}

-- The footing of the node of a still pair as it stands now: with the links that came up meanwhile, the ends that
-- began to answer, and the contact number where it was seen meanwhile.
abbrev pub standing : Footing → Footing → PairEnds → Footing
standing own peer x = record {
  contact = own.contact;
  epoch = own.epoch;
  up = λ bearer. is_up_at (facing bearer x).near;
  answers = λ bearer. is_answering (peer.epoch bearer) (facing bearer x).near;
  free = λ bearer. is_free_at (facing bearer x).near;
  sees = x.seen == peer.contact;
  alone = own.alone;
}

-- ---- the begin

-- each link of v that is up is up with the present epoch of w's end
abbrev pub AreUpWithPresent : Sight → Sight → Type 0
AreUpWithPresent v w = (bearer : ℕ) (e : LinkEnd) → v.ends bearer ≡ Some e → is_up e.fsm.state ≡ true
    → (d : LinkEnd) × (w.ends bearer ≡ Some d) × (e.fsm.peer ≡ Some d.fsm.own)

-- no link end is at the last epoch of its boot
abbrev pub HasMoreEpochs : Sight → Type 0
HasMoreEpochs v = (bearer : ℕ) (e : LinkEnd) → v.ends bearer ≡ Some e → is_last e.fsm.own ≡ false

-- So a pair is still on the footing of that moment, be no link up, or be links up with what the peer has at present.
abbrev pub BeginsStill : Type 0
BeginsStill = (v w : Sight) → AreSeen v w → AreUpWithPresent v w → HasMoreEpochs w
    → IsStill (footing (pair_seen v) (pair_seen w)) (footing (pair_seen w) (pair_seen v)) (pair_seen v)

-- A still pair is still on the footing of now: what came up meanwhile stays up too.
abbrev pub StandsAnew : Type 0
StandsAnew = (own peer : Footing) (x : PairEnds) → IsStill own peer x → IsStill (standing own peer x) peer x

-- ---- what comes into the air

-- a RESET or an ACTIVATE in the air under the present epoch of its sender, which isn't the last of a boot, shows the sender's present contact number
abbrev pub ShowsPresentContact : Type 0
ShowsPresentContact = (v w : Sight) (place : ℕ) (f : Frame) (e : LinkEnd) (es er : ℕ) (p : Fields) → AreSeen v w → slice_get v.sent place ≡ Some f
    → v.ends f.bearer ≡ Some e → is_last e.fsm.own ≡ false → es < 2 ^ 64 → er < 2 ^ 64 → Fits p → f.bytes ≡ frame_of es er (spelling p)
    → es ≡ e.fsm.own → ShowsNumber v.node.contact p.header

-- a STATE or a numbered packet in the air under the present epoch of its sender's link end was sent by a link that is up
abbrev pub TrafficTellsUp : Type 0
TrafficTellsUp = (v w : Sight) (place : ℕ) (f : Frame) (e : LinkEnd) (es er : ℕ) (p : Fields) → AreSeen v w → slice_get v.sent place ≡ Some f
    → v.ends f.bearer ≡ Some e → es < 2 ^ 64 → er < 2 ^ 64 → Fits p → f.bytes ≡ frame_of es er (spelling p) → es ≡ e.fsm.own
    → is_traffic p.header ≡ true → is_up e.fsm.state ≡ true

-- Each frame of the links that leaves a still pair in a turn is under the present epoch of its node on its bearer.
abbrev pub SendsUnderPresent : Type 0
SendsUnderPresent = (v w : Sight) (own peer : Footing) (opening : Opening) (messages : List (List ℕ)) (reply : Option Reply) (x : PairEnds)
    (frames : List Outgoing) → AreSeen v w → IsStill own peer (pair_seen v) → IsOnOne opening → MakesNew (pair_seen v) opening
    → MayCome peer (pair_seen v) opening → PairTurn (pair_seen v) opening messages reply x frames
    → All (λ (o : Outgoing). is_of_link o.frame ≡ true → es_of o.frame ≡ own.epoch o.bearer) frames
