-- Nothing goes down: what each thing that may come makes of a link end and of a pair.
use Rattle.std.specs.Prelude.{◌≡◌, ◌≢◌, ◌≤◌, ℕ, Bool, true, false, List, [], Option}
use Rattle.tipc_types.specs.LinkStates.{is_up}
use Rattle.tipc_outside.specs.declared.outgoing.Outgoing.{Outgoing}
use Rattle.tipc_link_fsm.specs.Table.{Fsm, Outcome, forget_peer, on_activate, on_peer_tunnel, on_reset, on_tick, on_traffic, release}
use Rattle.tipc_link.specs.Links.{is_down}
use Rattle.tipc_pair.specs.Facing.{PairEnds}
use Rattle.tipc_pair.specs.PairTurns.{IsOnOne, MakesNew, Opening, PairTurn, Reply}
use Rattle.tipc_pair.specs.PairTurns.Opening.{hears}
use Rattle.tipc_settling.specs.Stillness.{Footing, IsStill, IsStillEnd, MayCome}

-- ---- a link end

-- a call leaves an end still, and it doesn't go down
pub record StaysStill (own peer : Footing) (seen bearer : ℕ) (o : Outcome) : Type 0 where
  pub still : IsStillEnd own peer seen bearer o.after
  pub up : is_down o.change ≡ false

-- a RESET or an ACTIVATE under the peer's present epoch, when its contact number was seen
abbrev pub ResetsAreHarmless : Type 0
ResetsAreHarmless = (own peer : Footing) (seen bearer es : ℕ) (held : Bool) (f : Fsm) → IsStillEnd own peer seen bearer f → es ≡ peer.epoch bearer
    → seen ≡ peer.contact → StaysStill own peer seen bearer (on_reset f es held)

abbrev pub ActivatesAreHarmless : Type 0
ActivatesAreHarmless = (own peer : Footing) (seen bearer es er : ℕ) (f : Fsm) → IsStillEnd own peer seen bearer f → es ≡ peer.epoch bearer
    → seen ≡ peer.contact → StaysStill own peer seen bearer (on_activate f es er)

-- a STATE or a numbered packet under the peer's present epoch
abbrev pub TrafficIsHarmless : Type 0
TrafficIsHarmless = (own peer : Footing) (seen bearer es er : ℕ) (f : Fsm) → IsStillEnd own peer seen bearer f → es ≡ peer.epoch bearer
    → StaysStill own peer seen bearer (on_traffic f es er)

-- a tick, where the link was silent for at most three
abbrev pub TicksAreHarmless : Type 0
TicksAreHarmless = (own peer : Footing) (seen bearer : ℕ) (held : Bool) (f : Fsm) → IsStillEnd own peer seen bearer f
    → (is_up f.state ≡ true → f.silent ≤ 3) → StaysStill own peer seen bearer (on_tick f held)

-- an original tunnel packet on the other link, which names another epoch than the present one
abbrev pub TunnelsAreHarmless : Type 0
TunnelsAreHarmless = (own peer : Footing) (seen bearer epoch : ℕ) (f : Fsm) → IsStillEnd own peer seen bearer f → epoch ≢ peer.epoch bearer
    → StaysStill own peer seen bearer (on_peer_tunnel f epoch)

-- a held end is released
abbrev pub ReleasesAreHarmless : Type 0
ReleasesAreHarmless = (own peer : Footing) (seen bearer : ℕ) (f : Fsm) → IsStillEnd own peer seen bearer f → StaysStill own peer seen bearer (release f)

-- the peer's contact number is seen for the first time: the end was down, and knows no epoch of the peer then
abbrev pub NumbersAreHarmless : Type 0
NumbersAreHarmless = (own peer : Footing) (seen bearer : ℕ) (f : Fsm) → IsStillEnd own peer seen bearer f → (seen ≡ peer.contact → ⊥)
    → StaysStill own peer peer.contact bearer (forget_peer f)

-- ---- a pair

-- a whole turn of a pair: what may happen, messages that are put, and the answer
abbrev pub TurnsStayStill : Type 0
TurnsStayStill = (own peer : Footing) (x x' : PairEnds) (opening : Opening) (messages : List (List ℕ)) (reply : Option Reply) (frames : List Outgoing)
    → x.bearer ≡ 0 → IsOnOne opening → MakesNew x opening → MayCome peer x opening → PairTurn x opening messages reply x' frames
    → IsStill own peer x → IsStill own peer x'

-- what is heard is heard on a link that was up
abbrev pub ComesToUp : Footing → Opening → Type 0
ComesToUp own (hears bearer es er p by shown) = own.up bearer ≡ true
ComesToUp own other = Unit {0}

-- a turn in which only links hear that are up tells nothing of links and contact
abbrev pub TurnsTellNothing : Type 0
TurnsTellNothing = (own peer : Footing) (x x' : PairEnds) (opening : Opening) (messages : List (List ℕ)) (reply : Option Reply) (frames : List Outgoing)
    → x.bearer ≡ 0 → IsOnOne opening → MakesNew x opening → MayCome peer x opening → ComesToUp own opening
    → (t : PairTurn x opening messages reply x' frames) → IsStill own peer x → t.first.course.changes ≡ []
