-- Two nodes between which nothing goes down: what each has for the other, what its pair knows of the other, and what may come then.
use Rattle.std.specs.Prelude.{◌≡◌, ◌<◌, ◌≤◌, ℕ, ◌||◌, Bool, true, false, List, Option, Some, None}
use Rattle.tipc_types.specs.LinkStates.{is_up}
use Rattle.tipc_types.specs.declared.node_calls.EventNote.{EventNote}
use Rattle.tipc_types.specs.declared.node_calls.EventNote.TheVariants.{Arrive, Cut, Tick}
use Rattle.tipc_header.specs.declared.frames.FrameKind.TheVariants.{Links}
use Rattle.tipc_header.specs.declared.packet.ChangeoverType.TheVariants as kind
use Rattle.tipc_header.specs.declared.packet.Header.{Header}
use Rattle.tipc_header.specs.declared.packet.Header.TheVariants as header
use Rattle.tipc_header.specs.Frames.{kind_in}
use Rattle.tipc_header.specs.Grammar.{Fits}
use Rattle.tipc_header.specs.Spelling.{Fields}
use Rattle.tipc_tunnel.specs.Tunnels.{Carries, Tunnelled}
use Rattle.tipc_link_fsm.specs.Table.{Fsm, is_held, is_reset_reset}
use Rattle.tipc_pair.specs.Facing.{PairEnds, other}
use Rattle.tipc_pair.specs.LinkReadings.{silence_in}
use Rattle.tipc_pair.specs.PairTurns.{Opening}
use Rattle.tipc_pair.specs.PairTurns.Opening.{cuts, hears, ticks}
use Rattle.tipc_paired.specs.Views.{fsm_in}
use Rattle.tipc_node.specs.Turns.{IsFrom}

-- ---- what a node has for a peer

-- The footing on which a node stands with a peer: its contact number, and by bearer its own epoch, or the one that its next link end there will
-- have; whether its link is up there; whether its end there answers, as one that knows the peer's present epoch; and whether no end there is held. And
-- whether it has seen the peer's contact number, and whether it had no contact.
pub record Footing : Type 0 where
  pub contact : ℕ
  pub epoch : ℕ → ℕ
  pub up : ℕ → Bool
  pub answers : ℕ → Bool
  pub free : ℕ → Bool
  pub sees : Bool
  pub alone : Bool

-- A link end answers an epoch of its peer: it knows it, and its link is up or it heard the peer's reset. What it sends shows that epoch then.
pub record AnswersTo (epoch : ℕ) (f : Fsm) : Type 0 where
  pub knows : f.peer ≡ Some epoch
  pub heard : (is_up f.state || is_reset_reset f.state) ≡ true

-- ---- what a pair keeps while nothing goes down

-- The link states of an end on a bearer, of a node that has seen this contact number of its peer: the node stands with the peer on the one
-- footing, and the peer with it on the other one.
pub record IsStillEnd (own peer : Footing) (seen bearer : ℕ) (f : Fsm) : Type 0 where
  -- its epoch is still the same, a link that was up is up, an end that answered answers, and one that wasn't held isn't
  pub epoch : f.own ≡ own.epoch bearer
  pub lasts : own.up bearer ≡ true → is_up f.state ≡ true
  pub answers : own.answers bearer ≡ true → AnswersTo (peer.epoch bearer) f
  pub free : own.free bearer ≡ true → is_held f.state ≡ false
  -- it took no epoch above that of the peer; a link is up with just that epoch; and an end that knows it has seen the peer's contact number
  pub no_higher : f.highest ≤ peer.epoch bearer
  pub up : is_up f.state ≡ true → f.peer ≡ Some (peer.epoch bearer)
  pub contact : f.peer ≡ Some (peer.epoch bearer) → seen ≡ peer.contact
  -- where the peer had no contact, an end that has seen its contact number knows no epoch but the present one
  pub present : peer.alone ≡ true → seen ≡ peer.contact → (epoch : ℕ) → f.peer ≡ Some epoch → epoch ≡ peer.epoch bearer

-- where no end is made, none was up, and the next one will be under the contact number
pub record HasNoEnd (own : Footing) (bearer : ℕ) : Type 0 where
  pub epoch : own.epoch bearer ≡ own.contact
  pub down : own.up bearer ≡ false
  pub unanswered : own.answers bearer ≡ false

-- an end on a bearer, made or not
abbrev pub IsStillAt : Footing → Footing → ℕ → ℕ → Option Fsm → Type 0
IsStillAt own peer seen bearer None = HasNoEnd own bearer
IsStillAt own peer seen bearer (Some f) = IsStillEnd own peer seen bearer f

-- A pair is still: its node stands with the peer on the one footing, as the peer with it on the other, and knows nothing of the peer that is above
-- that; where it had seen the peer's contact number, it still has.
pub record IsStill (own peer : Footing) (x : PairEnds) : Type 0 where
  pub two : x.bearer ≤ 1
  pub contact : x.contact ≡ own.contact
  pub seen : x.seen ≤ peer.contact
  pub sees : own.sees ≡ true → x.seen ≡ peer.contact
  pub near : IsStillAt own peer x.seen x.bearer (fsm_in x.near)
  pub far : IsStillAt own peer x.seen (other x.bearer) (fsm_in x.far)

-- ---- what may come

-- a RESET or an ACTIVATE shows this contact number of its sender
abbrev pub ShowsNumber : ℕ → Header → Type 0
ShowsNumber number (header.Reset said) = said.contact ≡ number
ShowsNumber number (header.Activate said) = said.contact ≡ number
ShowsNumber number other = Unit {0}

-- a packet that is an original tunnel packet names a session that its sender has ended
abbrev pub TellsEnded : Footing → Fields → Type 0
TellsEnded sender p = (t : Tunnelled) → Carries p t → t.kind ≡ kind.Original → t.old.epoch < sender.epoch t.old.bearer

-- A packet arrives on a bearer under this epoch of its sender, which stands on this footing: it is the present epoch, and so is the contact
-- number that the packet shows; and only ended sessions go on in tunnel packets.
pub record ShowsPresent (sender : Footing) (bearer es : ℕ) (p : Fields) : Type 0 where
  pub fits : Fits p
  pub epoch : es ≡ sender.epoch bearer
  pub number : ShowsNumber sender.contact p.header
  pub ended : TellsEnded sender p

-- a link of a pair that is up was silent for at most three ticks, on either bearer
pub record AreHeard (x : PairEnds) : Type 0 where
  pub near : silence_in x.near ≤ 3
  pub far : silence_in x.far ≤ 3

-- What may happen first in a turn: no bearer is cut; a tick passes only where both links were heard; and what is heard of the peer shows what that
-- has at present.
abbrev pub MayCome : Footing → PairEnds → Opening → Type 0
MayCome peer x (cuts bearer) = ⊥
MayCome peer x (ticks shown) = AreHeard x
MayCome peer x (hears bearer es er p by shown) = ShowsPresent peer bearer es p
MayCome peer x other = Unit {0}

-- the same of an event of a node and of its pair to node b: a frame that brings a link packet of b shows what b has at present
abbrev pub MayComeTo : Footing → ℕ → PairEnds → EventNote → List ℕ → Type 0
MayComeTo peer b x (Cut bearer) bytes = ⊥
MayComeTo peer b x Tick bytes = AreHeard x
MayComeTo peer b x (Arrive bearer by) bytes = (es er : ℕ) (p : Fields) → IsFrom b bytes es er p → kind_in bytes ≡ Links → ShowsPresent peer bearer es p
MayComeTo peer b x other bytes = Unit {0}
