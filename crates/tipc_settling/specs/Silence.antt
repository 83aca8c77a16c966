-- For how many ticks links are silent while nothing goes down.
use Rattle.std.specs.Prelude.{◌≡◌, ◌≤◌, ℕ, ◌+◌, Bool, true, List, ◌∷◌, ◌++◌, Option}
use Rattle.tipc_types.specs.declared.link_words.BroadcastState.{BroadcastState}
use Rattle.tipc_outside.specs.declared.outgoing.Outgoing.{Outgoing}
use Rattle.tipc_header.specs.declared.packet.Header.{Header}
use Rattle.tipc_header.specs.declared.packet.Header.TheVariants as header
use Rattle.tipc_header.specs.Spelling.{Fields}
use Rattle.tipc_pair.specs.Facing.{PairEnds, facing, is_up_at}
use Rattle.tipc_pair.specs.LinkReadings.{silence_in}
use Rattle.tipc_pair.specs.PairTurns.{Happened, IsOnOne, IsTakenBy, Opening, Outset, PairTurn, Reply}
use Rattle.tipc_pair.specs.PairTurns.Opening.{hears, ticks}
use Rattle.tipc_link.specs.Sessions.{SessionEnd, state_frame}
use Rattle.tipc_two_nodes.specs.Sights.{AreSeen, Sight, pair_seen}
use Rattle.tipc_settling.specs.Stillness.{AreHeard, Footing, IsStill, ShowsPresent}

-- for how many ticks more a link may be silent by what happens first in a turn
abbrev pub silence_by : Opening → ℕ
silence_by (ticks shown) = 1
silence_by other = 0

-- a link is silent for one tick more by a tick at most, and by nothing else
abbrev pub SilenceGrowsByTicks : Type 0
SilenceGrowsByTicks = (x x' : PairEnds) (opening : Opening) (messages : List (List ℕ)) (reply : Option Reply) (frames : List Outgoing) (bearer : ℕ)
    → x.bearer ≡ 0 → IsOnOne opening → PairTurn x opening messages reply x' frames
    → silence_in (facing bearer x').near ≤ silence_in (facing bearer x).near + silence_by opening

-- a packet by which a link is heard: an ACTIVATE, a STATE, or a numbered packet
abbrev pub IsWord : Header → Type 0
IsWord (header.Reset said) = ⊥
IsWord (header.Discovery said) = ⊥
IsWord other = Unit {0}

-- what ticks say of a link to a peer that is up: a STATE, or an ACTIVATE
abbrev pub IsSaidByTicks : Header → Type 0
IsSaidByTicks (header.State state) = Unit {0}
IsSaidByTicks (header.Activate said) = Unit {0}
IsSaidByTicks other = ⊥

-- A STATE or an ACTIVATE is taken by a link of a still pair that is up, where it shows what both nodes have at present.
abbrev pub WordsAreTaken : Type 0
WordsAreTaken = (own peer : Footing) (x : PairEnds) (bearer es er : ℕ) (p : Fields) (by : ℕ) (shown : BroadcastState) (o : Outset) → bearer ≤ 1
    → IsStill own peer x → ShowsPresent peer bearer es p → er ≡ own.epoch bearer → IsSaidByTicks p.header
    → is_up_at (facing bearer x).near ≡ true → Happened x (hears bearer es er p by shown) o → IsTakenBy (hears bearer es er p by shown) o.given

-- A link of a still pair on which a packet arrives by which it is heard, and which shows what its sender has at present and the present epoch of the receiver, isn't
-- silent then.
abbrev pub WordsEndSilence : Type 0
WordsEndSilence = (own peer : Footing) (x x' : PairEnds) (bearer es er : ℕ) (p : Fields) (by : ℕ) (shown : BroadcastState) (messages : List (List ℕ))
    (reply : Option Reply) (frames : List Outgoing) → x.bearer ≡ 0 → bearer ≤ 1 → IsStill own peer x → ShowsPresent peer bearer es p
    → er ≡ own.epoch bearer → IsWord p.header → PairTurn x (hears bearer es er p by shown) messages reply x' frames
    → silence_in (facing bearer x').near ≡ 0

-- among these frames is a STATE of a link, in a session of the present epochs of both nodes
pub record SaysState (own peer : Footing) (bearer : ℕ) (shown : BroadcastState) (frames : List Outgoing) : Type 0 where
  pub before : List Outgoing
  pub behind : List Outgoing
  pub session : SessionEnd
  pub probe : Bool
  pub frames_are : frames ≡ before ++ state_frame session shown probe ∷ behind
  pub bearer_is : session.bearer ≡ bearer
  pub epoch : session.epoch ≡ own.epoch bearer
  pub peer_epoch : session.peer_epoch ≡ peer.epoch bearer

-- At a tick a link of a still pair that is up, and was heard, says STATE.
abbrev pub TicksSayState : Type 0
TicksSayState = (v w : Sight) (own peer : Footing) (shown : BroadcastState) (messages : List (List ℕ)) (reply : Option Reply) (x : PairEnds)
    (frames : List Outgoing) (bearer : ℕ) → AreSeen v w → IsStill own peer (pair_seen v) → AreHeard (pair_seen v) → bearer ≤ 1
    → is_up_at (facing bearer (pair_seen v)).near ≡ true → PairTurn (pair_seen v) (ticks shown) messages reply x frames
    → SaysState own peer bearer shown frames
