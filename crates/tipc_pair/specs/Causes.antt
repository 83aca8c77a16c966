-- Why a link of a pair goes down, and what is told of it, step by step at one link, the near one: what the step tells, and what
-- the link states were like before it.
use Rattle.std.specs.Prelude.{◌≡◌, ◌≢◌, ◌≤◌, ℕ, true, false, List, [], ◌∷◌, ◌++◌, Option, Some, if◌then◌else◌}
use Rattle.tipc_types.specs.LinkStates.{is_up}
use Rattle.tipc_types.specs.declared.link_words.BroadcastState.{BroadcastState}
use Rattle.tipc_types.specs.declared.link_words.Cause.{Cause}
use Rattle.tipc_types.specs.declared.link_words.Cause.TheVariants as cause
use Rattle.tipc_types.specs.declared.link_words.LinkState.{LinkState}
use Rattle.tipc_header.specs.declared.packet.ChangeoverType.TheVariants as kind
use Rattle.tipc_header.specs.declared.packet.Header.TheVariants as header
use Rattle.tipc_header.specs.declared.packet.Reset.{Reset}
use Rattle.tipc_header.specs.Spelling.{Fields}
use Rattle.tipc_link_fsm.specs.Table.{Fsm}
use Rattle.tipc_link.specs.Links.{LinkEnd}
use Rattle.tipc_pair.specs.declared.transitions.Transition.{Transition}
use Rattle.tipc_pair.specs.declared.transitions.Transition.TheVariants.{ContactDown, ContactUp, LinkDown, LinkUp}
use Rattle.tipc_pair.specs.Changeovers.{released, risen}
use Rattle.tipc_pair.specs.Facing.{PairEnds, facing, in_contact, is_up_at, turned}
use Rattle.tipc_pair.specs.PairArrivals.{met_near, reset_given, taken_down}
use Rattle.tipc_pair.specs.PairCalls.{cut_near, tick_near}
use Rattle.tipc_pair.specs.PairFacts.{IsPairOfEnds}

-- What is told where the near link goes down for this cause, and the peer's frame showed this epoch, or 0: that it did, and,
-- where the far link isn't up, that the contact ended, for which the peer showed no number.
pub data TellsFall (x : PairEnds) (because : Cause) (shown : ℕ) : List Transition → Type 0 where
  goes_on : is_up_at x.far ≡ true → TellsFall x because shown (LinkDown x.bearer because shown ∷ [])
  ends : (states : Option LinkState × Option LinkState) → is_up_at x.far ≡ false
      → TellsFall x because shown (LinkDown x.bearer because shown ∷ ContactDown (x.contact, x.seen) states 0 ∷ [])

-- The near link may go down so: it was up then, and its link states were like this. Else nothing is told.
pub data MayFall (x : PairEnds) (because : Cause) (shown : ℕ) (Like : Fsm → Type 0) : List Transition → Type 0 where
  stays : MayFall x because shown Like []
  falls : (e : LinkEnd) (changes : List Transition) → x.near ≡ Some e → is_up e.fsm.state ≡ true → Like e.fsm
      → TellsFall x because shown changes → MayFall x because shown Like changes

-- a bearer is cut
abbrev pub CutsTell : Type 0
CutsTell = (x : PairEnds) → MayFall x cause.Cut 0 (λ s. Unit {0}) (cut_near x).changes

-- a tick passes, and the peer wasn't heard for four ticks before it
abbrev pub TicksTell : Type 0
TicksTell = (x : PairEnds) (shown : BroadcastState) → MayFall x cause.Silent 0 (λ s. s.silent ≡ 4) (tick_near shown x).changes

-- A RESET of the peer arrives under this epoch, which is no lower than any that was taken, and not that of the link.
abbrev pub ResetsTell : Type 0
ResetsTell = (x : PairEnds) (es : ℕ) (shown : BroadcastState)
    → MayFall x cause.PeerReset es (λ s. (s.highest ≤ es) × (s.peer ≢ Some es))
    (reset_given es (is_up_at x.far) shown x x.near).course.changes

-- An original tunnel packet that the near link took speaks of the far link, which is up under just this epoch of the peer;
-- a duplicate takes nothing down.
abbrev pub TunnelsTell : Type 0
TunnelsTell = (x : PairEnds) (epoch : ℕ)
    → MayFall (turned x) cause.PeerTunnel epoch (λ s. s.peer ≡ Some epoch) (taken_down kind.Original epoch x).changes

-- a duplicate tunnel packet tells nothing of links
abbrev pub DuplicatesTell : Type 0
DuplicatesTell = (x : PairEnds) (epoch : ℕ) → (taken_down kind.Duplicate epoch x).changes ≡ []

-- a link that is up goes down with its contact
abbrev pub ended_on : ℕ → Option LinkEnd → List Transition
ended_on bearer end = if is_up_at end then LinkDown bearer cause.ContactEnded 0 ∷ [] else []

-- The peer shows a higher contact number: where there is a contact, its links go down with it, and it is told which number ended
-- it; and without a contact nothing is told.
abbrev pub NumbersTell : Type 0
NumbersTell = (x : PairEnds) (number : ℕ) → IsPairOfEnds x → in_contact x ≡ true
    → (states : Option LinkState × Option LinkState)
    × ((risen x number).changes ≡ (ended_on 0 (facing 0 x).near ++ ended_on 1 (facing 1 x).near)
    ++ ContactDown (x.contact, x.seen) states number ∷ [])

-- without contact a higher contact number tells nothing
abbrev pub NumbersAreNoted : Type 0
NumbersAreNoted = (x : PairEnds) (number : ℕ) → in_contact x ≡ false → (risen x number).changes ≡ []

-- an end that is held no longer tells nothing
abbrev pub ReleasesTell : Type 0
ReleasesTell = (x : PairEnds) → (released x).changes ≡ []

-- What a packet tells that is no RESET and is met by the near link: nothing, or that the link went up, and with it the contact
-- began where the far link isn't up. It takes no link down.
pub data MayRise (x : PairEnds) : List Transition → Type 0 where
  rests : MayRise x []
  rises : (own peer : ℕ) → is_up_at x.far ≡ true → MayRise x (LinkUp x.bearer own peer ∷ [])
  begins : (own peer : ℕ) → is_up_at x.far ≡ false
      → MayRise x (LinkUp x.bearer own peer ∷ ContactUp (x.contact, x.seen) ∷ [])

-- each packet that meets the near link and is no RESET tells nothing, or of a link that went up
abbrev pub MeetsTell : Type 0
MeetsTell = (x : PairEnds) (es er : ℕ) (p : Fields) (by : ℕ) (shown : BroadcastState)
    → ((said : Reset) → p.header ≡ header.Reset said → ⊥) → MayRise x (met_near es er p by shown x).course.changes
