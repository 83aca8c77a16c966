-- The laws of two links and their tunnels. Each is promised by a public function of the crate. b is the bearer of the
-- near link; e and f are sessions, p and q are places, and i is a plain packet.
use Rattle.std.specs.Prelude.{◌≡◌, ◌≢◌, ℕ, ◌+◌, ◌<◌, ◌≤◌, Bool, true, false, Some, Contains}
use Rattle.tipc_changeover.specs.Slots.{at, Plain, LinkSlot, Tunnel}
use Rattle.tipc_changeover.specs.Links.{seen, slots, Bearer, First, Held, Past, Reset, State}
use Rattle.tipc_changeover.specs.Events.{happened, session_told, window, Deferred, Event, IsNext, MayAct, MayOpen, Opening}
use Rattle.tipc_changeover.specs.Parts.{HoldsPlain, HoldsTunnel}
use Rattle.tipc_changeover.specs.Sound.{Sound}
use Rattle.tipc_changeover.specs.Distances.{Bounded}
use Rattle.tipc_changeover.specs.Reached.{IsFront, IsReached}

-- ---- what always holds

-- whatever happens at either link, two sound links stay sound
abbrev pub StaySound : Type 0
StaySound =
    (b : Bearer) (s : State) (event : Event) → Sound First s → MayAct b (seen b s) event →
    Sound First (happened b s event)

-- what is reached from the beginning of a contact is sound
abbrev pub ReachedAreSound : Type 0
ReachedAreSound = (s : State) → IsReached s → Sound First s

-- what is sound is so from either link
abbrev pub SoundFromEither : Type 0
SoundFromEither = (b : Bearer) (s : State) → Sound First s → Sound b (seen b s)

-- ---- what was taken

-- in what is reached from the beginning of a contact, what was taken is a front of what was put
abbrev pub ReachedTakeFront : Type 0
ReachedTakeFront = (s : State) → IsReached s → IsFront s

-- wherever two links are sound, what was taken is a front of what was put
abbrev pub SoundTakeFront : Type 0
SoundTakeFront = (s : State) → Sound First s → IsFront s

-- ---- a tunnel packet at the next place

-- no place before the one of which it speaks is missing from the record that it meets
abbrev pub NoneMissing : Type 0
NoneMissing =
    (b : Bearer) (s : State) (f q : ℕ) (full : Bool) → Sound b s → IsNext s (Tunnel f q full) →
    s.far_record.session ≤ f → q ≤ (session_told s.far_record f).taken + 1

-- it may be opened, and isn't deferred
abbrev pub IsOpened : Type 0
IsOpened =
    (b : Bearer) (s : State) (f q : ℕ) (full : Bool) → Sound b s → IsNext s (Tunnel f q full) → (o : Opening) ×
    MayOpen s.far.line s.far_record f q full o × (o ≢ Deferred)

-- ---- what a tunnel packet holds

-- a full tunnel packet, but for a marker, speaks of a place at which a plain packet stands
abbrev pub FullHoldsPlain : Type 0
FullHoldsPlain =
    (b : Bearer) (s : State) (p f q : ℕ) → Sound b s → at (slots s.near) p ≡ Some (Tunnel f q true) → 1 ≤ q →
    HoldsPlain s.far.line f q

-- a placeholder speaks of a place at which a tunnel packet stands, which itself speaks of an earlier place than that of
-- the placeholder
abbrev pub PlaceholderHoldsTunnel : Type 0
PlaceholderHoldsTunnel =
    (b : Bearer) (s : State) (p f q : ℕ) → Sound b s → at (slots s.near) p ≡ Some (Tunnel f q false) →
    HoldsTunnel s.far.line f q s.near.session p

-- ---- what an end has left

-- each place of the ended sessions of an end that isn't held is past
abbrev pub EndedArePast : Type 0
EndedArePast =
    (b : Bearer) (s : State) (e p : ℕ) (z : LinkSlot) → Sound b s → s.near.state ≢ Held → e < s.near.session →
    at (s.near.line e) p ≡ Some z → Past s.near_record e p

-- a plain packet whose place is past was taken
abbrev pub PastAreTaken : Type 0
PastAreTaken =
    (b : Bearer) (s : State) (e p i : ℕ) → Sound b s → at (s.near.line e) p ≡ Some (Plain i) →
    Past s.near_record e p → Contains s.delivered i

-- all plain packets of an end that is reset were taken
abbrev pub ResetAreTaken : Type 0
ResetAreTaken =
    (b : Bearer) (s : State) (e p i : ℕ) → Sound b s → s.near.state ≡ Reset →
    at (s.near.line e) p ≡ Some (Plain i) → Contains s.delivered i

-- ---- how near places are

-- whatever happens at either link, the places of two sound links stay near
abbrev pub StayBounded : Type 0
StayBounded =
    (b : Bearer) (s : State) (event : Event) → Sound First s → Bounded s → MayAct b (seen b s) event →
    Bounded (happened b s event)

-- what is reached from the beginning of a contact has its places near
abbrev pub ReachedAreBounded : Type 0
ReachedAreBounded = (s : State) → IsReached s → Bounded s

-- places that are near are so seen from either link
abbrev pub BoundedFromEither : Type 0
BoundedFromEither = (b : Bearer) (s : State) → Bounded s → Bounded (seen b s)

-- what has a number in the record's session is at most a window beyond what was taken
abbrev pub FramesAreNear : Type 0
FramesAreNear =
    (b : Bearer) (s : State) (p : ℕ) (z : LinkSlot) → Bounded s → at (s.near.line s.near_record.session) p ≡ Some z →
    p ≤ s.near_record.taken + window

-- the place of which the tunnel packet at the next place speaks is less than a window behind what was taken of its
-- session
abbrev pub TunnelsAreNear : Type 0
TunnelsAreNear =
    (b : Bearer) (s : State) (f q : ℕ) (full : Bool) → Sound b s → Bounded s → IsNext s (Tunnel f q full) → 1 ≤ q →
    s.far_record.session ≤ f → (session_told s.far_record f).taken < q + window
