-- The parts of what always holds of two links and their tunnels. Each speaks of one link, here by its bearer b, its
-- end x (or its lines x) and its record r, and where it must of the other link, by its end y and its record t; what
-- holds of two links has each part both ways. In all of them e and f are sessions, p and q are places, and i and j
-- are plain packets.
use Rattle.std.specs.Prelude.{◌≡◌, ◌≢◌, ℕ, ◌+◌, ◌-◌, ◌<◌, ◌≤◌, ◌⊎◌, Bool, true, false, List, [], Some, length}
use Rattle.tipc_changeover.specs.Slots.{at, counted, plains, Plain, LinkSlot, Tunnel}
use Rattle.tipc_changeover.specs.Links.{front, leads, slots, Bearer, First, Held, Past, Receiver, Reset, Sender, Tunnels, TunnelsBefore, TunnelsLive, Up}

-- Ends: the record is of a session that has begun, and of an ended one where the end is held; just real places are
-- taken, and just taken ones are acknowledged; an end that isn't up has nothing in its present session.
pub record Ends (x : Sender) (r : Receiver) : Type 0 where
  pub session_begun : 1 ≤ x.session
  pub record_shown : r.session ≤ x.session
  pub held : x.state ≡ Held → r.session < x.session
  pub taken : r.taken ≤ length (x.line r.session)
  pub down : x.state ≢ Up → (x.line x.session ≡ []) × (x.waiting ≡ []) × (x.acked ≡ 0)
  pub later : (e : ℕ) → x.session < e → x.line e ≡ []
  pub acked : x.acked ≤ length (x.line x.session)
  pub acked_past : (p : ℕ) → 1 ≤ p → p ≤ x.acked → Past r x.session p

-- Homes, of the plain packets that have a number: each stands at one place, and those that wait follow them in order,
-- on the link over which the flow goes.
pub record Homes (b : Bearer) (x y : Sender) (numbered put : ℕ) : Type 0 where
  pub within : (e p i : ℕ) → at (x.line e) p ≡ Some (Plain i) → (1 ≤ i) × (i ≤ numbered)
  pub once : (e p f q i : ℕ) → at (x.line e) p ≡ Some (Plain i) → at (x.line f) q ≡ Some (Plain i) → (e ≡ f) × (p ≡ q)
  pub apart : (e p f q i : ℕ) → at (x.line e) p ≡ Some (Plain i) → at (y.line f) q ≡ Some (Plain i) → ⊥
  pub waits : leads b x.state y.state ≡ true → plains x.waiting ≡ counted numbered (put - numbered)
  pub none_waits : leads b x.state y.state ≡ false → plains x.waiting ≡ []

-- a plain packet stands in one of the lines
pub record Stands (line : ℕ → List LinkSlot) (i : ℕ) : Type 0 where
  pub session : ℕ
  pub place : ℕ
  pub there : at (line session) place ≡ Some (Plain i)

-- Order: in each line the plain packets rise.
pub record Order (line : ℕ → List LinkSlot) : Type 0 where
  pub rise : (e p q i j : ℕ) → at (line e) p ≡ Some (Plain i) → at (line e) q ≡ Some (Plain j) → p < q → i < j

-- Barrier: an earlier packet of another session was taken, or a tunnel packet for it stands before the later one.
pub record Barrier (x y : ℕ → List LinkSlot) (r t : Receiver) : Type 0 where
  pub same_link : (e p f q i j : ℕ) → at (x e) p ≡ Some (Plain j) → at (x f) q ≡ Some (Plain i) → i < j → e ≢ f →
      Past r f q
  pub other_link : (e p f q i j : ℕ) → at (x e) p ≡ Some (Plain j) → at (y f) q ≡ Some (Plain i) → i < j →
      Past t f q ⊎ TunnelsBefore (x e) p f q

-- Ready: the same for the packet that gets the next number, on the link over which the flow goes.
pub record Ready (b : Bearer) (x y : Sender) (r t : Receiver) : Type 0 where
  pub same_link : leads b x.state y.state ≡ true → (f q i : ℕ) → at (x.line f) q ≡ Some (Plain i) → x.session ≢ f →
      Past r f q
  pub other_link : leads b x.state y.state ≡ true → (f q i : ℕ) → at (y.line f) q ≡ Some (Plain i) →
      Past t f q ⊎ Tunnels (front x) f q

-- Runs: each place before one that is tunnelled was taken, or is tunnelled earlier in the same list.
abbrev pub RunsIn : List LinkSlot → Receiver → Type 0
RunsIn zs t =
    (p f q : ℕ) (full : Bool) (q' : ℕ) → at zs p ≡ Some (Tunnel f q full) → 1 ≤ q' → q' < q →
    Past t f q' ⊎ TunnelsBefore zs p f q'

-- so it is with each line of an end, and with what it sends in its present session, against the record of the other
-- link
pub record Runs (x : Sender) (t : Receiver) : Type 0 where
  pub lines : (e : ℕ) → RunsIn (x.line e) t
  pub now : RunsIn (slots x) t

-- Target: a tunnel packet speaks of a place that has a number, of an ended session or of the present one of a link
-- that is up.
pub record IsTarget (y : Sender) (f q : ℕ) : Type 0 where
  pub begun : 1 ≤ f
  pub shown : f ≤ y.session
  pub up : f ≡ y.session → y.state ≡ Up
  pub numbered : q ≤ length (y.line f)

-- each tunnel packet of these slots speaks of such a place
abbrev pub TargetIn : List LinkSlot → Sender → Type 0
TargetIn zs y = (p f q : ℕ) (full : Bool) → at zs p ≡ Some (Tunnel f q full) → IsTarget y f q

-- each tunnel packet in the lines of an end, and in what it sends in its present session, speaks of such a place
pub record Target (x y : Sender) : Type 0 where
  pub lines : (e : ℕ) → TargetIn (x.line e) y
  pub now : TargetIn (slots x) y

-- Inner: a full tunnel packet holds a plain packet, but for the marker of an empty run; where a placeholder stands
-- for a place, there is a tunnel packet, which speaks of an earlier place of the placeholder's own session.
pub record HoldsPlain (line : ℕ → List LinkSlot) (f q : ℕ) : Type 0 where
  pub index : ℕ
  pub there : at (line f) q ≡ Some (Plain index)

-- at place q of session f there is a tunnel packet that speaks of a place of session e, which is before place p
pub record HoldsTunnel (line : ℕ → List LinkSlot) (f q e p : ℕ) : Type 0 where
  pub place : ℕ
  pub full : Bool
  pub there : at (line f) q ≡ Some (Tunnel e place full)
  pub earlier : place < p

-- what the tunnel packets among these slots of session e speak of, in the lines of the other link
pub record InnerIn (zs : List LinkSlot) (e : ℕ) (line : ℕ → List LinkSlot) : Type 0 where
  pub full : (p f q : ℕ) → at zs p ≡ Some (Tunnel f q true) → 1 ≤ q → HoldsPlain line f q
  pub placeholder : (p f q : ℕ) → at zs p ≡ Some (Tunnel f q false) → (1 ≤ q) × HoldsTunnel line f q e p

-- what the tunnel packets in the lines of an end, and in what it sends in its present session, speak of
pub record Inner (x : Sender) (line : ℕ → List LinkSlot) : Type 0 where
  pub lines : (e : ℕ) → InnerIn (x.line e) e line
  pub now : InnerIn (slots x) x.session line

-- Effect: what a tunnel packet speaks of was taken when the tunnel packet was.
pub record Effect (line : ℕ → List LinkSlot) (r t : Receiver) : Type 0 where
  pub done : (e p f q : ℕ) (full : Bool) → at (line e) p ≡ Some (Tunnel f q full) → 1 ≤ q → Past r e p → Past t f q

-- Carrier: while the other link is reset nothing unacknowledged is a tunnel packet; while it is up such a one speaks
-- of its present session, and stands on the first bearer.
pub record Carrier (b : Bearer) (x y : Sender) : Type 0 where
  pub none : y.state ≡ Reset → (p f q : ℕ) (full : Bool) → at (slots x) p ≡ Some (Tunnel f q full) → p ≤ x.acked
  pub present : y.state ≡ Up → (p f q : ℕ) (full : Bool) → at (slots x) p ≡ Some (Tunnel f q full) → x.acked < p →
      (f ≡ y.session) × (b ≡ First)

-- Cover: each place of an ended session was taken, or the end is held, and an unacknowledged tunnel packet speaks of
-- it.
pub record Cover (x y : Sender) (r : Receiver) : Type 0 where
  pub covered : (e q : ℕ) → e < x.session → 1 ≤ q → q ≤ length (x.line e) →
      Past r e q ⊎ ((x.session ≡ e + 1) × (x.state ≡ Held) × TunnelsLive y e q)

-- Delivered: of the plain packets with a number just the first so many were taken.
pub record Delivered (line : ℕ → List LinkSlot) (r : Receiver) (count : ℕ) : Type 0 where
  pub all : (e p i : ℕ) → at (line e) p ≡ Some (Plain i) → i ≤ count → Past r e p
  pub only : (e p i : ℕ) → at (line e) p ≡ Some (Plain i) → Past r e p → i ≤ count
