-- What the rounds of a call make of a broadcast packet that has its number, whatever was lost before: all nodes in
-- contact with its sender take it, and it is released after four of them.
use Rattle.std.specs.Prelude.{◌≡◌, ◌⊎◌, ◌≤◌, ◌+◌, ◌-◌, ◌*◌, ℕ, true, false, All, None, Some, slice_get, slice_index_or}
use Rattle.tipc_types.specs.Address.{node_word}
use Rattle.tipc_types.specs.Limits.{window_size}
use Rattle.tipc_types.specs.Position.{number_of}
use Rattle.tipc_types.specs.declared.identity.To.TheVariants as to
use Rattle.tipc_header.specs.declared.frames.FrameKind.TheVariants.{Casts}
use Rattle.tipc_header.specs.Frames.{kind_in}
use Rattle.tipc_header.specs.Spelling.{Fields}
use Rattle.tipc_send_window.specs.Sending.{acked_of}
use Rattle.tipc_recv_window.specs.Receiving.{Receiving}
use Rattle.tipc_broadcast.specs.declared.contacts.Contact.{Contact}
use Rattle.tipc_broadcast.specs.Casting.{Casting}
use Rattle.tipc_broadcast.specs.Contacts.{contact_with, is_member}
use Rattle.tipc_node.specs.CastArrivals.{members_in}
use Rattle.tipc_node.specs.Turns.{IsFrom}
use Rattle.tipc_replay.specs.declared.air.Sent.{Sent}
use Rattle.tipc_replay.specs.Skies.{air_on}
use Rattle.tipc_replay.specs.States.{MemberState}
use Rattle.tipc_world.specs.declared.places.Places.{Places}
use Rattle.tipc_world.specs.Ends.{place_on}
use Rattle.tipc_world.specs.Poised.{IsPoised}
use Rattle.tipc_world.specs.RoundParts.{IsKept, MoreRounds}
use Rattle.tipc_world.specs.Settling.{Rounds}
use Rattle.tipc_world.specs.States.{WorldState}

-- ---- at the sender

-- node a is there, and its broadcast link is so
abbrev pub CastsAs : WorldState → (Casting → Type 0) → ℕ → Type 0
CastsAs w P a = (m : MemberState) × (slice_index_or w.members a None ≡ Some m) × P m.node.casting

-- The packet at a position has its number, and is the first that isn't acknowledged by all, or was acknowledged.
pub record IsCastAwaited (position : ℕ) (v : Casting) : Type 0 where
  pub numbered : position ≤ v.sending.numbered
  pub first : position ≤ acked_of v.sending + 1

-- all acknowledged it, so it is released
abbrev pub IsCastReleased : ℕ → Casting → Type 0
IsCastReleased position v = position ≤ acked_of v.sending

-- node b acknowledged it
pub record HasAcknowledged (position b : ℕ) (v : Casting) : Type 0 where
  pub contact : Contact
  pub there : contact_with (node_word b) v.contacts ≡ Some contact
  pub acked : position ≤ contact.acked

-- it has its number, and once all that are in contact acknowledged it, it is released
pub record ReleasedByAll (position : ℕ) (v : Casting) : Type 0 where
  pub numbered : position ≤ v.sending.numbered
  pub settles : All (λ (c : Contact). position ≤ c.acked) v.contacts → IsCastReleased position v

-- ---- at a member

-- nodes a and b are there, node b's broadcast link keeps this of node a, and so it is with the broadcast link of node a
pub record MemberIs (w : WorldState) (P : Casting → Contact → Type 0) (a b : ℕ) : Type 0 where
  pub caster : MemberState
  pub caster_is : slice_index_or w.members a None ≡ Some caster
  pub member : MemberState
  pub member_is : slice_index_or w.members b None ≡ Some member
  pub kept : Contact
  pub kept_is : contact_with (node_word a) member.node.casting.contacts ≡ Some kept
  pub so : P caster.node.casting kept

-- A receive window wants the packet behind position x of what the sender accepted in its boot. A number is told from
-- others by where the sender stands.
pub record Wants (v : Casting) (r : Receiving) (x : ℕ) : Type 0 where
  pub number : number_of (x + 1) ≡ number_of r.wanted
  pub low : acked_of v.sending ≤ x
  pub high : x ≤ v.sending.numbered + 246

-- the member is in step, and took the packet at a position, or was shown that it has a number
pub record IsCastKnown (position : ℕ) (v : Casting) (c : Contact) : Type 0 where
  pub window : Receiving
  pub in_step : c.window ≡ Some window
  pub so_far : ℕ
  pub wants : Wants v window so_far
  pub known : (position ≤ so_far) ⊎ (window.wanted + (position - so_far) ≤ c.shown)

-- it is in step, and took it
pub record HasTakenCast (position : ℕ) (v : Casting) (c : Contact) : Type 0 where
  pub window : Receiving
  pub in_step : c.window ≡ Some window
  pub so_far : ℕ
  pub wants : Wants v window so_far
  pub taken : position ≤ so_far

-- ---- between them

-- A broadcast frame of node a, in its present boot, carries the packet at a position for node b, among others.
pub record BringsCastTo (w : WorldState) (a b position : ℕ) (f : Sent) : Type 0 where
  pub boot : ℕ
  pub present : CastsAs w (λ v. boot ≡ v.boot) a
  pub set : ℕ
  pub packet : Fields
  pub from : IsFrom a f.frame boot set packet
  pub kind : kind_in f.frame ≡ Casts
  pub sender : f.from.word ≡ node_word a
  pub to_all : f.to ≡ to.All
  pub number : packet.sequence ≡ number_of position
  pub meant : is_member (node_word b) (members_in set) ≡ true

-- such a frame stands in the air of a bearer, at or behind these places
pub record CastIsOnItsWay (places : Places) (w : WorldState) (a b bearer position : ℕ) : Type 0 where
  pub place : ℕ
  pub behind : place_on bearer places ≤ place
  pub frame : Sent
  pub there : slice_get (air_on bearer w.air) place ≡ Some frame
  pub brings : BringsCastTo w a b position frame

-- ---- a round

-- What one round makes of the packet at a position of node a's broadcast, at a node b to which node a's link on a
-- bearer is up. Node b is shown that it has a number; it asks for it, and the packet is released, or was taken, or is
-- sent again; it is taken; and it is acknowledged. None of this is undone in a later round.
pub record RoundCasts (places : Places) (outset : WorldState) (ends : Places) (now : WorldState) (a b bearer position : ℕ) : Type 0 where
  pub shows : CastsAs outset (IsCastAwaited position) a → MemberIs now (IsCastKnown position) a b
  pub asks : CastsAs outset (IsCastAwaited position) a → MemberIs outset (IsCastKnown position) a b
      → CastsAs now (IsCastReleased position) a ⊎ (MemberIs now (HasTakenCast position) a b ⊎ CastIsOnItsWay ends now a b bearer position)
  pub takes : CastsAs outset (IsCastAwaited position) a → MemberIs outset (IsCastKnown position) a b → MemberIs outset (HasTakenCast position) a b ⊎ CastIsOnItsWay places outset a b bearer position → MemberIs now (HasTakenCast position) a b
  pub acknowledges : CastsAs outset (IsCastAwaited position) a → MemberIs outset (HasTakenCast position) a b → CastsAs now (HasAcknowledged position b) a × CastsAs now (ReleasedByAll position) a
  pub known : MemberIs outset (IsCastKnown position) a b → MemberIs now (IsCastKnown position) a b
  pub taken : MemberIs outset (HasTakenCast position) a b → MemberIs now (HasTakenCast position) a b
  pub released : CastsAs outset (IsCastReleased position) a → CastsAs now (IsCastReleased position) a
  pub awaited : CastsAs outset (IsCastAwaited position) a → CastsAs now (IsCastAwaited position) a

-- So four rounds release the first packet that isn't acknowledged by all, and each before it.
abbrev pub FourRoundsReleaseCasts : Type 0
FourRoundsReleaseCasts = (start : WorldState) (done : ℕ) (places : Places) (outset : WorldState) (ends : Places) (now : WorldState) (a position : ℕ)
    → IsKept start → IsPoised start → Rounds start done places outset → MoreRounds done places outset (done + 4) ends now → now.lost ≡ false
    → CastsAs outset (IsCastAwaited position) a → CastsAs now (IsCastReleased position) a

-- So four rounds for each packet of a window release whatever has a number.
abbrev pub CastWindowsAreReleased : Type 0
CastWindowsAreReleased = (start : WorldState) (done : ℕ) (places : Places) (outset : WorldState) (ends : Places) (now : WorldState) (a position : ℕ)
    → IsKept start → IsPoised start → Rounds start done places outset → MoreRounds done places outset (done + 4 * window_size) ends now → now.lost ≡ false
    → CastsAs outset (λ v. position ≤ v.sending.numbered) a → CastsAs now (IsCastReleased position) a
