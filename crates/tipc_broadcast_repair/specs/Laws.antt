-- One caster and one of its members in a contact: how a broadcast packet that was lost comes after all. A packet's place is its place in the list of all
-- that was accepted in the caster's boot, from 0 on.
use Rattle.std.specs.Prelude.{◌≡◌, ◌⊎◌, ℕ, ◌+◌, ◌-◌, ◌<◌, ◌≤◌, true, false, List, All, Option, Some, slice_get, slice_index_or}
use Rattle.std.specs.List.{Contains}
use Rattle.tipc_types.specs.Position.{number_of}
use Rattle.tipc_types.specs.declared.identity.To.TheVariants as to
use Rattle.tipc_types.specs.declared.link_words.BroadcastState.{BroadcastState}
use Rattle.tipc_types.specs.declared.link_words.Why.{Why}
use Rattle.tipc_types.specs.declared.packet_lists.Taken.{Taken}
use Rattle.tipc_types.specs.Limits.{window_size}
use Rattle.tipc_send_window.specs.Sending.{acked_of, IsSending}
use Rattle.tipc_recv_window.specs.Receiving.{Receiving}
use Rattle.tipc_broadcast.specs.declared.contacts.Contact.{Contact}
use Rattle.tipc_broadcast.specs.Casting.{Casting, hearing, IsCasting, stating, stating_frames}
use Rattle.tipc_broadcast.specs.Contacts.{contact_with, heard, IsFree, shown_in, taken_in, told}
use Rattle.tipc_broadcast.specs.Frames.{numbered_frame}
use Rattle.tipc_broadcast_law.specs.Groups.{Group, place}
use Rattle.tipc_broadcast_law.specs.Law.{IsGroup}
use Rattle.tipc_broadcast_law.specs.Listening.{IsListening, ToldNext}
use Rattle.tipc_broadcast_law.specs.Steps.{Casts, Shows}

-- The member of this address word is in contact c, in which the caster is with it, and its broadcast link keeps this of the caster.
pub record IsMemberIn (g : Group) (m c : ℕ) (k : Contact) : Type 0 where
  pub law : IsGroup g
  pub joined : (g.members m).joined ≡ Some c
  pub at : (g.members m).at ≡ Some c
  pub listens : IsListening g m (Some k)
  pub free : IsFree k.window

-- ---- nothing is taken back

-- the contact with a peer, where it stays: what the peer acknowledged is no less than before, and it has its start
abbrev pub GoesOnWith : Option Contact → Option Contact → Type 0
GoesOnWith (Some c) (Some d) = (c.acked ≤ d.acked) × (d.start ≡ c.start)
GoesOnWith other more = Unit {0}

-- the caster's side: what each peer acknowledged is no less than before, nor what all did
pub record CastGoesOn (v w : Casting) : Type 0 where
  pub each : (m : ℕ) → GoesOnWith (contact_with m v.contacts) (contact_with m w.contacts)
  pub acked : acked_of v.sending ≤ acked_of w.sending
  pub numbered : v.sending.numbered ≤ w.sending.numbered

-- so it is when a STATE of any peer is taken
abbrev pub CastStatesGoOn : Type 0
CastStatesGoOn = (v : Casting) (peer : ℕ) (seen : BroadcastState) → IsSending v.sending → CastGoesOn v (stating v peer seen)

-- and when a broadcast packet of any node arrives
abbrev pub CastHearingsGoOn : Type 0
CastHearingsGoOn = (v : Casting) (peer boot members : ℕ) (t : Taken) → CastGoesOn v (hearing v peer boot members t)

-- the member's side: where it is in step it stays so, and neither the position that it wants nor the next one that was shown falls
abbrev pub StaysInStep : ℕ → Option Receiving → ℕ → Option Receiving → Type 0
StaysInStep shown (Some r) more (Some q) = (r.wanted ≤ q.wanted) × (shown ≤ more)
StaysInStep shown (Some r) more other = ⊥
StaysInStep shown other more any = Unit {0}

-- so it is when it takes a STATE of the caster
abbrev pub ToldMembersGoOn : Type 0
ToldMembersGoOn = (k : Contact) (start next : ℕ) → StaysInStep k.shown k.window (told start next k).shown (told start next k).window

-- and when it hears a packet, whether that is refused or not
abbrev pub HearersGoOn : Type 0
HearersGoOn = (k : Contact) (t : Taken) (reason : Option Why) → StaysInStep k.shown k.window (heard t k reason).shown (heard t k reason).window

-- ---- how a lost packet comes

-- The member is in step, and has the first n packets, of which it wants the one at place w; or it was shown that so many have a number.
pub record HasOrWasShown (n w : ℕ) (k : Contact) : Type 0 where
  pub window : Receiving
  pub in_step : k.window ≡ Some window
  pub so_far : (n ≤ w) ⊎ (window.wanted + (n - w) ≤ k.shown)

-- a member takes a STATE that the caster told in the contact
abbrev pub StatesShowCasts : Type 0
StatesShowCasts = (g : Group) (m c s next stamp : ℕ) (k : Contact) → IsMemberIn g m c k → (g.members m).begun c ≡ Some s → (t : ToldNext (g.members m) c next stamp)
    → HasOrWasShown t.numbered (place (g.members m) c) (told (number_of (s + 1)) next k)

-- the broadcast fields of a member's STATE: it is in step, has all before place w, and tells a gap there
pub record TellsCastGap (w : ℕ) (seen : BroadcastState) : Type 0 where
  pub in_step : seen.in_step ≡ true
  pub taken : seen.acknowledged ≡ number_of w
  pub some : 1 ≤ seen.gap
  pub most : seen.gap ≤ window_size

-- a member that was shown more than it took tells it
abbrev pub CastGapsAreTold : Type 0
CastGapsAreTold = (g : Group) (m c w next start : ℕ) (k : Contact) (r : Receiving) → IsMemberIn g m c k → (g.members m).want c ≡ Some w → k.window ≡ Some r
    → r.wanted < k.shown → TellsCastGap w (shown_in next start k.shown k.window)

-- The caster takes a STATE of a member that tells a gap behind a place, up to which the member has acknowledged nothing more: where the packet at that place
-- is unacknowledged, it leaves again, to all, on each bearer that is mended.
abbrev pub CastGapsAreRepeated : Type 0
CastGapsAreRepeated = (g : Group) (v : Casting) (m bearer : ℕ) (seen : BroadcastState) (frame : List ℕ) → Casts g v → IsSending v.sending → IsCasting v.own v.sending v.contacts
    → seen.in_step ≡ true → 1 ≤ seen.gap → (shows : Shows g v m seen.acknowledged) → shows.contact.acked ≤ shows.place
    → slice_get v.sending.unacked (shows.place - acked_of v.sending) ≡ Some frame → bearer ≤ 1 → slice_index_or v.mended bearer false ≡ true
    → Contains (stating_frames v m seen) (record { bearer = bearer; to = to.All; frame = numbered_frame (number_of (shows.place + 1)) frame })

-- a member that wants the packet at place w hears the one at place x, which isn't refused: it has that one
abbrev pub CastRepeatsAreTaken : Type 0
CastRepeatsAreTaken = (k : Contact) (r : Receiving) (t : Taken) (w x : ℕ) → IsFree (Some r) → number_of (w + 1) ≡ number_of r.wanted → t.number ≡ number_of (x + 1) → x ≤ w
    → (q : Receiving) × ((taken_in k t (Some r)).window ≡ Some q) × (r.wanted + (x + 1 - w) ≤ q.wanted)

-- The caster takes a STATE of a member that is in step: what it tells is acknowledged.
abbrev pub CastStatesAcknowledge : Type 0
CastStatesAcknowledge = (g : Group) (v : Casting) (m : ℕ) (seen : BroadcastState) → Casts g v → seen.in_step ≡ true → (shows : Shows g v m seen.acknowledged)
    → (d : Contact) × (contact_with m (stating v m seen).contacts ≡ Some d) × (shows.place ≤ d.acked)

-- what all peers in contact acknowledged then, of what has a number, is released
abbrev pub CastStatesRelease : Type 0
CastStatesRelease = (v : Casting) (peer : ℕ) (seen : BroadcastState) (x : ℕ) → IsSending v.sending → seen.in_step ≡ true → x ≤ v.sending.numbered
    → All (λ (c : Contact). x ≤ c.acked) (stating v peer seen).contacts → x ≤ acked_of (stating v peer seen).sending
