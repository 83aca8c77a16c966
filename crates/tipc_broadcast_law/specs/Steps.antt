-- How the broadcast link of a caster stands in the law of broadcast: the calls make the law's events.
use Rattle.std.specs.Prelude.{◌≡◌, ◌⊎◌, true, false, ℕ, ◌+◌, ◌-◌, ◌<◌, ◌≤◌, ◌++◌, All, List, length, map, Option, Some, None}
use Rattle.tipc_types.specs.Position.{number_of}
use Rattle.tipc_types.specs.declared.link_words.BroadcastState.{BroadcastState}
use Rattle.tipc_types.specs.Limits.{most_age, most_packet_bytes, window_size}
use Rattle.tipc_send_window.specs.Sending.{IsSending}
use Rattle.tipc_broadcast.specs.declared.contacts.Contact.{Contact}
use Rattle.tipc_broadcast.specs.Contacts.{acknowledged_to, contact_with}
use Rattle.tipc_broadcast.specs.Casting.{accepted, accepting, Casting, credited, flushed, IsCasting, joining, leaving, settled, shown, stating, with_message}
use Rattle.tipc_broadcast_law.specs.Groups.{Accepted, Group, length_now, Member, numbered_now, put}
use Rattle.tipc_broadcast_law.specs.Events.{accepting_entry as accepting_one, acknowledged, joined_in, Runs, without_contact}
use Rattle.tipc_broadcast_law.specs.Law.{IsGroup}

-- what the caster keeps of a member is what the law says of it
abbrev pub IsSeen : Member → Option Contact → Type 0
IsSeen k None = k.joined ≡ None
IsSeen k (Some c) = (j : ℕ) × (k.joined ≡ Some j) × (k.begun j ≡ Some (c.start - 1)) × (1 ≤ c.start) × (k.acked ≡ c.acked)

-- The link's counts are those of the present boot, and its contacts are those in which the caster is. A member is
-- named by its address word.
pub record Casts (g : Group) (v : Casting) : Type 0 where
  pub numbered : v.sending.numbered ≡ numbered_now g.caster
  pub accepted_all : accepted v.sending ≡ length_now g.caster
  pub members : (m : ℕ) → IsSeen (g.members m) (contact_with m v.contacts)

-- What calls of one boot make of a group: what is accepted in the boot is this list, and the members are these. Nothing of
-- another boot changes.
pub record Becomes (g : Group) (line : List Accepted) (members : ℕ → Member) (after : Group) : Type 0 where
  pub boot : after.caster.boot ≡ g.caster.boot
  pub line_now : after.caster.line g.caster.boot ≡ line
  pub lines : (f : ℕ) → (f ≡ g.caster.boot → ⊥) → after.caster.line f ≡ g.caster.line f
  pub numbered : (f : ℕ) → (f ≡ g.caster.boot → ⊥) → after.caster.numbered f ≡ g.caster.numbered f
  pub each : (m : ℕ) → after.members m ≡ members m

-- what is accepted in the present boot
abbrev pub line_of : Group → List Accepted
line_of g = g.caster.line g.caster.boot

-- After events of the law the link stands so, and the group is the one with this list and these members.
pub record Leads (g : Group) (line : List Accepted) (members : ℕ → Member) (v : Casting) : Type 0 where
  pub after : Group
  pub runs : Runs g after
  pub stands : Casts after v
  pub becomes : Becomes g line members after

-- what moves up is numbered by the law, one after the other
abbrev pub FlushRuns : Type 0
FlushRuns = (g : Group) (v : Casting) → Casts g v → IsSending v.sending → IsCasting v.own v.sending v.contacts → Leads g (line_of g) g.members (flushed v)

-- what is released is nothing to the law
abbrev pub ReleaseIsSilent : Type 0
ReleaseIsSilent = (g : Group) (v : Casting) → Casts g v → Casts g (settled v)

-- The number of a place that the member had when it sent its STATE, at most 60,000 before what it acknowledged, moves the
-- acknowledgement to that place, or not at all where it was acknowledged before.
pub record TellsPlace (numbered acked place : ℕ) : Type 0 where
  pub later : acked ≤ place → acknowledged_to numbered acked (number_of place) ≡ place
  pub earlier : place ≤ acked → acknowledged_to numbered acked (number_of place) ≡ acked

-- A number of 16 bits tells the place in every case that occurs: what is acknowledged lies at most 50 places behind
-- what is numbered, and at most 60,000 past the member's place. A member that took nothing yet names the place before its start,
-- up to which all counts as acknowledged; what stands there may still wait for its number.
abbrev pub AcknowledgementsTellPlaces : Type 0
AcknowledgementsTellPlaces = (numbered acked place : ℕ) → numbered ≤ acked + window_size → (place ≤ numbered) ⊎ (place ≡ acked) → acked ≤ place + 60000
    → TellsPlace numbered acked place

-- A peer that isn't in contact joins in a contact that is above each that the caster began with it, of the present boot, while
-- the member isn't in an older one.
abbrev pub JoinRuns : Type 0
JoinRuns = (g : Group) (v : Casting) (peer boot c : ℕ) → Casts g v → contact_with peer v.contacts ≡ None
    → ((d s : ℕ) → (g.members peer).begun d ≡ Some s → d < c) → (g.members peer).boots c ≡ g.caster.boot → ((d : ℕ) → (g.members peer).at ≡ Some d → c ≤ d)
    → Leads g (line_of g) (put peer (joined_in (g.members peer) c (length_now g.caster)) g.members) (joining v peer boot)

-- a peer leaves: the end of its contact, and then what is given up is passed over, or what moves up is numbered
abbrev pub LeaveRuns : Type 0
LeaveRuns = (g : Group) (v : Casting) (peer : ℕ) → Casts g v → IsSending v.sending → IsCasting v.own v.sending v.contacts
    → Leads g (line_of g) (put peer (without_contact (g.members peer)) g.members) (leaving v peer)

-- A message is accepted packet by packet, with nothing between: its packets stand in the present boot's list behind all others,
-- each for the members that were in contact. What moves up is numbered.
abbrev pub SendRuns : Type 0
SendRuns = (g : Group) (v : Casting) (pieces : List (List ℕ)) → Casts g v → IsSending (with_message v pieces).sending → IsCasting v.own v.sending v.contacts
    → All (λ piece. 16 ≤ length piece) pieces → All (λ piece. length piece ≤ most_packet_bytes) pieces → length v.sending.waiting < 200 → length pieces ≤ 47 → Leads g (line_of g ++ map (accepting_one g) pieces) g.members (accepting v pieces)

-- A number in a STATE of a peer is that of a place that the member had in the contact in which the caster is with it, at most
-- 60,000 before what it acknowledged; at most 50 are numbered past that. The place is numbered, or is the member's start, up to
-- which all counts as acknowledged from the begin on.
pub record Shows (g : Group) (v : Casting) (peer number : ℕ) : Type 0 where
  pub contact : Contact
  pub there : contact_with peer v.contacts ≡ Some contact
  pub contact_number : ℕ
  pub joined : (g.members peer).joined ≡ Some contact_number
  pub wanted : ℕ
  pub wants : (g.members peer).want contact_number ≡ Some wanted
  pub place : ℕ
  pub had : place ≤ wanted
  pub is_numbered : (place ≤ v.sending.numbered) ⊎ (place ≡ contact.acked)
  pub in_window : v.sending.numbered ≤ contact.acked + window_size
  pub recent : contact.acked ≤ place + 60000
  pub number_is : number ≡ number_of place

-- the member after the number in its STATE was read
abbrev pub credited_member : {g : Group} {v : Casting} {peer number : ℕ} → Shows g v peer number → Member
credited_member {g} {v} {peer} {number} shows = acknowledged (g.members peer) (acknowledged_to v.sending.numbered shows.contact.acked number)

-- what such a number acknowledges is acknowledged by the law, or was before
abbrev pub AcknowledgementRuns : Type 0
AcknowledgementRuns = (g : Group) (v : Casting) (peer number : ℕ) → Casts g v → (shows : Shows g v peer number)
    → Leads g (line_of g) (put peer (credited_member shows) g.members) (credited v peer number)

-- A whole STATE: what the peer tells of its own broadcast is nothing to the law of this caster. Where it says that it is in
-- step, what it acknowledges is acknowledged, and what moves up is numbered.
pub record StatesRun (g : Group) (v : Casting) (peer : ℕ) (seen : BroadcastState) : Type 0 where
  pub apart : seen.in_step ≡ false → Leads g (line_of g) g.members (stating v peer seen)
  pub in_step : seen.in_step ≡ true → (shows : Shows g v peer seen.acknowledged) → Leads g (line_of g) (put peer (credited_member shows) g.members) (stating v peer seen)

-- every STATE of a peer is a run
abbrev pub StateRuns : Type 0
StateRuns = (g : Group) (v : Casting) (peer : ℕ) (seen : BroadcastState) → Casts g v → IsSending v.sending → IsCasting v.own v.sending v.contacts
    → StatesRun g v peer seen

-- ---- what a STATE of the caster shows, and what it learns from one of a member

-- A STATE to a member that is in contact shows the number of its start.
abbrev pub StartsAreShown : Type 0
StartsAreShown = (g : Group) (v : Casting) (m c s : ℕ) → Casts g v → (g.members m).joined ≡ Some c → (g.members m).begun c ≡ Some s
    → (shown v m).start ≡ number_of (s + 1)

-- A member's STATE told this place in a contact: it lies between the start and what the member wants, and where the caster is in
-- that contact, at most 50 places behind what was numbered when the STATE left.
pub record ToldPlace (g : Group) (m c place stamp : ℕ) : Type 0 where
  pub start : ℕ
  pub begun : (g.members m).begun c ≡ Some start
  pub from_start : start ≤ place
  pub wanted : ℕ
  pub wants : (g.members m).want c ≡ Some wanted
  pub had : place ≤ wanted
  pub in_window : (g.members m).joined ≡ Some c → stamp ≤ place + window_size

-- Where at most 30,000 were numbered since it left, its number tells the place.
abbrev pub ToldPlacesShow : Type 0
ToldPlacesShow = (g : Group) (v : Casting) (m c place stamp : ℕ) → IsGroup g → Casts g v → (g.members m).joined ≡ Some c → ToldPlace g m c place stamp
    → numbered_now g.caster ≤ stamp + most_age → Shows g v m (number_of place)
