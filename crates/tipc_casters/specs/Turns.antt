-- What may happen to a caster and its members, and the sights after it.
use Rattle.std.specs.Prelude.{◌≡◌, ◌<◌, ◌≤◌, ◌^◌, ℕ, Bool, ◌+◌, List, [], ◌∷◌, ◌++◌, map, Some, None, if◌then◌else◌}
use Rattle.tipc_types.specs.Position.{number_of}
use Rattle.tipc_types.specs.declared.link_words.BroadcastState.{BroadcastState}
use Rattle.tipc_types.specs.declared.packet_lists.Taken.{Taken}
use Rattle.tipc_outside.specs.declared.outgoing.Outgoing.{Outgoing}
use Rattle.tipc_send_window.specs.Sending.{IsSending}
use Rattle.tipc_broadcast.specs.declared.contacts.Contact.{Contact}
use Rattle.tipc_broadcast.specs.Contacts.{heard, heard_outcome, joined, refusal, told}
use Rattle.tipc_broadcast.specs.Casting.{accepted, accepting, accepting_frames, booted, Casting, hearing, IsCasting, joining, leaving, leaving_frames, shown, stating, stating_frames, with_bearer}
use Rattle.tipc_broadcast_law.specs.Groups.{is_contact, put, queue}
use Rattle.tipc_broadcast_law.specs.Listening.{given}
use Rattle.tipc_casters.specs.Sights.{Aired, boot_in, CasterSight, MemberSight, Told}

-- what is true of every broadcast link that the code keeps
pub record IsRight (v : Casting) : Type 0 where
  pub window : IsSending v.sending
  pub casting : IsCasting v.own v.sending v.contacts
  pub boot : v.boot < 2 ^ 32

-- what a call makes of a broadcast link is one of the same node and boot
pub record IsCall (v after : Casting) : Type 0 where
  pub boot : after.boot ≡ v.boot
  pub own : after.own ≡ v.own
  pub right : IsRight after

-- ---- at the caster

-- frames that left; no more get a number in the event that sent them than this
abbrev pub aired : ℕ → List Outgoing → List Aired
aired stamp frames = map (λ f. record { frame = f; stamp = stamp }) frames

-- after a call of its broadcast link in which these frames left: what is accepted may get its number before the event is over
abbrev pub called : CasterSight → Casting → List Outgoing → CasterSight
called a v frames = record a {
  casting = v;
  numbered = put a.casting.boot v.sending.numbered a.numbered;
  sent = a.sent ++ aired (accepted v.sending) frames;
}

-- a contact with a member begins; `boot` is the member's
abbrev pub joins : CasterSight → ℕ → ℕ → ℕ → CasterSight
joins a m boot c = record a {
  casting = joining a.casting m boot;
  joined = put m (Some c) a.joined;
  begun = put m (put c (Some (accepted a.casting.sending)) (a.begun m)) a.begun;
}

-- a contact with a member ends
abbrev pub leaves : CasterSight → ℕ → CasterSight
leaves a m = record (called a (leaving a.casting m) (leaving_frames a.casting m)) { joined = put m None a.joined }

-- a message is sent
abbrev pub sends : CasterSight → List (List ℕ) → CasterSight
sends a pieces = record (called a (accepting a.casting pieces) (accepting_frames a.casting pieces)) {
  put = λ m c. a.put m c ++ (if is_contact c (a.joined m) then pieces else []);
}

-- a STATE of a member is taken
abbrev pub states : CasterSight → ℕ → BroadcastState → CasterSight
states a m seen = called a (stating a.casting m seen) (stating_frames a.casting m seen)

-- a bearer is mended or cut
abbrev pub bears : CasterSight → ℕ → Bool → CasterSight
bears a bearer is_mended = record a { casting = with_bearer a.casting bearer is_mended }

-- a broadcast packet of another node arrives, from its boot and for these members
abbrev pub hears_other : CasterSight → ℕ → ℕ → ℕ → Taken → CasterSight
hears_other a peer boot members t = record a { casting = hearing a.casting peer boot members t }

-- the caster in its next boot
abbrev pub restarted : CasterSight → CasterSight
restarted a = record a { casting = booted a.casting.own (a.casting.boot + 1); numbered = put (a.casting.boot + 1) 0 a.numbered; joined = λ m. None }

-- ---- at a member

-- a contact with the caster begins; `start` is that of the member's own broadcast
abbrev pub enters : MemberSight → ℕ → ℕ → ℕ → MemberSight
enters s peer start c = record s { at = Some c; last = c; heard = Some (joined peer (boot_in c) start) }

-- it ends
abbrev pub quits : MemberSight → MemberSight
quits s = record s { at = None; heard = None }

-- a STATE of the caster is taken
abbrev pub is_told : MemberSight → Contact → BroadcastState → MemberSight
is_told s k seen = record s { heard = Some (told seen.start seen.next k) }

-- a broadcast packet arrives in a contact, from a boot of the caster and for these members
abbrev pub hears_packet : MemberSight → ℕ → ℕ → ℕ → ℕ → Contact → Taken → MemberSight
hears_packet s m c boot members k t = record s {
  heard = Some (heard t k (refusal m boot members k));
  given = put c (s.given c ++ given (heard_outcome t k (refusal m boot members k))) s.given;
}

-- its broadcast link keeps this of the caster
abbrev pub listens_as : MemberSight → Contact → MemberSight
listens_as s k = record s { heard = Some k }

-- a STATE comes into the air, of a member to the caster or of the caster to it
abbrev pub tells : MemberSight → Told → MemberSight
tells s t = record s { told = s.told ++ t ∷ [] }

-- The broadcast fields of a STATE of the caster to a member, in the contact in which they are: the start that its link shows for the member, and the next
-- number as it was in the event in which the STATE left. After that event no more had a number than had one or waited
-- before.
pub record IsToldToMember (a : CasterSight) (m : ℕ) (t : Told) : Type 0 where
  pub contact : a.joined m ≡ Some t.contact
  pub start : t.seen.start ≡ (shown a.casting m).start
  pub numbered : ℕ
  pub next : t.seen.next ≡ number_of (numbered + 1)
  pub by_then : numbered ≤ t.stamp
  pub stamped : t.stamp ≤ numbered + queue
  pub near : t.stamp ≤ a.casting.sending.numbered + queue

-- the caster tells the member
abbrev pub is_to_hear : MemberSight → Told → MemberSight
is_to_hear s t = record s { hears = s.hears ++ t ∷ [] }

-- the members when one of them is another
abbrev pub with_member : (ℕ → MemberSight) → ℕ → MemberSight → ℕ → MemberSight
with_member ms m s = put m s ms

-- ---- the begin

-- a caster that did nothing yet
abbrev pub new_caster : ℕ → ℕ → CasterSight
new_caster own boot = record { casting = booted own boot; numbered = λ f. 0; joined = λ m. None; begun = λ m c. None; put = λ m c. []; sent = [] }

-- a member that was in no contact with it
abbrev pub new_member : MemberSight
new_member = record { at = None; last = 0; heard = None; given = λ c. []; told = []; hears = [] }
