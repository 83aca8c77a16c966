-- What is promised of a caster and all its members, for each thing that may happen. What the code keeps of every broadcast link is a
-- premise: that the link after a call is one.
use Rattle.std.specs.Prelude.{◌≡◌, true, false, ℕ, ◌+◌, ◌<◌, ◌≤◌, All, List, length, Some, None}
use Rattle.std.specs.List.{Contains}
use Rattle.tipc_types.specs.Address.{IsNodeWord}
use Rattle.tipc_types.specs.Prefixes.{IsPrefixOf}
use Rattle.tipc_types.specs.declared.link_words.BroadcastState.{BroadcastState}
use Rattle.tipc_types.specs.declared.packet_lists.Taken.{Taken}
use Rattle.tipc_types.specs.Limits.{most_age, most_packet_bytes}
use Rattle.tipc_send_window.specs.Sending.{IsSending}
use Rattle.tipc_broadcast.specs.declared.contacts.Contact.{Contact}
use Rattle.tipc_broadcast.specs.Contacts.{contact_with, shown_in}
use Rattle.tipc_broadcast.specs.Casting.{accepting, booted, joining, leaving, stating, with_message}
use Rattle.tipc_broadcast.specs.Pieces.{IsCastPiece}
use Rattle.tipc_casters.specs.Sights.{Aired, boot_in, CasterSight, IsCast, MemberSight, ReadsAs, Told}
use Rattle.tipc_casters.specs.Turns.{enters, hears_packet, IsCall, is_to_hear, is_told, IsRight, IsToldToMember, joins, leaves, new_caster, new_member, quits, restarted, sends, states, tells, with_member}

-- a caster that did nothing yet, and members that were in no contact with it
abbrev pub Begins : Type 0
Begins = (own boot : ℕ) → IsRight (booted own boot) → IsCast (new_caster own boot) (λ m. new_member)

-- ---- at the caster

-- A contact with a member begins: it is above every one that the caster began with it, of the present boot, and the member is in no
-- older one.
abbrev pub Joins : Type 0
Joins = (a : CasterSight) (ms : ℕ → MemberSight) (m boot c : ℕ) → IsCast a ms → contact_with m a.casting.contacts ≡ None
    → ((d s : ℕ) → a.begun m d ≡ Some s → d < c) → boot_in c ≡ a.casting.boot → ((d : ℕ) → (ms m).at ≡ Some d → c ≤ d)
    → IsRight (joining a.casting m boot) → IsCast (joins a m boot c) ms

-- a contact with a member ends
abbrev pub Leaves : Type 0
Leaves = (a : CasterSight) (ms : ℕ → MemberSight) (m : ℕ) → IsCast a ms → IsCall a.casting (leaving a.casting m) → IsCast (leaves a m) ms

-- a message of these packets is sent, each of which the node can cast
abbrev pub Sends : Type 0
Sends = (a : CasterSight) (ms : ℕ → MemberSight) (pieces : List (List ℕ)) → IsCast a ms → IsSending (with_message a.casting pieces).sending
    → All (λ piece. 16 ≤ length piece) pieces → All (λ piece. length piece ≤ most_packet_bytes) pieces → All (IsCastPiece a.casting.own) pieces
    → length a.casting.sending.waiting < 200 → length pieces ≤ 47 → IsCall a.casting (accepting a.casting pieces) → IsCast (sends a pieces) ms

-- A STATE of a member is taken: its acknowledgement is read only where it says that it is in step. Then it is one of those that the
-- member told, in the present contact, with at most 30,000 numbered since.
abbrev pub StatesApart : Type 0
StatesApart = (a : CasterSight) (ms : ℕ → MemberSight) (m : ℕ) (seen : BroadcastState) → IsCast a ms → seen.in_step ≡ false
    → IsCall a.casting (stating a.casting m seen) → IsCast (states a m seen) ms

abbrev pub States : Type 0
States = (a : CasterSight) (ms : ℕ → MemberSight) (m : ℕ) (t : Told) → IsCast a ms → Contains (ms m).told t → t.seen.in_step ≡ true
    → a.joined m ≡ Some t.contact → a.numbered a.casting.boot ≤ t.stamp + most_age
    → IsCall a.casting (stating a.casting m t.seen) → IsCast (states a m t.seen) ms

-- the caster is restarted: the frames and STATEs of its past boots stay in the air
abbrev pub Restarts : Type 0
Restarts = (a : CasterSight) (ms : ℕ → MemberSight) → IsCast a ms → IsRight (booted a.casting.own (a.casting.boot + 1)) → IsCast (restarted a) ms

-- ---- at a member

-- A contact with the caster begins: it is above every one that the member entered, of no later boot, and the caster hasn't begun a later one.
abbrev pub Enters : Type 0
Enters = (a : CasterSight) (ms : ℕ → MemberSight) (m peer start c : ℕ) → IsCast a ms → (ms m).at ≡ None → (ms m).last < c → boot_in c ≤ a.casting.boot
    → ((d s : ℕ) → a.begun m d ≡ Some s → d ≤ c) → IsCast a (with_member ms m (enters (ms m) peer start c))

-- It ends, also where the member is restarted.
abbrev pub Quits : Type 0
Quits = (a : CasterSight) (ms : ℕ → MemberSight) (m : ℕ) → IsCast a ms → IsCast a (with_member ms m (quits (ms m)))

-- a STATE is taken that the caster told in the present contact, with at most 30,000 numbered since
abbrev pub HearsState : Type 0
HearsState = (a : CasterSight) (ms : ℕ → MemberSight) (m : ℕ) (k : Contact) (t : Told) → IsCast a ms → (ms m).heard ≡ Some k → Contains (ms m).hears t
    → (ms m).at ≡ Some t.contact → t.stamp ≤ a.numbered (boot_in t.contact)
    → a.numbered (boot_in t.contact) ≤ t.stamp + most_age → IsCast a (with_member ms m (is_told (ms m) k t.seen))

-- A broadcast frame of the caster arrives, any that it ever sent, with at most 30,000 numbered in its boot since.
abbrev pub Hears : Type 0
Hears = (a : CasterSight) (ms : ℕ → MemberSight) (m c boot members : ℕ) (f : Aired) (k : Contact) (t : Taken) (h : IsCast a ms) → IsNodeWord m
    → (ms m).heard ≡ Some k → (ms m).at ≡ Some c → Contains a.sent f → ReadsAs h.group a.casting.own f boot members t → a.numbered boot ≤ f.stamp + most_age
    → IsCast a (with_member ms m (hears_packet (ms m) m c boot members k t))

-- ---- STATEs in the air

-- a member tells the caster a STATE, with the broadcast fields that its link shows
abbrev pub Tells : Type 0
Tells = (a : CasterSight) (ms : ℕ → MemberSight) (m next start : ℕ) (k : Contact) (t : Told) → IsCast a ms → (ms m).heard ≡ Some k → (ms m).at ≡ Some t.contact
    → t.stamp ≡ a.numbered a.casting.boot → t.seen ≡ shown_in next start k.shown k.window → IsCast a (with_member ms m (tells (ms m) t))

-- the caster tells a member a STATE, with the start and the next number that its link shows; what has a number after the event was accepted
abbrev pub TellsMember : Type 0
TellsMember = (a : CasterSight) (ms : ℕ → MemberSight) (m : ℕ) (t : Told) → IsCast a ms → IsToldToMember a m t → IsCast a (with_member ms m (is_to_hear (ms m) t))

-- ---- what follows

-- What a member was given in a contact, also in a past one, is a front of what was accepted for it in that contact.
abbrev pub GivesAPrefix : Type 0
GivesAPrefix = (a : CasterSight) (ms : ℕ → MemberSight) → IsCast a ms → (m c : ℕ) → IsPrefixOf ((ms m).given c) (a.put m c)
