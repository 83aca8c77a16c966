-- The broadcast link of a node in one boot, and what each call makes of it.
use Rattle.std.specs.Prelude.{◌≡◌, ◌⊎◌, ℕ, zero, suc, ◌+◌, ◌-◌, ◌≤◌, ◌&&◌, Bool, false, List, [], ◌∷◌, ◌++◌, All, length, take, filter, map, nat_le, nat_lt, replicate, slice_set, Option, Some, None, if◌then◌else◌}
use Rattle.tipc_types.specs.Address.{IsNodeWord}
use Rattle.tipc_types.specs.Position.{distance_of, number_of}
use Rattle.tipc_types.specs.declared.link_words.BroadcastState.{BroadcastState}
use Rattle.tipc_types.specs.declared.link_words.Why.{Why}
use Rattle.tipc_types.specs.declared.link_words.Why.TheVariants as why
use Rattle.tipc_types.specs.declared.packet_lists.Kept.{Kept}
use Rattle.tipc_types.specs.declared.packet_lists.Taken.{Taken}
use Rattle.tipc_types.specs.Limits.{most_frame_bytes, window_size}
use Rattle.tipc_outside.specs.declared.outgoing.Outgoing.{Outgoing}
use Rattle.tipc_header.specs.Spelling.{Fields}
use Rattle.tipc_send_window.specs.Sending.{acked_of, fresh, kept_of, offered, passed_over, released, Sending, advanced, room}
use Rattle.tipc_recv_window.specs.declared.outcomes.LinkOutcome.{LinkOutcome}
use Rattle.tipc_recv_window.specs.declared.outcomes.LinkOutcome.TheVariants as outcome
use Rattle.tipc_recv_window.specs.Receiving.{Coming}
use Rattle.tipc_broadcast.specs.declared.contacts.Contact.{Contact}
use Rattle.tipc_broadcast.specs.Contacts.{acked_by_all, acknowledging, carried, coming_to, contact_with, heard, heard_outcome, IsContact, joined, member_set, refusal, refusal_to, shown_to, told, with_changed, without}
use Rattle.tipc_broadcast.specs.Frames.{accepted_frame, cast_again, cast_all}

-- the broadcast link of a node, as contracts see it
pub record Casting : Type 0 where
  -- the node's address word and its boot
  pub own : ℕ
  pub boot : ℕ
  -- which bearers are mended
  pub mended : List Bool
  -- what it sends: each packet as a frame, which has everything but its number
  pub sending : Sending
  -- the peers in contact, in the order in which they joined
  pub contacts : List Contact

-- a node that has just booted
abbrev pub booted : ℕ → ℕ → Casting
booted own boot = record { own = own; boot = boot; mended = replicate 2 false; sending = fresh; contacts = [] }

-- the broadcast link with a bearer, 0 or 1, mended or cut
abbrev pub with_bearer : Casting → ℕ → Bool → Casting
with_bearer v bearer mended = record v { mended = slice_set v.mended bearer mended }

-- the last position that was accepted
abbrev pub accepted : Sending → ℕ
accepted s = s.numbered + length s.waiting

-- the position of the next packet that is accepted
abbrev pub next_start : Casting → ℕ
next_start v = accepted v.sending + 1

-- ---- packets that move up

-- the broadcast link with another send window
abbrev pub with_sending : Casting → Sending → Casting
with_sending v s = record v { sending = s }

-- the broadcast link when the first n waiting packets have been numbered
abbrev pub sent : ℕ → Casting → Casting
sent n v = with_sending v (advanced n v.sending)

-- waiting packets are numbered until the window is full or none waits
unfoldable pub flushed : Casting → Casting
flushed v = sent (room v.sending) v

-- the frames that leave then
unfoldable pub flush_frames : Casting → List Outgoing
flush_frames v = cast_all v.mended v.sending.numbered (take (room v.sending) v.sending.waiting)

-- every packet that all peers in contact acknowledged is released
unfoldable pub settled : Casting → Casting
settled v = with_sending v (released v.sending (acked_by_all v.sending.numbered v.contacts - acked_of v.sending))

-- ---- a message is accepted

-- its packets wait, each for the peers that are in contact now
abbrev pub with_message : Casting → List (List ℕ) → Casting
with_message v pieces = with_sending v (offered v.sending (map (accepted_frame v.own v.boot (member_set v.contacts)) pieces))

-- with no peer in contact nothing is kept, and the numbers of what waits are passed over
abbrev pub kept_for : List Contact → Casting → Casting
kept_for [] v = with_sending v (passed_over v.sending)
kept_for (c ∷ contacts) v = v

-- after a message of these packets was accepted: what the window has room for is numbered
abbrev pub accepting : Casting → List (List ℕ) → Casting
accepting v pieces = kept_for v.contacts (flushed (with_message v pieces))

-- the frames that leave when a message of these packets is accepted
abbrev pub accepting_frames : Casting → List (List ℕ) → List Outgoing
accepting_frames v pieces = flush_frames (with_message v pieces)

-- ---- peers join and leave

-- the broadcast link with other contacts
abbrev pub with_contacts : Casting → List Contact → Casting
with_contacts v contacts = record v { contacts = contacts }

-- after a peer in this boot has joined: all that is accepted from now on is for it, too
abbrev pub joining : Casting → ℕ → ℕ → Casting
joining v peer boot = with_contacts v (v.contacts ++ joined peer boot (next_start v) ∷ [])

-- what all peers in contact acknowledged is released and packets move up, so many times: one that none of them is to have is released as soon
-- as it has moved up, and then more have room
unfoldable pub moved_up : ℕ → Casting → Casting
moved_up zero v = v
moved_up (suc n) v = flushed (settled (moved_up n v))

-- the frames that leave then
unfoldable pub moved_up_frames : ℕ → Casting → List Outgoing
moved_up_frames zero v = []
moved_up_frames (suc n) v = moved_up_frames n v ++ flush_frames (settled (moved_up n v))

-- How often that is when a peer leaves: at most 246 packets wait, of which 50 move up at once, and those that moved up last are released.
abbrev pub rounds_of_departure : ℕ
rounds_of_departure = 6

-- what is left when a peer has left: with nobody in contact everything is given up, else what waited for that peer
-- alone is released and packets move up
abbrev pub left_with : List Contact → Casting → Casting
left_with [] v = with_sending v (passed_over v.sending)
left_with (c ∷ contacts) v = moved_up rounds_of_departure v

-- the frames that leave when a peer has left; `contacts` are those that are left
abbrev pub left_frames : List Contact → Casting → List Outgoing
left_frames [] v = []
left_frames (c ∷ contacts) v = moved_up_frames rounds_of_departure v

-- after a peer has left
abbrev pub leaving : Casting → ℕ → Casting
leaving v peer = left_with (without peer v.contacts) (with_contacts v (without peer v.contacts))

-- the frames that leave when a peer leaves
abbrev pub leaving_frames : Casting → ℕ → List Outgoing
leaving_frames v peer = left_frames (without peer v.contacts) (with_contacts v (without peer v.contacts))

-- ---- a STATE of a peer in contact is taken

-- what the peer tells of its own broadcast: its start and its next number
abbrev pub informed : Casting → ℕ → ℕ → ℕ → Casting
informed v peer start next = with_contacts v (with_changed peer (told start next) v.contacts)

-- what it acknowledges of this node's
abbrev pub credited : Casting → ℕ → ℕ → Casting
credited v peer number = with_contacts v (with_changed peer (acknowledging v.sending.numbered number) v.contacts)

-- the unacknowledged packets among the `gap` ones behind an acknowledgement
abbrev pub is_behind : ℕ → ℕ → Kept → Bool
is_behind acknowledgement gap k = nat_lt 0 (distance_of acknowledgement k.number) && nat_le (distance_of acknowledgement k.number) gap

-- the frames that are sent again for a gap behind an acknowledgement
unfoldable pub repeat_frames : Casting → ℕ → ℕ → List Outgoing
repeat_frames v acknowledgement gap = cast_again v.mended (filter (is_behind acknowledgement gap) (kept_of v.sending))

-- what a peer in step tells: packets are released, missing ones are sent again, and packets move up
abbrev pub answered : Casting → ℕ → ℕ → Casting
answered v peer acknowledgement = flushed (settled (credited v peer acknowledgement))

-- the frames that leave then: what is sent again, and behind it what moves up
abbrev pub answered_frames : Casting → ℕ → ℕ → ℕ → List Outgoing
answered_frames v peer acknowledgement gap =
    repeat_frames (settled (credited v peer acknowledgement)) acknowledgement gap ++ flush_frames (settled (credited v peer acknowledgement))

-- acknowledgement and gap are read only where the peer says that it is in step
abbrev pub stating : Casting → ℕ → BroadcastState → Casting
stating v peer seen =
    if seen.in_step then answered (informed v peer seen.start seen.next) peer seen.acknowledged else informed v peer seen.start seen.next

-- the frames that leave when a STATE of a peer is taken
abbrev pub stating_frames : Casting → ℕ → BroadcastState → List Outgoing
stating_frames v peer seen =
    if seen.in_step then answered_frames (informed v peer seen.start seen.next) peer seen.acknowledged seen.gap else []

-- what a STATE to a peer shows
abbrev pub shown : Casting → ℕ → BroadcastState
shown v peer = shown_to (number_of (v.sending.numbered + 1)) (number_of (next_start v)) (contact_with peer v.contacts)

-- ---- a broadcast packet arrives

-- what the arrival of a broadcast packet answers; one from a node that isn't in contact is ignored as out of step
abbrev pub hearing_outcome : Casting → ℕ → ℕ → Taken → Option Contact → LinkOutcome
hearing_outcome v boot members t None = LinkOutcome.Ignored why.OutOfStep
hearing_outcome v boot members t (Some c) = heard_outcome t c (refusal v.own boot members c)

-- after a packet that came from a boot of a node, for these members
abbrev pub hearing : Casting → ℕ → ℕ → ℕ → Taken → Casting
hearing v peer boot members t = with_contacts v (with_changed peer (λ c. heard t c (refusal v.own boot members c)) v.contacts)

-- after a packet p that this arrival brought, from a boot of its previous node, for these members
abbrev pub arriving : Casting → ℕ → ℕ → Fields → ℕ → Casting
arriving v boot members p by = hearing v p.previous boot members (carried p by)

-- what the arrival of that packet answers
abbrev pub arriving_outcome : Casting → ℕ → ℕ → Fields → ℕ → LinkOutcome
arriving_outcome v boot members p by = hearing_outcome v boot members (carried p by) (contact_with p.previous v.contacts)

-- no more packets are taken than a window holds
abbrev pub TakesFew : LinkOutcome → Type 0
TakesFew (outcome.Took taken) = length taken ≤ window_size
TakesFew outcome.Deferred = Unit {0}
TakesFew (outcome.Ignored reason) = Unit {0}

-- what an arrival will make of the broadcast link: from which node the packet comes, what it makes of the receive window
-- of that node's broadcast, and what it answers
pub record CastComing : Type 0 where
  pub peer : ℕ
  pub window : Option Coming
  pub outcome : LinkOutcome

-- what it will make of the receive window; one from a node that isn't in contact is ignored
abbrev pub coming_of : Casting → ℕ → ℕ → Taken → Option Contact → Option Coming
coming_of v boot members t None = None
coming_of v boot members t (Some c) = coming_to t c (refusal v.own boot members c)

-- what the arrival of that packet will make of the broadcast link
abbrev pub coming_at : Casting → ℕ → ℕ → Fields → ℕ → CastComing
coming_at v boot members p by = record {
  peer = p.previous;
  window = coming_of v boot members (carried p by) (contact_with p.previous v.contacts);
  outcome = arriving_outcome v boot members p by;
}

-- why a packet for these members from a boot of a node is ignored before its number is read, where it is
abbrev pub refusal_of : Casting → ℕ → ℕ → ℕ → Option Why
refusal_of v boot members previous = refusal_to v.own boot members (contact_with previous v.contacts)

-- no more are unacknowledged than may be, and where packets wait, as many are
abbrev pub IsPackedCast : Sending → Type 0
IsPackedCast s = (length s.unacked ≤ window_size) × ((s.waiting ≡ []) ⊎ (length s.unacked ≡ window_size))

-- ---- what is true of every broadcast link

-- (246: fewer than 200 wait before a message, which has at most 47 packets)
pub record IsCasting (own : ℕ) (sending : Sending) (peers : List Contact) : Type 0 where
  pub node : IsNodeWord own
  pub few : length sending.waiting ≤ 246
  pub unacked : All (λ frame. 32 ≤ length frame) sending.unacked
  pub waiting : All (λ frame. 32 ≤ length frame) sending.waiting
  pub short_unacked : All (λ frame. length frame ≤ most_frame_bytes) sending.unacked
  pub short_waiting : All (λ frame. length frame ≤ most_frame_bytes) sending.waiting
  pub contacts : All (IsContact (acked_of sending) (accepted sending)) peers
