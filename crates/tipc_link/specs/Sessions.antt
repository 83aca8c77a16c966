-- One end of a link in one session, with its receiving record, and what each call makes of it. Packets are bytes as they wait to be sent, word 2 zero.
use Rattle.std.specs.Prelude.{◌≡◌, ℕ, ◌+◌, ◌-◌, ◌<◌, ◌≤◌, Bool, true, false, ◌||◌, List, [], ◌∷◌, ◌++◌, Option, length, take, drop, count_by, filter, map, max, min, nat_le, nat_lt, slice_index_or, ◌==◌, ◌&&◌, if◌then◌else◌}
use Rattle.tipc_types.specs.Position.{number_of, distance_of}
use Rattle.tipc_types.specs.declared.identity.To.TheVariants as to
use Rattle.tipc_types.specs.declared.link_words.BroadcastState.{BroadcastState}
use Rattle.tipc_types.specs.declared.link_words.Why.TheVariants as why
use Rattle.tipc_types.specs.declared.packet_lists.Kept.{Kept}
use Rattle.tipc_types.specs.declared.packet_lists.Taken.{Taken}
use Rattle.tipc_types.specs.Limits.{most_packet_bytes}
use Rattle.tipc_outside.specs.Frames.{Made}
use Rattle.tipc_outside.specs.declared.outgoing.Outgoing.{Outgoing}
use Rattle.tipc_header.specs.declared.packet.Header.{Header}
use Rattle.tipc_header.specs.declared.packet.Header.TheVariants as header
use Rattle.tipc_header.specs.declared.contents.HeaderContent.{HeaderContent}
use Rattle.tipc_header.specs.declared.contents.HeaderContent.TheVariants as content
use Rattle.tipc_header.specs.Contents.{header_content}
use Rattle.tipc_header.specs.Spelling.{Fields, spelling}
use Rattle.tipc_header.specs.Frames.{frame_of, sent_as, stamped}
use Rattle.tipc_send_window.specs.Sending.{Sending, fresh, offered, acknowledged, emptied, kept_of, swapped, without_waiting, advanced, room}
use Rattle.tipc_recv_window.specs.declared.outcomes.LinkOutcome.{LinkOutcome}
use Rattle.tipc_recv_window.specs.declared.outcomes.Place.{Place}
use Rattle.tipc_recv_window.specs.declared.outcomes.Place.TheVariants as place
use Rattle.tipc_recv_window.specs.Receiving.{Receiving, ahead, arrived_at, deferred_count, gap_to, outcome_at, past_wanted, place_at, run_of, shows_more}
use Rattle.tipc_link.specs.Records.{Received, is_tunnel, standing, unheard}
use Rattle.tipc_bundle.specs.Bundles.{Carries as Waits, IsInner, joined}
use Rattle.tipc_bundle.specs.Splitting.{IsBundle}
use Rattle.tipc_tunnel.specs.Tunnels.{IsTunnellable as MayStandInside, IsTunnel, Tunnelled, tunnel_packet}

-- what one end took since it last sent a frame: how many packets, and how many broadcast packets
pub record Unanswered : Type 0 where
  pub packets : ℕ
  pub broadcasts : ℕ

-- nothing was taken since the last frame
abbrev pub all_answered : Unanswered
all_answered = record { packets = 0; broadcasts = 0 }

-- one end of a link in one session, as contracts see it
pub record SessionEnd : Type 0 where
  -- address words
  pub own : ℕ
  pub peer : ℕ
  pub bearer : ℕ
  -- this end's epoch, and the peer's
  pub epoch : ℕ
  pub peer_epoch : ℕ
  -- what it sends
  pub sending : Sending
  -- the receiving record: the epoch of the peer that it is of, how many packets of the peer were taken, what is held of those behind
  -- them, and the position that the next packet of the peer will have, as far as the peer has shown
  pub record_epoch : ℕ
  pub taken : ℕ
  pub held : List (Option Taken)
  pub shown : ℕ
  -- what it has taken since it last sent a frame
  pub unanswered : Unanswered
  -- whether the last arrival asks for a STATE
  pub owes : Bool

-- ---- receiving

-- its receiving record
abbrev pub receiving_record : SessionEnd → Received
receiving_record e = record { epoch = e.record_epoch; taken = e.taken; held = e.held; shown = e.shown }

-- the end with another record: where that is of another epoch, no packet of it is unanswered
abbrev pub with_record : SessionEnd → Received → SessionEnd
with_record e r = record e {
  record_epoch = r.epoch;
  taken = r.taken;
  held = r.held;
  shown = r.shown;
  unanswered = if r.epoch == e.record_epoch then e.unanswered else record { packets = 0; broadcasts = e.unanswered.broadcasts };
}

-- the number that it wants
abbrev pub wanted : SessionEnd → ℕ
wanted e = number_of (e.taken + 1)

-- its receive window
abbrev pub receiving : SessionEnd → Receiving
receiving e = record { wanted = e.taken + 1; held = e.held }

-- how far a number lies past the wanted one
abbrev pub past : SessionEnd → ℕ → ℕ
past e number = past_wanted (receiving e) number

-- the highest next position, after the peer has shown this number
unfoldable pub highest : SessionEnd → ℕ → ℕ
highest e number = max e.shown (e.taken + 1 + ahead (receiving e) number)

-- how many packets are missing: up to the first that is held, or up to the next position shown
abbrev pub gap : SessionEnd → ℕ
gap e = gap_to (receiving e) e.shown

-- what a packet of the session brings: the peer's next number, how many packets it misses, and whether it asks for a STATE; a
-- packet under a number; or nothing
pub data Content : Type 0 where
  Shows : (next gap : ℕ) (probe : Bool) → Content
  Carries : (number : ℕ) (packet : List ℕ) → Content
  Nothing : Content

-- what a packet brings that is this to its link; `packet` are its bytes as they waited to be sent
abbrev pub content_as : HeaderContent → ℕ → List ℕ → Content
content_as (content.State state) sequence packet = Shows state.next state.gap state.probe
content_as content.Numbered sequence packet = Carries sequence packet
content_as other sequence packet = Nothing

-- what a packet brings, by its header
abbrev pub content_by : Header → ℕ → List ℕ → Content
content_by h sequence packet = content_as (header_content h) sequence packet

-- whether what is this to its link has a number
abbrev pub is_sequenced : HeaderContent → Bool
is_sequenced content.Numbered = true
is_sequenced other = false

-- whether a packet with this header has a number
abbrev pub is_numbered : Header → Bool
is_numbered h = is_sequenced (header_content h)

-- the previous node that a packet shows while it waits: a message names its node from the start, and what a link makes of other
-- packets (a bundle, a tunnel packet, a fragment) names none before it is sent
abbrev pub previous_waiting : Header → ℕ → ℕ
previous_waiting (header.Bundler bundle) previous = 0
previous_waiting (header.Changeover changeover) previous = 0
previous_waiting (header.Fragmenter fragment) previous = 0
previous_waiting _ previous = previous

-- a packet as it waited to be sent: it acknowledged nothing and had no number
abbrev pub as_waiting : Fields → Fields
as_waiting p = sent_as 0 0 (previous_waiting p.header p.previous) p

-- what a packet of a session brings
unfoldable pub content_of : Fields → Content
content_of p = content_by p.header p.sequence (spelling (as_waiting p))

-- the end after an acknowledgement with this number: the packets up to it are released
abbrev pub after_acknowledgement : SessionEnd → ℕ → SessionEnd
after_acknowledgement e acknowledgement = record e { sending = acknowledged e.sending acknowledgement }

-- a packet that was brought by this arrival
abbrev pub brought : ℕ → List ℕ → ℕ → Taken
brought number packet by = record { number = number; packet = packet; by = by }

-- where it stands, the receive window with it, and the packets that can be taken then
abbrev pub place_of : SessionEnd → Taken → Place
place_of e t = place_at (receiving e) (standing (receiving e) t)

-- the receive window when a packet has arrived
abbrev pub window_with : SessionEnd → Taken → Receiving
window_with e t = arrived_at (receiving e) (standing (receiving e) t) t

-- the packets that can be taken when a packet has arrived
unfoldable pub due_with : SessionEnd → Taken → List Taken
due_with e t = run_of (window_with e t).held

-- whether a packet at this place is held until those before it came
abbrev pub is_deferred : Place → Bool
is_deferred place.Deferred = true
is_deferred other = false

-- it is deferred, and the only one
unfoldable pub is_only_deferred : SessionEnd → Taken → Bool
is_only_deferred e t = is_deferred (place_of e t) && (deferred_count (window_with e t) == 1)

-- what can be taken is taken; the only deferred packet asks for a STATE
abbrev pub took : SessionEnd → Taken → SessionEnd
took e t = record e {
  taken = e.taken + length (due_with e t);
  held = drop (length (due_with e t)) (window_with e t).held;
  unanswered = record { packets = e.unanswered.packets + length (due_with e t); broadcasts = e.unanswered.broadcasts };
  owes = is_only_deferred e t;
}

-- a next number was shown; one that is past the own one asks for a STATE, and a probe does
abbrev pub noted : SessionEnd → ℕ → Bool → SessionEnd
noted e next probe = record e { shown = highest e next; owes = probe || shows_more (receiving e) next }

-- the unacknowledged packets among the `gap` ones behind an acknowledgement
abbrev pub is_behind : ℕ → ℕ → Kept → Bool
is_behind acknowledgement gap k = nat_lt 0 (distance_of acknowledgement k.number) && nat_le (distance_of acknowledgement k.number) gap

-- the packets that are sent again for a gap behind an acknowledgement
unfoldable pub repeated : SessionEnd → ℕ → ℕ → List Kept
repeated e acknowledgement gap = filter (is_behind acknowledgement gap) (kept_of e.sending)

-- frames were sent, or none
abbrev pub spoke : {A : Type 0} → SessionEnd → List A → SessionEnd
spoke e [] = e
spoke e (first ∷ others) = record e { unanswered = all_answered }

-- The acknowledgement of a packet is read first, then what it brings: missing packets are repeated, the wanted packet is taken
-- with those behind it, and one that is early is held, but for a tunnel packet, which is passed over then.
abbrev pub heard : SessionEnd → ℕ → ℕ → Content → SessionEnd
heard e by acknowledgement (Shows next gap probe) =
    noted (spoke (after_acknowledgement e acknowledgement) (repeated (after_acknowledgement e acknowledgement) acknowledgement gap)) next probe
heard e by acknowledgement (Carries number packet) = took (after_acknowledgement e acknowledgement) (brought number packet by)
heard e by acknowledgement Nothing = e

-- what an arrival answers; a packet that is taken is kept as it waited to be sent
abbrev pub placed : Place → List Taken → LinkOutcome
placed place due = outcome_at place due

-- what an arrival answers, by what it brings
abbrev pub outcome : SessionEnd → ℕ → Content → LinkOutcome
outcome e by (Shows next gap probe) = LinkOutcome.Took []
outcome e by (Carries number packet) = placed (place_of e (brought number packet by)) (due_with e (brought number packet by))
outcome e by Nothing = LinkOutcome.Ignored why.Epoch

-- ---- sending

-- A packet that may change over to the other link of a pair: it is a tunnel packet, or one of at most 1,452 bytes that may stand inside a
-- tunnel packet, which are payload, bundles, name items and fragments.
pub data MayChangeOver (packet : List ℕ) : Type 0 where
  inside : MayStandInside packet → length packet ≤ most_packet_bytes → MayChangeOver packet
  tunnel : (t : Tunnelled) → IsTunnel t → packet ≡ spelling (tunnel_packet t) → MayChangeOver packet

-- a packet that may wait: it may change over, and a bundle is one that was made of packets
pub record IsWaiting (packet : List ℕ) : Type 0 where
  pub long : 16 ≤ length packet
  pub made : IsBundle packet → (packets : List (List ℕ)) × Waits packet packets
  pub changes_over : MayChangeOver packet

-- packets are put behind those that wait
abbrev pub put : SessionEnd → List (List ℕ) → SessionEnd
put e pieces = record e { sending = offered e.sending pieces }

-- the last packet that waits is another one
abbrev pub with_last : SessionEnd → List ℕ → SessionEnd
with_last e packet = record e { sending = swapped e.sending packet }

-- the last packet that waits; no bytes where none does
abbrev pub last_of : SessionEnd → List ℕ
last_of e = slice_index_or e.sending.waiting (length e.sending.waiting - 1) []

-- A packet may join these, which wait as the last packet: it is payload or name items as they are, and the bundle of all isn't
-- too long.
pub record MayJoin (e : SessionEnd) (packets : List (List ℕ)) (packet : List ℕ) : Type 0 where
  pub waits : 0 < length e.sending.waiting
  pub last : Waits (last_of e) packets
  pub inner : IsInner packet
  pub fits : length (joined (packets ++ packet ∷ [])) ≤ most_packet_bytes

-- The packets of a message are put: one that may join the last packet that waits does, and any others wait behind it.
pub data IsPut (e : SessionEnd) : List (List ℕ) → SessionEnd → Type 0 where
  joins : (packets : List (List ℕ)) (packet : List ℕ) → MayJoin e packets packet → IsPut e (packet ∷ []) (with_last e (joined (packets ++ packet ∷ [])))
  waits : (pieces : List (List ℕ)) → ((packets : List (List ℕ)) (packet : List ℕ) → pieces ≡ packet ∷ [] → MayJoin e packets packet → ⊥) → IsPut e pieces (put e pieces)

-- a new end, which is up, with this record; and with a new one
abbrev pub begun_with : ℕ → ℕ → ℕ → ℕ → ℕ → Received → SessionEnd
begun_with own peer bearer epoch peer_epoch r = record {
  own = own;
  peer = peer;
  bearer = bearer;
  epoch = epoch;
  peer_epoch = peer_epoch;
  sending = fresh;
  record_epoch = r.epoch;
  taken = r.taken;
  held = r.held;
  shown = r.shown;
  unanswered = all_answered;
  owes = false;
}

-- a new end, which is up, with a new receiving record
abbrev pub begun : ℕ → ℕ → ℕ → ℕ → ℕ → SessionEnd
begun own peer bearer epoch peer_epoch = begun_with own peer bearer epoch peer_epoch (unheard peer_epoch)

-- ---- giving packets up

-- all packets were given up, or those that wait
abbrev pub given_up : SessionEnd → SessionEnd
given_up e = record e { sending = emptied e.sending }

-- the end after its waiting packets were given up
abbrev pub waiting_given : SessionEnd → SessionEnd
waiting_given e = record e { sending = without_waiting e.sending }

-- how many of the unacknowledged and the waiting packets are tunnel packets; counted up to 4,294,967,295
abbrev pub tunnel_count : SessionEnd → ℕ
tunnel_count e = min (count_by is_tunnel e.sending.unacked + count_by is_tunnel e.sending.waiting) 4294967295

-- ---- moving up

-- the end when the first n waiting packets were numbered and sent
abbrev pub sent : ℕ → SessionEnd → SessionEnd
sent n e = record e { sending = advanced n e.sending; unanswered = if n == 0 then e.unanswered else all_answered }

-- waiting packets move up until the window is full or none waits
unfoldable pub flushed : SessionEnd → SessionEnd
flushed e = sent (room e.sending) e

-- the packets that move up then
abbrev pub moving : SessionEnd → List (List ℕ)
moving e = take (room e.sending) e.sending.waiting

-- the frame of a packet under a number
abbrev pub packet_frame : SessionEnd → ℕ → List ℕ → Outgoing
packet_frame e number packet = record {
  bearer = e.bearer;
  to = to.Node (record { word = e.peer });
  frame = frame_of e.epoch e.peer_epoch (stamped (number_of e.taken) number e.own packet);
}

-- the frames of packets, the first of them behind the position `before`
abbrev pub packet_frames : SessionEnd → ℕ → List (List ℕ) → List Outgoing
packet_frames e before [] = []
packet_frames e before (packet ∷ packets) = packet_frame e (number_of (before + 1)) packet ∷ packet_frames e (before + 1) packets

-- the frames that leave when waiting packets move up
unfoldable pub flush_frames : SessionEnd → List Outgoing
flush_frames e = packet_frames e e.sending.numbered (moving e)

-- the frames of packets that are sent again
unfoldable pub repeat_frames : SessionEnd → ℕ → ℕ → List Outgoing
repeat_frames e acknowledgement gap = map (λ k. packet_frame e k.number k.packet) (repeated e acknowledgement gap)

-- ---- an arrival

-- the end after an arrival: what it released, held and took, and what then moved up
abbrev pub arrived : SessionEnd → ℕ → ℕ → Content → SessionEnd
arrived e by acknowledgement Nothing = e
arrived e by acknowledgement (Shows next gap probe) = flushed (heard e by acknowledgement (Shows next gap probe))
arrived e by acknowledgement (Carries number packet) = flushed (heard e by acknowledgement (Carries number packet))

-- the frames of the packets that are sent again at an arrival that brought this
abbrev pub again_frames : SessionEnd → ℕ → Content → List Outgoing
again_frames e acknowledgement (Shows next gap probe) = repeat_frames (after_acknowledgement e acknowledgement) acknowledgement gap
again_frames e acknowledgement other = []

-- the end after packets moved up at an arrival that brought this
abbrev pub moved_at : Content → SessionEnd → SessionEnd
moved_at Nothing e = e
moved_at other e = flushed e

-- the frames that leave as packets move up, on an end that has heard an arrival that brought this; none where it brought nothing
abbrev pub moved_frames : Content → SessionEnd → List Outgoing
moved_frames Nothing e = []
moved_frames other e = flush_frames e

-- packets that are sent again leave before those that move up
abbrev pub arrival_frames : SessionEnd → ℕ → ℕ → Content → Made
arrival_frames e by acknowledgement c = record { first = again_frames e acknowledgement c; behind = moved_frames c (heard e by acknowledgement c) }

-- the packets that move up at an arrival
abbrev pub arrival_moving : SessionEnd → ℕ → ℕ → Content → List (List ℕ)
arrival_moving e by acknowledgement Nothing = []
arrival_moving e by acknowledgement (Shows next gap probe) = moving (heard e by acknowledgement (Shows next gap probe))
arrival_moving e by acknowledgement (Carries number packet) = moving (heard e by acknowledgement (Carries number packet))

-- ---- STATE

-- the priority of a bearer's links
abbrev pub priority_of : ℕ → ℕ
priority_of bearer = if bearer == 0 then 11 else 10

-- the STATE that tells the peer where this end stands
unfoldable pub state_fields : SessionEnd → BroadcastState → Bool → Fields
state_fields e broadcast probe = record {
  acknowledgement = number_of e.taken;
  sequence = 0;
  previous = e.own;
  header = header.State (record {
    gap = gap e;
    broadcast_acknowledgement = broadcast.acknowledged;
    next = number_of (e.sending.numbered + 1);
    broadcast_next = broadcast.next;
    broadcast_start = broadcast.start;
    broadcast_gap = broadcast.gap;
    destination_node = e.peer;
    probe = probe;
    in_step = broadcast.in_step;
    priority = priority_of e.bearer;
  });
  rest = [];
}

-- the frame of a STATE; `broadcast` is what it shows of the broadcast, and `probe` whether it asks for a STATE
abbrev pub state_frame : SessionEnd → BroadcastState → Bool → Outgoing
state_frame e broadcast probe = record {
  bearer = e.bearer;
  to = to.Node (record { word = e.peer });
  frame = frame_of e.epoch e.peer_epoch (spelling (state_fields e broadcast probe));
}

-- an arrival took so many broadcast packets, and may ask for a STATE by what it shows or brings of the broadcast
abbrev pub with_broadcast : SessionEnd → ℕ → Bool → SessionEnd
with_broadcast e taken asks = record e {
  unanswered = record { packets = e.unanswered.packets; broadcasts = e.unanswered.broadcasts + taken };
  owes = asks || e.owes;
}

-- a STATE is due where the arrival asks for one, and once 16 packets or 16 broadcast packets were taken since the last frame
abbrev pub is_due : SessionEnd → Bool
is_due e = e.owes || (nat_le 16 e.unanswered.packets || nat_le 16 e.unanswered.broadcasts)

-- the end when it has sent a STATE
abbrev pub after_state : SessionEnd → SessionEnd
after_state e = record e { unanswered = all_answered }

-- the end when it has sent the STATE that was due
abbrev pub answered : SessionEnd → SessionEnd
answered e = record e { unanswered = if is_due e then all_answered else e.unanswered; owes = false }

-- the STATE that is due; none where none is
abbrev pub answer_frames : SessionEnd → BroadcastState → List Outgoing
answer_frames e broadcast = if is_due e then state_frame e broadcast false ∷ [] else []
