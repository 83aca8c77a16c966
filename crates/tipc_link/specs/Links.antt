-- A link end through its states, and what each call makes of it.
use Rattle.std.specs.Prelude.{ℕ, Bool, true, false, List, [], ◌∷◌, ◌++◌, Option, Some, None, length, option_map, ◌==◌, ◌&&◌, if◌then◌else◌}
use Rattle.tipc_types.specs.LinkStates.{is_up}
use Rattle.tipc_types.specs.declared.identity.To.TheVariants as to
use Rattle.tipc_types.specs.declared.link_words.BroadcastState.{BroadcastState}
use Rattle.tipc_types.specs.declared.link_words.LinkState.{LinkState}
use Rattle.tipc_types.specs.declared.link_words.LinkState.TheVariants.{ResetUnknown}
use Rattle.tipc_types.specs.declared.link_words.Reply.TheVariants as reply
use Rattle.tipc_types.specs.declared.link_words.Why.TheVariants as why
use Rattle.tipc_types.specs.declared.link_words.OldSession.{OldSession}
use Rattle.tipc_types.specs.declared.packet_lists.Kept.{Kept}
use Rattle.tipc_types.specs.declared.packet_lists.Taken.{Taken}
use Rattle.tipc_outside.specs.Frames.{Made}
use Rattle.tipc_outside.specs.declared.outgoing.Outgoing.{Outgoing}
use Rattle.tipc_header.specs.declared.packet.Header.{Header}
use Rattle.tipc_header.specs.declared.packet.Header.TheVariants as header
use Rattle.tipc_header.specs.declared.contents.HeaderContent.{HeaderContent}
use Rattle.tipc_header.specs.declared.contents.HeaderContent.TheVariants as content
use Rattle.tipc_header.specs.declared.contents.Notice.TheVariants as notices
use Rattle.tipc_header.specs.Contents.{header_content}
use Rattle.tipc_header.specs.declared.packet.Reset.{Reset}
use Rattle.tipc_header.specs.Spelling.{Fields, spelling}
use Rattle.tipc_header.specs.Frames.{frame_of}
use Rattle.tipc_link_fsm.specs.declared.changes.Change.{Change}
use Rattle.tipc_link_fsm.specs.declared.changes.Change.TheVariants.{Stay, Up, Down, Answer, Ignore}
use Rattle.tipc_link_fsm.specs.Table.{Fsm, Outcome, fresh, gives, on_activate, on_cut, on_peer_tunnel, on_reset, on_traffic, contact_ended, forget_peer, release}
use Rattle.tipc_send_window.specs.Sending.{kept_of}
use Rattle.tipc_recv_window.specs.declared.outcomes.LinkOutcome.{LinkOutcome}
use Rattle.tipc_link.specs.Records.{Early, Received, early_of, early_record, kept_for, named, tunnelled}
use Rattle.tipc_link.specs.Sessions.{SessionEnd, Content, again_frames, answer_frames, answered, arrived, begun_with, content_of, given_up, heard, moved_frames, outcome, priority_of, receiving_record, state_frame, after_state, tunnel_count, waiting_given, with_broadcast, with_record}

-- one end of a link to a peer on one bearer, as contracts see it
pub record LinkEnd : Type 0 where
  -- address words
  pub own : ℕ
  pub peer : ℕ
  pub bearer : ℕ
  pub mended : Bool
  pub fsm : Fsm
  -- the contact numbers that it shows: the node's own, and the highest that the peer has shown
  pub contact : ℕ
  pub peer_contact : ℕ
  -- the present session, or the last one where the link is down; none where there was none
  pub session : Option SessionEnd
  -- the receiving record that tunnel packets made before there was a session
  pub early : Option Early

-- a new end, on a cut bearer
abbrev pub made : ℕ → ℕ → ℕ → ℕ → LinkEnd
made own peer bearer epoch = record {
  own = own;
  peer = peer;
  bearer = bearer;
  mended = false;
  fsm = fresh epoch;
  contact = epoch;
  peer_contact = 0;
  session = None;
  early = None;
}

-- ---- the receiving record

-- it is the session's, also where the link is down
abbrev pub record_in : Option SessionEnd → Option Early → Option Received
record_in None early = option_map early_record early
record_in (Some s) early = Some (receiving_record s)

-- the receiving record of a link end; none where nothing was received of the peer yet
abbrev pub record_of : LinkEnd → Option Received
record_of e = record_in e.session e.early

-- what stands beside the session when the record has become r: r itself as long as there is no session
abbrev pub early_with : Option SessionEnd → Option Early → Received → Option Early
early_with None early r = Some (early_of r)
early_with (Some s) early r = early

-- the end with another record
abbrev pub recorded : LinkEnd → Received → LinkEnd
recorded e r = record e { session = option_map (λ s. with_record s r) e.session; early = early_with e.session e.early r }

-- ---- frames

-- the peer's epoch in an envelope: 0 where it isn't known
abbrev pub known : Option ℕ → ℕ
known None = 0
known (Some epoch) = epoch

-- what RESET and ACTIVATE say
abbrev pub shown_by : LinkEnd → Reset
shown_by e = record { destination_node = e.peer; priority = priority_of e.bearer; contact = e.contact; peer_contact = e.peer_contact }

-- the packet of link protocol with this header that is no STATE: it has no numbers, and nothing follows
abbrev pub notice_fields : LinkEnd → Header → Fields
notice_fields e h = record { acknowledgement = 0; sequence = 0; previous = e.own; header = h; rest = [] }

-- the frame of a RESET or an ACTIVATE to the peer, under the own epoch and the peer's as the end knows it
abbrev pub notice : LinkEnd → Header → Outgoing
notice e h = record {
  bearer = e.bearer;
  to = to.Node (record { word = e.peer });
  frame = frame_of e.fsm.own (known e.fsm.peer) (spelling (notice_fields e h));
}

-- on a cut bearer nothing is sent
abbrev pub on_bearer : LinkEnd → Outgoing → List Outgoing
on_bearer e frame = if e.mended then frame ∷ [] else []

-- the RESET that an end sends, none on a cut bearer
abbrev pub reset_frames : LinkEnd → List Outgoing
reset_frames e = on_bearer e (notice e (header.Reset (shown_by e)))

-- the ACTIVATE that an end sends, none on a cut bearer
abbrev pub activate_frames : LinkEnd → List Outgoing
activate_frames e = on_bearer e (notice e (header.Activate (shown_by e)))

-- the STATE of a session; none where there is no session
abbrev pub state_frames : Option SessionEnd → BroadcastState → Bool → List Outgoing
state_frames None shown probe = []
state_frames (Some s) shown probe = state_frame s shown probe ∷ []

-- ---- what follows a change of the link states

-- the session of an end that goes up, which keeps a record of the peer's epoch
abbrev pub session_of : LinkEnd → SessionEnd
session_of e = begun_with e.own e.peer e.bearer e.fsm.own (known e.fsm.peer) (kept_for (record_of e) (known e.fsm.peer))

-- a link that goes up begins a session and sends a STATE; a STATE that is sent is the session's
abbrev pub followed : LinkEnd → Change → LinkEnd
followed e Up = record e { session = Some (session_of e); early = None }
followed e (Answer (reply.State probe)) = record e { session = option_map after_state e.session }
followed e other = e

-- the frames that an end sends by a change of its link states; `shown` is what a STATE tells of the broadcast
abbrev pub follow_frames : LinkEnd → Change → BroadcastState → List Outgoing
follow_frames e Up shown = state_frame (session_of e) shown false ∷ []
follow_frames e (Answer reply.Reset) shown = reset_frames e
follow_frames e (Answer reply.Activate) shown = activate_frames e
follow_frames e (Answer (reply.State probe)) shown = state_frames e.session shown probe
follow_frames e other shown = []

-- the end with other link states
abbrev pub with_fsm : LinkEnd → Fsm → LinkEnd
with_fsm e fsm = record e { fsm = fsm }

-- the end with this session
abbrev pub with_session : LinkEnd → SessionEnd → LinkEnd
with_session e s = record e { session = Some s }

-- the end after an outcome of its link states, and the frames that it sends then
abbrev pub after : LinkEnd → Outcome → LinkEnd
after e o = followed (with_fsm e o.after) o.change

-- the frames that an end sends at an outcome of its link states
abbrev pub frames : LinkEnd → Outcome → BroadcastState → List Outgoing
frames e o shown = follow_frames (with_fsm e o.after) o.change shown

-- ---- calls

-- whether a link end is in RESET_UNKNOWN
abbrev pub is_reset_unknown : LinkState → Bool
is_reset_unknown ResetUnknown = true
is_reset_unknown _ = false

-- the bearer is mended: an end in RESET_UNKNOWN sends RESET
abbrev pub mended_end : LinkEnd → LinkEnd
mended_end e = record e { mended = true }

-- the frames that an end sends as its bearer is mended
abbrev pub mend_frames : LinkEnd → List Outgoing
mend_frames e = if is_reset_unknown e.fsm.state then reset_frames (mended_end e) else []

-- the end after its bearer was cut; `held` tells whether it is held where that takes it down, since the pair's other
-- link is up
abbrev pub cut_end : LinkEnd → Bool → LinkEnd
cut_end e held = record e { mended = false; fsm = (on_cut e.fsm held).after }

-- the end of the contact, which sends a RESET whether the link was up or not
abbrev pub ended_end : LinkEnd → LinkEnd
ended_end e = record e { fsm = (contact_ended e.fsm).after }

-- whether a change takes the link down
abbrev pub is_down : Change → Bool
is_down (Down cause) = true
is_down other = false

-- an end that forgets the peer says RESET only where that took it down
abbrev pub forget_frames : LinkEnd → List Outgoing
forget_frames e = if is_down (forget_peer e.fsm).change then reset_frames (with_fsm e (forget_peer e.fsm).after) else []

-- the original of a tunnel packet of this end came through the other link
abbrev pub tunnelled_down : LinkEnd → ℕ → LinkEnd
tunnelled_down e epoch = with_fsm e (on_peer_tunnel e.fsm epoch).after

-- whether a change is an answer alone: the end sends a frame and goes neither up nor down
abbrev pub is_answer : Change → Bool
is_answer (Answer reply) = true
is_answer other = false

-- a Held end is released, and says RESET
abbrev pub release_frames : LinkEnd → List Outgoing
release_frames e = if is_answer (release e.fsm).change then reset_frames (with_fsm e (release e.fsm).after) else []

-- ---- changeover

-- the session's packets were given up, or those that wait
abbrev pub handed_over : LinkEnd → LinkEnd
handed_over e = record e { session = option_map given_up e.session }

-- the end after its waiting packets were taken from it
abbrev pub without_waiting : LinkEnd → LinkEnd
without_waiting e = record e { session = option_map waiting_given e.session }

-- the unacknowledged packets beside their numbers, and the session in which they have them
abbrev pub unacked_of : Option SessionEnd → List Kept
unacked_of None = []
unacked_of (Some s) = kept_of s.sending

-- what tunnel packets say of a session whose packets they carry: its bearer, and this end's epoch in it
abbrev pub name_of : SessionEnd → OldSession
name_of s = record { bearer = s.bearer; epoch = s.epoch }

-- the packets that wait in a session; none where there is no session
abbrev pub waiting_of : Option SessionEnd → List (List ℕ)
waiting_of None = []
waiting_of (Some s) = s.sending.waiting

-- how many of the packets of a session, unacknowledged and waiting, are tunnel packets
abbrev pub tunnels_of : Option SessionEnd → ℕ
tunnels_of None = 0
tunnels_of (Some s) = tunnel_count s

-- a tunnel packet on the other link named this epoch of the peer
abbrev pub named_end : LinkEnd → ℕ → LinkEnd
named_end e epoch = recorded e (named (record_of e) epoch)

-- and a packet of that epoch came in it
abbrev pub tunnelled_end : LinkEnd → ℕ → Taken → LinkEnd
tunnelled_end e epoch t = recorded e (tunnelled (named (record_of e) epoch) epoch t)

-- how many packets each direction numbered: the own ones, and those of the peer as taken
abbrev pub numbers_of : Option SessionEnd → Option (ℕ × ℕ)
numbers_of session = option_map (λ (s : SessionEnd). (s.sending.numbered, s.taken)) session

-- how many packets are unacknowledged, and how many wait
abbrev pub session_load : Option SessionEnd → Option (ℕ × ℕ)
session_load session = option_map (λ (s : SessionEnd). (length s.sending.unacked, length s.sending.waiting)) session

-- the own epoch of the session, and how many packets were numbered in it
abbrev pub count_of : Option SessionEnd → Option (ℕ × ℕ)
count_of session = option_map (λ (s : SessionEnd). (s.epoch, s.sending.numbered)) session

-- how many packets were numbered under an epoch of this end, where that is the epoch of the present session or the last one
abbrev pub numbered_in : Option SessionEnd → ℕ → Option ℕ
numbered_in None epoch = None
numbered_in (Some s) epoch = if s.epoch == epoch then Some s.sending.numbered else None

-- and where the arrival took so many broadcast packets, or asks for a STATE by what it shows or brings of the broadcast
abbrev pub answered_with : LinkEnd → ℕ → Bool → LinkEnd
answered_with e taken asks = if is_up e.fsm.state then record e { session = option_map (λ s. answered (with_broadcast s taken asks)) e.session } else e

-- the STATE of a session, where one is due
abbrev pub session_answer : Option SessionEnd → BroadcastState → List Outgoing
session_answer None shown = []
session_answer (Some s) shown = answer_frames s shown

-- the frames that an end sends as the answer where the arrival brought or showed anything of the broadcast
abbrev pub frames_with : LinkEnd → ℕ → Bool → BroadcastState → List Outgoing
frames_with e taken asks shown = if is_up e.fsm.state then session_answer (option_map (λ s. with_broadcast s taken asks) e.session) shown else []

-- ---- an arrival

-- what the link states make of a packet that is this to the link
abbrev pub outcome_as : Fsm → HeaderContent → ℕ → ℕ → Bool → Outcome
outcome_as s (content.Notice (notices.Reset r)) es er held = on_reset s es held
outcome_as s (content.Notice (notices.Activate a)) es er held = on_activate s es er
outcome_as s content.Discovery es er held = gives s (Ignore why.Epoch)
outcome_as s other es er held = on_traffic s es er

-- what the link states make of a packet
abbrev pub outcome_of : Fsm → Header → ℕ → ℕ → Bool → Outcome
outcome_of s h es er held = outcome_as s (header_content h) es er held

-- whether the link states took it as a packet of the session
abbrev pub is_taken : Change → Bool
is_taken Up = true
is_taken Stay = true
is_taken other = false

-- whether what is this to its link belongs to a session: STATE, and all that has a number
abbrev pub is_of_session : HeaderContent → Bool
is_of_session (content.State s) = true
is_of_session content.Numbered = true
is_of_session other = false

-- whether packets with this header belong to a session
abbrev pub is_traffic : Header → Bool
is_traffic h = is_of_session (header_content h)

-- a STATE or a numbered packet of the session is heard by it
abbrev pub is_heard : Header → Change → Bool
is_heard h change = is_traffic h && is_taken change

-- the end after its session has heard a packet
abbrev pub heard_end : LinkEnd → ℕ → ℕ → Content → LinkEnd
heard_end e by acknowledgement c = record e { session = option_map (λ s. arrived s by acknowledgement c) e.session }

-- the frames of the packets that a session sends again at an arrival; none where there is no session
abbrev pub sent_again : Option SessionEnd → ℕ → Content → List Outgoing
sent_again None acknowledgement c = []
sent_again (Some s) acknowledgement c = again_frames s acknowledgement c

-- the frames of the packets that a session numbers at an arrival
abbrev pub newly_numbered : Option SessionEnd → ℕ → ℕ → Content → List Outgoing
newly_numbered None by acknowledgement c = []
newly_numbered (Some s) by acknowledgement c = moved_frames c (heard s by acknowledgement c)

-- the frames that a session sends when it hears a packet
abbrev pub heard_by : Option SessionEnd → ℕ → ℕ → Content → Made
heard_by session by acknowledgement c = record { first = sent_again session acknowledgement c; behind = newly_numbered session by acknowledgement c }

-- what an arrival answers that a session hears
abbrev pub heard_outcome : Option SessionEnd → ℕ → Content → LinkOutcome
heard_outcome None by c = LinkOutcome.Took []
heard_outcome (Some s) by c = outcome s by c

-- what an arrival answers that no session hears: why it is ignored, or that it was taken and brings no packet
abbrev pub change_outcome : Change → LinkOutcome
change_outcome (Ignore reason) = LinkOutcome.Ignored reason
change_outcome other = LinkOutcome.Took []

-- the end after a packet arrived, the frames that it sends, and what the arrival brought
abbrev pub arrival_end : LinkEnd → Outcome → Fields → ℕ → LinkEnd
arrival_end e o p by = if is_heard p.header o.change then heard_end (after e o) by p.acknowledgement (content_of p) else after e o

-- the frames of the packets that are sent again at an arrival
abbrev pub repeats_at : LinkEnd → Outcome → Fields → List Outgoing
repeats_at e o p = if is_heard p.header o.change then sent_again (after e o).session p.acknowledgement (content_of p) else []

-- the frames of the packets that are numbered at an arrival
abbrev pub numbers_at : LinkEnd → Outcome → Fields → ℕ → List Outgoing
numbers_at e o p by = if is_heard p.header o.change then newly_numbered (after e o).session by p.acknowledgement (content_of p) else []

-- The frames that an end sends at an arrival: those of its link states and of the packets that are sent again leave first, and behind
-- them those of the packets that are numbered then.
abbrev pub link_frames : LinkEnd → Outcome → Fields → ℕ → BroadcastState → Made
link_frames e o p by shown = record { first = frames e o shown ++ repeats_at e o p; behind = numbers_at e o p by }

-- what an arrival answers
abbrev pub link_outcome : LinkEnd → Outcome → Fields → ℕ → LinkOutcome
link_outcome e o p by = if is_heard p.header o.change then heard_outcome (after e o).session by (content_of p) else change_outcome o.change
