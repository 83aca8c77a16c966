-- What a node may do at its pair, one deed at a time. Each call of a pair is a list of deeds, and so is what a node does in one event.
use Rattle.std.specs.Prelude.{◌≡◌, ◌≢◌, ◌<◌, ◌≤◌, ℕ, Bool, ◌+◌, ◌^◌, true, false, List, ◌++◌, Some, None, length, option_map, slice_get}
use Rattle.tipc_types.specs.LinkStates.{is_up}
use Rattle.tipc_types.specs.Prefixes.{IsPrefixOf}
use Rattle.tipc_types.specs.declared.link_words.BroadcastState.{BroadcastState}
use Rattle.tipc_types.specs.declared.link_words.Cause.{Cause}
use Rattle.tipc_types.specs.declared.packet_lists.Kept.{Kept}
use Rattle.tipc_types.specs.declared.packet_lists.Taken.{Taken}
use Rattle.tipc_types.specs.Limits.{most_age, window_size}
use Rattle.tipc_outside.specs.declared.outgoing.Outgoing.{Outgoing}
use Rattle.tipc_header.specs.declared.packet.Header.TheVariants as header
use Rattle.tipc_header.specs.Frames.{frame_of}
use Rattle.tipc_header.specs.Grammar.{Fits}
use Rattle.tipc_header.specs.Spelling.{Fields, spelling}
use Rattle.tipc_send_window.specs.Sending.{kept_of}
use Rattle.tipc_link_fsm.specs.declared.changes.Change.TheVariants.{Up, Down}
use Rattle.tipc_link_fsm.specs.Runs.{Call, ActivateArrives, ContactEnds, ForgetsPeer, ResetArrives, TrafficArrives, outcome}
use Rattle.tipc_link_fsm.specs.Table.{contact_ended, forget_peer, is_held}
use Rattle.tipc_contact.specs.Order.{IsContactShown}
use Rattle.tipc_contact.specs.Sides.{IsNoticed, first_number}
use Rattle.tipc_link.specs.Direction.{IsReceiver}
use Rattle.tipc_link.specs.Links.{LinkEnd, after, handed_over, is_traffic, known, made, notice, record_of, recorded, shown_by, with_session}
use Rattle.tipc_link.specs.Records.{Received}
use Rattle.tipc_link.specs.Sessions.{Carries, SessionEnd, Unanswered, brought, content_of, due_with, flushed, moving, packet_frame, after_acknowledgement, state_frame, took}
use Rattle.tipc_link.specs.Parts.{is_quiet, packets_in, IsShowable}
use Rattle.tipc_paired.specs.Paired.{IsPacket, IsShown}
use Rattle.tipc_paired.specs.Views.{Begun, Frame, IsApart, Node, View, Wire, er_of, es_of, put_at, said_by, session_on, with_end, with_told, with_wire}

-- ---- link ends

-- a link end is made under the present contact number
abbrev pub made_on : Node → ℕ → LinkEnd
made_on n bearer = record (made n.own n.peer bearer n.contact) { peer_contact = n.seen }

-- A frame of y shows the two epochs on the bearer, and was told in the session that y began under the first one.
pub record IsOfBegun (y : View) (bearer es er : ℕ) : Type 0 where
  pub begun : Begun
  pub begun_is : (y.wires bearer).begun es ≡ Some begun
  pub shown : IsShown y.told bearer es er begun.contact

-- What makes a call of a link end lawful: a RESET or an ACTIVATE is given to it only while the contact number that it shows is the
-- highest seen, and what is said to arrive was told; the calls that end a contact or forget the peer are made at all link ends.
abbrev pub MayCall : View → View → ℕ → Call → Type 0
MayCall x y bearer (ResetArrives es held) = IsNoticed (said_by y) bearer es x.node.seen
MayCall x y bearer (ActivateArrives es er) = IsShown y.told bearer es er x.node.seen
MayCall x y bearer (TrafficArrives es er) = IsOfBegun y bearer es er
MayCall x y bearer ForgetsPeer = ⊥
MayCall x y bearer ContactEnds = ⊥
MayCall x y bearer other = Unit {0}

-- a session begins with a link that goes up
abbrev pub begun_by : Node → LinkEnd → Begun
begun_by n e = record { peer_epoch = known e.fsm.peer; contact = n.contact; peer_contact = n.seen }

-- the wire when the session of this end, whose link went up, has begun
abbrev pub with_begun : Node → Wire → LinkEnd → Wire
with_begun n w e = record w { end = Some e; begun = put_at w.begun e.fsm.own (Some (begun_by n e)) }

-- ---- contacts

-- the contact ended: each link end takes the next epoch, forgets the peer's and is down, and shows the next contact number
abbrev pub ended_with : ℕ → LinkEnd → LinkEnd
ended_with contact e = record e { fsm = (contact_ended e.fsm).after; contact = contact }

-- the node when its contact has ended
abbrev pub parted_view : View → View
parted_view x = record {
  node = record x.node { contact = x.node.contact + 1 };
  wires = λ b. record (x.wires b) { end = option_map (ended_with (x.node.contact + 1)) (x.wires b).end };
  told = x.told;
}

-- without contact the peer showed a higher contact number: each link end forgets its epoch
abbrev pub forgot_with : ℕ → LinkEnd → LinkEnd
forgot_with seen e = record e { fsm = (forget_peer e.fsm).after; peer_contact = seen }

-- the node without contact when the peer has shown this contact number
abbrev pub risen_view : View → ℕ → View
risen_view x number = record {
  node = record x.node { seen = number };
  wires = λ b. record (x.wires b) { end = option_map (forgot_with number) (x.wires b).end };
  told = x.told;
}

-- ---- sessions

-- the wire with this session of its link end
abbrev pub with_going : Wire → LinkEnd → SessionEnd → Wire
with_going w e s = with_end w (with_session e s)

-- A link that is up, with its session.
pub record IsUp (w : Wire) (e : LinkEnd) (s : SessionEnd) : Type 0 where
  pub end_is : w.end ≡ Some e
  pub up : is_up e.fsm.state ≡ true
  pub session_is : e.session ≡ Some s

-- A frame of y arrived at x in the session s: a STATE or a numbered packet, and neither node has numbered more than 30,000 packets
-- since the event that told it. That event may have numbered 50 behind it.
pub record Hears (x y : View) (bearer : ℕ) (s : SessionEnd) (p : Fields) : Type 0 where
  pub place : ℕ
  pub frame : Frame
  pub there : slice_get y.told place ≡ Some frame
  pub bearer_is : frame.bearer ≡ bearer
  pub fits : Fits p
  pub bytes : frame.bytes ≡ frame_of s.peer_epoch s.epoch (spelling p)
  pub traffic : is_traffic p.header ≡ true
  pub own_fresh : length ((x.wires bearer).line s.epoch) ≤ frame.peer_numbered + most_age
  pub peer_fresh : length ((y.wires bearer).line s.peer_epoch) ≤ frame.numbered + (most_age + window_size)

-- ---- frames

-- what a node may tell on a bearer: a RESET or an ACTIVATE of its link end, where that isn't Held; a STATE of its session; a packet that its session
-- numbered and that isn't acknowledged
pub data MayTell (w : Wire) : Outgoing → Type 0 where
  resets : (e : LinkEnd) → w.end ≡ Some e → is_held e.fsm.state ≡ false → MayTell w (notice e (header.Reset (shown_by e)))
  activates : (e : LinkEnd) → w.end ≡ Some e → is_held e.fsm.state ≡ false → MayTell w (notice e (header.Activate (shown_by e)))
  states : (s : SessionEnd) (shown : BroadcastState) (probe : Bool) → session_on w ≡ Some s → IsShowable shown
      → MayTell w (state_frame s shown probe)
  sends : (s : SessionEnd) (k : ℕ) (packet : Kept) → session_on w ≡ Some s
      → slice_get (kept_of s.sending) k ≡ Some packet → MayTell w (packet_frame s packet.number packet.packet)

-- a frame as a node x tells it on a bearer, with the contact numbers and counts of that moment
abbrev pub framed : View → View → ℕ → Outgoing → Frame
framed x y bearer o = record {
  bearer = bearer;
  bytes = o.frame;
  contact = x.node.contact;
  peer_contact = x.node.seen;
  numbered = length ((x.wires bearer).line (es_of o.frame));
  peer_numbered = length ((y.wires bearer).line (er_of o.frame));
}

-- ---- the deeds

-- the node begins another boot, and keeps nothing of the peer; what it did stays done
abbrev pub restarted : View → ℕ → View
restarted x boot = record {
  node = record x.node { boot = boot; contact = first_number boot; seen = 0 };
  wires = λ b. record (x.wires b) { end = None };
  told = x.told;
}

-- A deed of x, beside y, that begins and ends no contact, and puts and takes nothing; and what x is then.
pub data Works (x y : View) : View → Type 0 where
  -- a link end is made; its bearer is mended or cut; it is called without going up or down; and a higher contact number, which the peer
  -- told, is shown while there is no contact
  makes : (b : ℕ) → (x.wires b).end ≡ None → Works x y (with_wire x b (with_end (x.wires b) (made_on x.node b)))
  turns : (b : ℕ) (e : LinkEnd) (mended : Bool) → (x.wires b).end ≡ Some e
      → Works x y (with_wire x b (with_end (x.wires b) (record e { mended = mended })))
  calls : (b : ℕ) (e : LinkEnd) (call : Call) → (x.wires b).end ≡ Some e → MayCall x y b call
      → is_quiet (outcome e.fsm call).change ≡ true
      → Works x y (with_wire x b (with_end (x.wires b) (after e (outcome e.fsm call))))
  shows : (number : ℕ) → x.node.seen < number → number < 2 ^ 64 → IsApart x → IsContactShown (said_by y) number
      → Works x y (risen_view x number)
  -- a session reads an acknowledgement, keeps something for its answers and no next position above the one that the peer has, and numbers
  -- packets that wait
  releases : (b : ℕ) (e : LinkEnd) (s : SessionEnd) (p : Fields) → IsUp (x.wires b) e s → Hears x y b s p
      → Works x y (with_wire x b (with_going (x.wires b) e (after_acknowledgement s p.acknowledgement)))
  notes : (b : ℕ) (e : LinkEnd) (s : SessionEnd) (shown : ℕ) (unanswered : Unanswered) (owes : Bool) → IsUp (x.wires b) e s
      → shown ≤ length ((y.wires b).line s.peer_epoch) + 1
      → Works x y (with_wire x b (with_going (x.wires b) e (record s { shown = shown; unanswered = unanswered; owes = owes })))
  numbers : (b : ℕ) (e : LinkEnd) (s : SessionEnd) → IsUp (x.wires b) e s
      → Works x y (with_wire x b (record (with_going (x.wires b) e (flushed s)) { line = put_at (x.wires b).line s.epoch ((x.wires b).line s.epoch ++ moving s) }))
  -- a frame is told
  tells : (b : ℕ) (o : Outgoing) → MayTell (x.wires b) o → Works x y (with_told x (framed x y b o))

-- A deed with which a contact begins or ends.
pub data Changes (x y : View) : View → Type 0 where
  -- a link goes up where none is; a link goes down, and with it the contact; the contact ends of a link that is up; and the node is restarted
  rises : (b : ℕ) (e : LinkEnd) (call : Call) → (x.wires b).end ≡ Some e → MayCall x y b call
      → (outcome e.fsm call).change ≡ Up → IsApart x
      → Changes x y (with_wire x b (with_begun x.node (x.wires b) (after e (outcome e.fsm call))))
  falls : (b : ℕ) (e : LinkEnd) (call : Call) (cause : Cause) → (x.wires b).end ≡ Some e → MayCall x y b call
      → (outcome e.fsm call).change ≡ Down cause
      → Changes x y (parted_view (with_wire x b (with_end (x.wires b) (after e (outcome e.fsm call)))))
  parts : (b : ℕ) (e : LinkEnd) → (x.wires b).end ≡ Some e → is_up e.fsm.state ≡ true → Changes x y (parted_view x)
  restarts : (boot : ℕ) → x.node.boot < boot → boot < 2 ^ 32 → Changes x y (restarted x boot)

-- ---- two links

-- another link of the node is up
pub record IsBeside (x : View) (bearer : ℕ) : Type 0 where
  pub other : ℕ
  pub elsewhere : other ≢ bearer
  pub end : LinkEnd
  pub end_is : (x.wires other).end ≡ Some end
  pub up : is_up end.fsm.state ≡ true

-- The receiving record of a link end, up or down, becomes r: so many packets more were taken of a session of the peer, which began in the
-- present contact, as they came through the other link, which is up. They are the next ones that the peer numbered in it. The record's epoch
-- never falls, and is the peer's one while the link is up.
pub record Counts (x y : View) (bearer : ℕ) (e : LinkEnd) (r : Received) (more : List (List ℕ)) : Type 0 where
  pub end_is : (x.wires bearer).end ≡ Some e
  pub begun : Begun
  pub begun_is : (y.wires bearer).begun r.epoch ≡ Some begun
  pub contact_is : begun.peer_contact ≡ x.node.contact
  pub seen_is : begun.contact ≡ x.node.seen
  pub lasts : IsBeside x bearer
  pub no_lower : (old : Received) → record_of e ≡ Some old → old.epoch ≤ r.epoch
  pub up : is_up e.fsm.state ≡ true → e.fsm.peer ≡ Some r.epoch
  pub next : IsPrefixOf ((x.wires bearer).got r.epoch ++ more) ((y.wires bearer).line r.epoch)
  pub takes : length ((x.wires bearer).got r.epoch ++ more) ≡ r.taken
  pub holds : IsReceiver r.held r.taken ((y.wires bearer).line r.epoch)
  pub shown : r.shown ≤ length ((y.wires bearer).line r.epoch) + 1

-- the wire when its receiving record has become r, as so many packets more were taken of the record's session
abbrev pub with_counted : Wire → LinkEnd → Received → List (List ℕ) → Wire
with_counted w e r more = record w { end = Some (recorded e r); got = put_at w.got r.epoch (w.got r.epoch ++ more) }

-- A deed of x, beside y, with which no contact begins or ends, at one of two links.
pub data Besides (x y : View) : View → Type 0 where
  -- a link goes up, or down, while another one is up; what the link that is down had to send is given up
  rises_beside : (b : ℕ) (e : LinkEnd) (call : Call) → (x.wires b).end ≡ Some e → MayCall x y b call
      → (outcome e.fsm call).change ≡ Up → IsBeside x b
      → Besides x y (with_wire x b (with_begun x.node (x.wires b) (after e (outcome e.fsm call))))
  falls_beside : (b : ℕ) (e : LinkEnd) (call : Call) (cause : Cause) → (x.wires b).end ≡ Some e → MayCall x y b call
      → (outcome e.fsm call).change ≡ Down cause → IsBeside x b
      → Besides x y (with_wire x b (with_end (x.wires b) (after e (outcome e.fsm call))))
  hands_over : (b : ℕ) (e : LinkEnd) → (x.wires b).end ≡ Some e → is_up e.fsm.state ≡ false
      → Besides x y (with_wire x b (with_end (x.wires b) (handed_over e)))
  -- a receiving record counts what came through the other link
  counts : (b : ℕ) (e : LinkEnd) (r : Received) (more : List (List ℕ)) → Counts x y b e r more
      → Besides x y (with_wire x b (with_counted (x.wires b) e r more))

-- the wire whose session takes what a packet frees
abbrev pub with_taken : Wire → LinkEnd → SessionEnd → Taken → Wire
with_taken w e s t =
    record w { end = Some (with_session e (took s t)); got = put_at w.got s.peer_epoch (w.got s.peer_epoch ++ packets_in (due_with s t)) }

-- one deed of x
pub data DoesDeed (x y : View) : View → Type 0 where
  works : (x' : View) → Works x y x' → DoesDeed x y x'
  changes : (x' : View) → Changes x y x' → DoesDeed x y x'
  besides : (x' : View) → Besides x y x' → DoesDeed x y x'
  -- other packets wait; and what a packet frees is taken
  puts : (b : ℕ) (e : LinkEnd) (s : SessionEnd) (waiting : List (List ℕ)) → IsUp (x.wires b) e s
      → ((k : ℕ) (bytes : List ℕ) → slice_get waiting k ≡ Some bytes → IsPacket x.node.own bytes)
      → DoesDeed x y (with_wire x b (with_going (x.wires b) e (record s { sending = record s.sending { waiting = waiting } })))
  takes : (b : ℕ) (e : LinkEnd) (s : SessionEnd) (p : Fields) (number by : ℕ) (packet : List ℕ) → IsUp (x.wires b) e s
      → Hears x y b s p → content_of p ≡ Carries number packet
      → DoesDeed x y (with_wire x b (with_taken (x.wires b) e s (brought number packet by)))

-- one deed after the other
pub data DoesAll (x y : View) : View → Type 0 where
  nothing : DoesAll x y x
  follows : (x' x'' : View) → DoesAll x y x' → DoesDeed x' y x'' → DoesAll x y x''
