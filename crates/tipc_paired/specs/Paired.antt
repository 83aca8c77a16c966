-- What holds of the two nodes of a pair at every moment, whatever either does and whatever arrives, by bearer and session.
use Rattle.std.specs.Prelude.{Bool, [], ◌+◌, ◌<◌, ◌^◌, ◌≡◌, ◌≢◌, ◌≤◌, ◌⊎◌, List, None, Some, false, length, slice_get, true, ℕ}
use Rattle.tipc_types.specs.LinkStates.{is_up}
use Rattle.tipc_types.specs.Position.{number_of}
use Rattle.tipc_types.specs.Prefixes.{IsPrefixOf}
use Rattle.tipc_types.specs.Limits.{window_size}
use Rattle.tipc_header.specs.Frames.{frame_of, sent_as}
use Rattle.tipc_header.specs.Grammar.{Fits}
use Rattle.tipc_header.specs.Spelling.{Fields, spelling}
use Rattle.tipc_header.specs.declared.packet.Header.{Header}
use Rattle.tipc_header.specs.declared.packet.Header.TheVariants as header
use Rattle.tipc_link_fsm.specs.Table.{is_held, is_last}
use Rattle.tipc_contact.specs.Order.{AreInOrder}
use Rattle.tipc_contact.specs.Peers.{ArePeers}
use Rattle.tipc_contact.specs.Sides.{boot_of, first_number}
use Rattle.tipc_link.specs.Direction.{IsCarried, IsDirection, IsReceiver}
use Rattle.tipc_link.specs.Links.{LinkEnd, is_traffic, record_of}
use Rattle.tipc_link.specs.Records.{Received}
use Rattle.tipc_link.specs.Sessions.{Carries, SessionEnd, Shows, content_of}
use Rattle.tipc_paired.specs.Views.{Begun, Frame, Node, View, Wire, epoch_on, er_of, es_of, said_by, session_on, side_of, unused}

-- ---- packets, and what they show

-- a packet that this node can put on a link: sent by it under any number, it is a packet with that number
pub record IsPacket (own : ℕ) (bytes : List ℕ) : Type 0 where
  pub packet : Fields
  pub spelled : bytes ≡ spelling packet
  pub fits : (acknowledgement number : ℕ) → acknowledgement < 2 ^ 16 → number < 2 ^ 16 → own < 2 ^ 32
      → Fits (sent_as acknowledgement number own packet)
  pub carried : (acknowledgement number : ℕ)
      → content_of (sent_as acknowledgement number own packet) ≡ Carries number bytes

-- a RESET or an ACTIVATE shows these contact numbers
abbrev pub ShowsContact : Header → ℕ → ℕ → Type 0
ShowsContact (header.Reset r) own theirs = (r.contact ≡ own) × (r.peer_contact ≡ theirs)
ShowsContact (header.Activate a) own theirs = (a.contact ≡ own) × (a.peer_contact ≡ theirs)
ShowsContact other own theirs = Unit {0}

-- ---- a node and its link ends

-- what is true of a node's numbers: addresses and the boot have 32 bits, contact numbers 64
pub record IsNode (n : Node) : Type 0 where
  pub own : n.own < 2 ^ 32
  pub peer : n.peer < 2 ^ 32
  pub boot : n.boot < 2 ^ 32
  -- the contact number is of this boot, and what the peer showed has 64 bits
  pub contact : boot_of n.contact ≡ n.boot
  pub seen : n.seen < 2 ^ 64

-- what is true of a node's link end on a bearer
pub record IsEnd (n : Node) (bearer : ℕ) (e : LinkEnd) : Type 0 where
  pub own : e.own ≡ n.own
  pub peer : e.peer ≡ n.peer
  pub bearer_is : e.bearer ≡ bearer
  -- it shows the node's contact numbers, and its epoch is of this boot, and no lower than the node's own number
  pub contact : e.contact ≡ n.contact
  pub seen : e.peer_contact ≡ n.seen
  pub boot : boot_of e.fsm.own ≡ n.boot
  pub order : n.contact ≤ e.fsm.own
  -- the epoch of the peer that it knows is the highest that it took
  pub peer_fits : (epoch : ℕ) → e.fsm.peer ≡ Some epoch → (epoch < 2 ^ 64) × (epoch ≡ e.fsm.highest)
  -- a link that is up has a session of its epochs, and isn't at the last epoch of its boot
  pub going : is_up e.fsm.state ≡ true → (s : SessionEnd) × (e.session ≡ Some s) × (s.epoch ≡ e.fsm.own)
      × (e.fsm.peer ≡ Some s.peer_epoch) × (is_last e.fsm.own ≡ false)
  -- and so was the last one
  pub session : (s : SessionEnd) → e.session ≡ Some s → (s.own ≡ n.own) × (s.peer ≡ n.peer) × (s.bearer ≡ bearer)

-- ---- two ends on one bearer

-- the peer's session under er, on its wire v, is with the node's session under es
abbrev pub IsWith : Wire → ℕ → ℕ → Type 0
IsWith v er es = (there : Begun) × (v.begun er ≡ Some there) × (there.peer_epoch ≡ es)

-- the receiving record of an end on wire w, against the wire v of the peer: what was taken of the peer's session, what is held of it, and no
-- more was shown of it than was numbered, and the next position
pub record IsRecordOf (w v : Wire) (r : Received) : Type 0 where
  pub takes : length (w.got r.epoch) ≡ r.taken
  pub holds : IsReceiver r.held r.taken (v.line r.epoch)
  pub shown : r.shown ≤ length (v.line r.epoch) + 1

-- the session on wire w, against the wire v of the peer
pub record IsGoing (own : ℕ) (w v : Wire) (s : SessionEnd) : Type 0 where
  pub begun : Begun
  pub begun_is : w.begun s.epoch ≡ Some begun
  pub peer_is : begun.peer_epoch ≡ s.peer_epoch
  -- what waits can be sent
  pub waiting : (k : ℕ) (bytes : List ℕ) → slice_get s.sending.waiting k ≡ Some bytes → IsPacket own bytes
  -- what it sends, against what the peer took of it
  pub sends : IsDirection s.sending (length (v.got s.epoch)) (w.line s.epoch)
  -- what it took and holds, against what the peer numbered
  pub takes : length (w.got s.peer_epoch) ≡ s.taken
  pub holds : IsReceiver s.held s.taken (v.line s.peer_epoch)
  pub shown : s.shown ≤ length (v.line s.peer_epoch) + 1
  -- its record is of the peer's epoch
  pub record_is : s.record_epoch ≡ s.peer_epoch

-- what a node did on one bearer, beside what its peer did there
pub record IsWire (own : ℕ) (w v : Wire) : Type 0 where
  -- what was numbered was numbered in a session, and can be sent
  pub unborn : (epoch : ℕ) → w.begun epoch ≡ None → w.line epoch ≡ []
  pub packets : (epoch k : ℕ) (bytes : List ℕ) → slice_get (w.line epoch) k ≡ Some bytes → IsPacket own bytes
  -- in each session at most 50 packets were numbered behind those that the peer took, also once it is over
  pub window : (epoch : ℕ) → length (w.line epoch) ≤ length (v.got epoch) + window_size
  -- what was taken of a session of the peer is a prefix of what the peer numbered in it
  pub prefix : (epoch : ℕ) → IsPrefixOf (w.got epoch) (v.line epoch)
  pub going : (s : SessionEnd) → session_on w ≡ Some s → IsGoing own w v s
  -- the receiving record is true, also once the session is over
  pub kept : (e : LinkEnd) (r : Received) → w.end ≡ Some e → record_of e ≡ Some r → IsRecordOf w v r

-- ---- receiving records

-- Of a session of the peer nothing was taken; or the receiving record is of it, or of a later one; or it was with an earlier boot.
pub data IsReached (boot : ℕ) (w v : Wire) (epoch : ℕ) : Type 0 where
  untaken : w.got epoch ≡ [] → IsReached boot w v epoch
  on_record : (e : LinkEnd) (r : Received) → w.end ≡ Some e → record_of e ≡ Some r → epoch ≤ r.epoch → IsReached boot w v epoch
  long_ago : (there : Begun) → v.begun epoch ≡ Some there → boot_of there.peer_epoch < boot → IsReached boot w v epoch

-- The receiving records of a node on one bearer: their epochs rise, and none is above the highest epoch of the peer that was taken.
pub record IsRecords (n : Node) (w v : Wire) : Type 0 where
  pub reached : (epoch : ℕ) → IsReached n.boot w v epoch
  pub below : (e : LinkEnd) (r : Received) → w.end ≡ Some e → record_of e ≡ Some r → r.epoch ≤ e.fsm.highest

-- ---- frames

-- one of these frames shows the two epochs on the bearer, and was told under this contact number
pub record IsShown (frames : List Frame) (bearer es er contact : ℕ) : Type 0 where
  pub place : ℕ
  pub frame : Frame
  pub there : slice_get frames place ≡ Some frame
  pub bearer_is : frame.bearer ≡ bearer
  pub es_is : es_of frame.bytes ≡ es
  pub er_is : er_of frame.bytes ≡ er
  pub contact_is : frame.contact ≡ contact

-- A STATE or a numbered packet of the session of the epochs es and er, which w told v.
pub record IsOfSession (w v : Wire) (f : Frame) (es er : ℕ) (p : Fields) : Type 0 where
  pub begun : Begun
  pub begun_is : w.begun es ≡ Some begun
  pub peer_is : begun.peer_epoch ≡ er
  -- it was told in the contact of its session
  pub contact_is : f.contact ≡ begun.contact
  pub seen_is : f.peer_contact ≡ begun.peer_contact
  pub so_far : f.numbered ≤ length (w.line es)
  -- what it acknowledges was taken of the peer's session, and not long before; where that is anything, that session is with this one
  pub told : ℕ
  pub told_is : p.acknowledgement ≡ number_of told
  pub told_taken : told ≤ length (w.got er)
  pub told_recent : f.peer_numbered ≤ told + window_size
  pub told_met : (told ≡ 0) ⊎ IsWith v er es
  -- what it carries was numbered in the session, and but for 50 packets the receiver had taken what was numbered
  pub carried : (number : ℕ) (bytes : List ℕ) → content_of p ≡ Carries number bytes
      → IsCarried (w.line es) f.numbered number bytes
  pub recent : f.numbered ≤ length (v.got es) + window_size
  -- the next number that it shows is that behind all that was numbered
  pub shows : (next gap : ℕ) (probe : Bool) → content_of p ≡ Shows next gap probe → next ≡ number_of (f.numbered + 1)

-- a frame is an envelope and a packet of its node
pub record IsFrame (own : ℕ) (w v : Wire) (f : Frame) : Type 0 where
  pub es : ℕ
  pub er : ℕ
  pub es_fits : es < 2 ^ 64
  pub er_fits : er < 2 ^ 64
  pub packet : Fields
  pub fits : Fits packet
  pub bytes : f.bytes ≡ frame_of es er (spelling packet)
  pub previous : packet.previous ≡ own
  -- it was told in the boot of its epoch
  pub boot : boot_of es ≡ boot_of f.contact
  -- a RESET or an ACTIVATE shows the contact numbers, and any other packet is of a session
  pub notice : ShowsContact packet.header f.contact f.peer_contact
  pub session : is_traffic packet.header ≡ true → IsOfSession w v f es er packet

-- ---- epochs and contacts

-- an epoch under which no session began yet
abbrev pub IsUnborn : Node → Wire → ℕ → Type 0
IsUnborn n w epoch = (epoch_on n w ≤ epoch) × ((s : SessionEnd) → session_on w ≡ Some s → s.epoch ≢ epoch)

-- the link end on a wire took an epoch of the peer that is no lower than this one
pub record IsNoHigher (w : Wire) (epoch : ℕ) : Type 0 where
  pub end : LinkEnd
  pub end_is : w.end ≡ Some end
  pub highest : epoch ≤ end.fsm.highest

-- one of these frames shows the epoch on the bearer, and was told under this contact number
pub record IsUnder (frames : List Frame) (bearer epoch contact : ℕ) : Type 0 where
  pub place : ℕ
  pub frame : Frame
  pub there : slice_get frames place ≡ Some frame
  pub bearer_is : frame.bearer ≡ bearer
  pub es_is : es_of frame.bytes ≡ epoch
  pub contact_is : frame.contact ≡ contact

-- an epoch of the peer that a link end took last: it is 0 where it took none, and one that the peer told on the bearer
abbrev pub IsHeardEpoch : List Frame → ℕ → ℕ → Type 0
IsHeardEpoch frames bearer epoch = (epoch ≡ 0) ⊎ ((contact : ℕ) × IsUnder frames bearer epoch contact)

-- The sessions of a node on one bearer: when and in which contact they began, and what was told of it.
pub record IsEpochs (n : Node) (bearer : ℕ) (told heard : List Frame) (w v : Wire) : Type 0 where
  pub unborn : (epoch : ℕ) → IsUnborn n w epoch → w.begun epoch ≡ None
  -- each began under an epoch from 1 on, and none at the last one of a boot
  pub some : (epoch : ℕ) (g : Begun) → w.begun epoch ≡ Some g → 1 ≤ epoch
  pub lasts : (epoch : ℕ) (g : Begun) → w.begun epoch ≡ Some g → is_last epoch ≡ false
  -- each began by a frame that shows both its epochs, which the peer told under the contact number that counts
  pub shown : (epoch : ℕ) (g : Begun) → w.begun epoch ≡ Some g → IsShown heard bearer g.peer_epoch epoch g.peer_contact
  -- the present session began in the present contact
  pub now : (s : SessionEnd) (g : Begun) → session_on w ≡ Some s → w.begun s.epoch ≡ Some g
      → (g.contact ≡ n.contact) × (g.peer_contact ≡ n.seen)
  -- no frame of this boot names a higher epoch of the peer than the highest that the link end took, which is made; and none of an epoch
  -- names a higher one than that of its session
  pub named : (k : ℕ) (f : Frame) → slice_get told k ≡ Some f → f.bearer ≡ bearer → boot_of (es_of f.bytes) ≡ n.boot
      → IsNoHigher w (er_of f.bytes)
  pub bounded : (k : ℕ) (f : Frame) (g : Begun) → slice_get told k ≡ Some f → f.bearer ≡ bearer
      → w.begun (es_of f.bytes) ≡ Some g → er_of f.bytes ≤ g.peer_epoch
  -- each frame of a session's epoch was told in its contact; and under the epoch of a link end that is Held none was told
  pub told_in : (k : ℕ) (f : Frame) (g : Begun) → slice_get told k ≡ Some f → f.bearer ≡ bearer
      → w.begun (es_of f.bytes) ≡ Some g → f.contact ≡ g.contact
  pub unheld : (k : ℕ) (f : Frame) (e : LinkEnd) → slice_get told k ≡ Some f → f.bearer ≡ bearer → w.end ≡ Some e
      → es_of f.bytes ≡ e.fsm.own → is_held e.fsm.state ≡ false
  -- two sessions with one another are in one contact
  pub agree : (epoch : ℕ) (g h : Begun) → w.begun epoch ≡ Some g → v.begun g.peer_epoch ≡ Some h
      → h.peer_epoch ≡ epoch → (g.contact ≡ h.peer_contact) × (g.peer_contact ≡ h.contact)
  -- where the peer told a frame in a contact before that of a session, it had seen no higher number of the node than that of the session
  pub entered : (epoch : ℕ) (g : Begun) → w.begun epoch ≡ Some g → (k : ℕ) (f : Frame) → slice_get heard k ≡ Some f
      → f.contact < g.peer_contact → f.peer_contact ≤ g.contact

-- ---- two nodes

-- what x keeps and told, beside its peer y
pub record IsHalf (x y : View) : Type 0 where
  pub node : IsNode x.node
  pub ends : (bearer : ℕ) (e : LinkEnd) → (x.wires bearer).end ≡ Some e → IsEnd x.node bearer e
  pub wires : (bearer : ℕ) → IsWire x.node.own (x.wires bearer) (y.wires bearer)
  pub records : (bearer : ℕ) → IsRecords x.node (x.wires bearer) (y.wires bearer)
  pub epochs : (bearer : ℕ) → IsEpochs x.node bearer x.told y.told (x.wires bearer) (y.wires bearer)
  -- the highest epoch of the peer that a link end took, also where it forgot it since
  pub highest : (bearer : ℕ) (e : LinkEnd) → (x.wires bearer).end ≡ Some e → IsHeardEpoch y.told bearer e.fsm.highest
  pub frames : (k : ℕ) (f : Frame) → slice_get x.told k ≡ Some f
      → IsFrame x.node.own (x.wires f.bearer) (y.wires f.bearer) f

-- Two nodes are paired: what each keeps and told is true beside the other, and so is what they know of each other's
-- contact numbers and epochs; and they agree on the order of their contacts.
pub record ArePaired (x y : View) : Type 0 where
  pub peers : ArePeers (side_of x) (said_by x) (side_of y) (said_by y)
  pub order : AreInOrder (side_of x) (said_by x) (side_of y) (said_by y)
  pub here : IsHalf x y
  pub there : IsHalf y x

-- a node at the beginning of a boot, which keeps nothing of the peer, did nothing and told it nothing
pub record IsNew (x : View) : Type 0 where
  pub own : x.node.own < 2 ^ 32
  pub peer : x.node.peer < 2 ^ 32
  pub boot : x.node.boot < 2 ^ 32
  pub contact : x.node.contact ≡ first_number x.node.boot
  pub seen : x.node.seen ≡ 0
  pub wires : (bearer : ℕ) → x.wires bearer ≡ unused
  pub told : x.told ≡ []
