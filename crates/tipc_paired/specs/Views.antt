-- A node as one of the two of a pair: what it keeps of its peer, and all that happened on their links, by bearer and session.
use Rattle.std.specs.Prelude.{◌≡◌, ℕ, false, ◌==◌, List, [], ◌∷◌, ◌++◌, Option, Some, None, map, option_map, if◌then◌else◌}
use Rattle.tipc_types.specs.LinkStates.{is_up}
use Rattle.tipc_header.specs.Frames.{first_of}
use Rattle.tipc_header.specs.Reading.{long_at}
use Rattle.tipc_link_fsm.specs.Table.{Fsm}
use Rattle.tipc_contact.specs.Sides.{Notice, Side}
use Rattle.tipc_link.specs.Links.{LinkEnd}
use Rattle.tipc_link.specs.Sessions.{SessionEnd}

-- the node's address word, the peer's, and the node's boot number; the node's own contact number for the peer, and the highest that
-- the peer has shown
pub record Node : Type 0 where
  pub own : ℕ
  pub peer : ℕ
  pub boot : ℕ
  pub contact : ℕ
  pub seen : ℕ

-- how a session began: the peer's epoch, and the contact, the node's own number first
pub record Begun : Type 0 where
  pub peer_epoch : ℕ
  pub contact : ℕ
  pub peer_contact : ℕ

-- What a node keeps and did on one bearer. A session is named by the epoch of its sender: `begun` and `line` go by the node's own
-- epochs, and `got` by the peer's.
pub record Wire : Type 0 where
  pub end : Option LinkEnd
  -- the sessions that began
  pub begun : ℕ → Option Begun
  -- the packets that were numbered in a session
  pub line : ℕ → List (List ℕ)
  -- the packets that were taken of a session of the peer
  pub got : ℕ → List (List ℕ)

-- A frame as the node told it: its bearer and bytes; the node's contact numbers then, its own and the highest that the peer had
-- shown; and how many packets were numbered then, by the node under the first epoch of the envelope, and by the peer under the second.
pub record Frame : Type 0 where
  pub bearer : ℕ
  pub bytes : List ℕ
  pub contact : ℕ
  pub peer_contact : ℕ
  pub numbered : ℕ
  pub peer_numbered : ℕ

-- the node, its wires by bearer, and every frame that it ever told its peer, whether that came into the air or was lost
pub record View : Type 0 where
  pub node : Node
  pub wires : ℕ → Wire
  pub told : List Frame

-- a bearer on which nothing happened
abbrev pub unused : Wire
unused = record { end = None; begun = λ epoch. None; line = λ epoch. []; got = λ epoch. [] }

-- ---- look-ups

-- the first epoch of an envelope: the sender's
abbrev pub es_of : List ℕ → ℕ
es_of bytes = first_of bytes

-- the second epoch of an envelope: the receiver's, as the sender knew it
abbrev pub er_of : List ℕ → ℕ
er_of bytes = long_at 2 bytes

-- the session of a link end whose link is up
abbrev pub session_in : Option LinkEnd → Option SessionEnd
session_in None = None
session_in (Some e) = if is_up e.fsm.state then e.session else None

-- the session on a wire, while its link is up
unfoldable pub session_on : Wire → Option SessionEnd
session_on w = session_in w.end

-- the own epoch of a link end, or the contact number under which one would be made
abbrev pub epoch_in : ℕ → Option LinkEnd → ℕ
epoch_in contact None = contact
epoch_in contact (Some e) = e.fsm.own

-- the own epoch on a wire, or the one that the next link end will have
unfoldable pub epoch_on : Node → Wire → ℕ
epoch_on n w = epoch_in n.contact w.end

-- the link states of an end, where it was made
abbrev pub fsm_in : Option LinkEnd → Option Fsm
fsm_in end = option_map (λ e. e.fsm) end

-- no link is up
abbrev pub IsApart : View → Type 0
IsApart x = (b : ℕ) (e : LinkEnd) → (x.wires b).end ≡ Some e → is_up e.fsm.state ≡ false

-- the node as a side of its contacts, and what it has said
abbrev pub side_of : View → Side
side_of x = record { own = x.node.contact; seen = x.node.seen; ends = λ b. fsm_in (x.wires b).end }

-- what a frame says of contacts: its bearer, both epochs, and the contact numbers that its sender had then
abbrev pub notice_of : Frame → Notice
notice_of f = record { bearer = f.bearer; es = es_of f.bytes; er = er_of f.bytes; contact = f.contact; peer_contact = f.peer_contact }

-- what a node has said of contacts, in all frames that it told
abbrev pub said_by : View → List Notice
said_by x = map notice_of x.told

-- ---- changes

-- a function with another value at one place
abbrev pub put_at : {A : Type 0} → (ℕ → A) → ℕ → A → ℕ → A
put_at f place value k = if k == place then value else f k

-- the node with another wire on this bearer
abbrev pub with_wire : View → ℕ → Wire → View
with_wire x b w = record x { wires = put_at x.wires b w }

-- the wire with another link end
abbrev pub with_end : Wire → LinkEnd → Wire
with_end w e = record w { end = Some e }

-- the node when it has told one more frame
abbrev pub with_told : View → Frame → View
with_told x f = record x { told = x.told ++ f ∷ [] }
