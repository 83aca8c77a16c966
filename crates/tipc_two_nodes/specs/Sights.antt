-- Two nodes as a world tells of them: what each keeps, what its journals record of the other, and the
-- frames that came into the air. That they are talking says what they did besides: their sessions, and frames that
-- were lost.
use Rattle.std.specs.Prelude.{◌≡◌, ◌<◌, ◌≤◌, ◌⊎◌, ℕ, ◌+◌, ◌^◌, ◌==◌, ◌&&◌, true, All, List, [], ◌++◌, Option, Some, None, length, slice_get, if◌then◌else◌}
use Rattle.tipc_types.specs.Prefixes.{IsPrefixOf}
use Rattle.tipc_types.specs.Limits.{most_age, window_size}
use Rattle.tipc_outside.specs.declared.outgoing.Outgoing.{Outgoing}
use Rattle.tipc_header.specs.Frames.{frame_of}
use Rattle.tipc_header.specs.Grammar.{Fits}
use Rattle.tipc_header.specs.Spelling.{Fields, spelling}
use Rattle.tipc_fragments.specs.Joining.{Joining, fresh}
use Rattle.tipc_reassembly.specs.Slots.{IsWholePacket, packets_in}
use Rattle.tipc_contact.specs.Sides.{first_number}
use Rattle.tipc_link.specs.Links.{LinkEnd, is_traffic}
use Rattle.tipc_link.specs.Sessions.{SessionEnd}
use Rattle.tipc_pair.specs.Facing.{PairEnds, facing, in_contact}
use Rattle.tipc_pair.specs.Messages.{IsMessage, opened_in}
use Rattle.tipc_pair.specs.PairTurns.{Happened, Opening, Outset, PairTurn, Reply, ShowsAtLast, ShowsIn}
use Rattle.tipc_paired.specs.Paired.{IsEnd}
use Rattle.tipc_paired.specs.Views.{Frame, Node, View, er_of, es_of}
use Rattle.tipc_two_nodes.specs.Talkers.{AreTalking, Talker}

-- A node towards its peer: its numbers, its link ends by bearer, the messages that it put and was given by contact,
-- each as its packet, the message that is begun, how many packets it numbered by bearer and epoch, and the frames to the
-- peer that came into the air.
pub record Sight : Type 0 where
  pub node : Node
  pub ends : ℕ → Option LinkEnd
  pub put : ℕ → ℕ → List (List ℕ)
  pub given : ℕ → ℕ → List (List ℕ)
  pub partial : Joining
  pub numbered : ℕ → ℕ → ℕ
  pub sent : List Frame

-- its pair, seen from the link of bearer 0
abbrev pub pair_seen : Sight → PairEnds
pair_seen v = record {
  own = v.node.own;
  peer = v.node.peer;
  contact = v.node.contact;
  seen = v.node.seen;
  bearer = 0;
  near = v.ends 0;
  far = v.ends 1;
  begun = v.partial;
}

-- ---- what is seen of a node

-- A frame in the air was told on one of the two bearers: not more than 50 packets were numbered behind it in the event
-- that told it, and a STATE or a numbered packet was told in the contact that stands beside it.
pub record WasTold (x : View) (f : Frame) : Type 0 where
  pub place : ℕ
  pub frame : Frame
  pub there : slice_get x.told place ≡ Some frame
  pub bearer_is : frame.bearer ≡ f.bearer
  pub two_bearers : f.bearer ≤ 1
  pub bytes : frame.bytes ≡ f.bytes
  pub numbered : f.numbered ≤ frame.numbered + window_size
  pub peer_numbered : f.peer_numbered ≤ frame.peer_numbered
  pub contact : (es er : ℕ) (p : Fields) → Fits p → frame.bytes ≡ frame_of es er (spelling p)
      → is_traffic p.header ≡ true
      → (frame.contact ≡ f.contact) × (frame.peer_contact ≡ f.peer_contact)

-- a sight tells what this talker keeps and did, and its frames in the air are some of those that the talker told
pub record IsSeen (x : Talker) (v : Sight) : Type 0 where
  pub node : x.view.node ≡ v.node
  pub pair : x.pair ≡ pair_seen v
  pub ends : (b : ℕ) → (x.view.wires b).end ≡ v.ends b
  pub put : (own theirs : ℕ) → x.put own theirs ≡ v.put own theirs
  pub given : (own theirs : ℕ) → x.given own theirs ≡ v.given own theirs
  pub numbered : (b epoch : ℕ) → v.numbered b epoch ≡ length ((x.view.wires b).line epoch)
  -- also of the last session of a link that is down
  pub counts : (b : ℕ) (e : LinkEnd) (s : SessionEnd) → v.ends b ≡ Some e → e.session ≡ Some s
      → v.numbered b s.epoch ≡ s.sending.numbered
  pub sent : (k : ℕ) (f : Frame) → slice_get v.sent k ≡ Some f → WasTold x.view f

-- two nodes are talking
pub record AreSeen (v w : Sight) : Type 0 where
  pub here : Talker
  pub there : Talker
  pub talking : AreTalking here there
  pub seen_here : IsSeen here v
  pub seen_there : IsSeen there w

-- ---- what a call makes of a node

-- what came to the messages of a contact
abbrev pub come : Sight → List (List ℕ) → ℕ → ℕ → List (List ℕ)
come v more own theirs = if (own == v.node.contact) && (theirs == v.node.seen) then more else []

-- the contact of the frames of an event: that in which the node was before it, or else that after it
abbrev pub told_in : Sight → Sight → Node
told_in v v' = if in_contact (pair_seen v) then v.node else v'.node

-- A frame that v told w in an event that left it as v', with the numbers after it.
abbrev pub sent_as : Sight → Sight → Sight → Outgoing → Frame
sent_as v v' w o = record {
  bearer = o.bearer;
  bytes = o.frame;
  contact = (told_in v v').contact;
  peer_contact = (told_in v v').seen;
  numbered = v'.numbered o.bearer (es_of o.frame);
  peer_numbered = w.numbered o.bearer (er_of o.frame);
}

-- the node with the contact numbers that its pair has
abbrev pub node_with : Node → PairEnds → Node
node_with n x = record n { contact = x.contact; seen = x.seen }

-- a link end, present or not, has or had last a session of this epoch
abbrev pub HasSession : Option LinkEnd → ℕ → Type 0
HasSession end epoch = (e : LinkEnd) × (s : SessionEnd) × (end ≡ Some e) × (e.session ≡ Some s) × (s.epoch ≡ epoch)

-- a frame was in the air before, or is one of these, as v told it
abbrev pub IsSent : Sight → Sight → Sight → List Outgoing → Frame → Type 0
IsSent v v' w frames f = ((place : ℕ) × (slice_get v.sent place ≡ Some f))
    ⊎ ((place : ℕ) × (o : Outgoing) × (slice_get frames place ≡ Some o) × (f ≡ sent_as v v' w o))

-- The pair of v became x. These messages were put, and these given, in the contact whose numbers the node has after
-- it. Some of these frames, or all of them, came into the air, each on its own bearer.
pub record PairBecomes (v v' w : Sight) (x : PairEnds) (frames : List Outgoing) (put given : List (List ℕ)) : Type 0 where
  pub node : v'.node ≡ node_with v.node x
  pub first : v'.ends 0 ≡ (facing 0 x).near
  pub second : v'.ends 1 ≡ (facing 1 x).near
  pub alone : (b : ℕ) → 1 < b → v'.ends b ≡ None
  pub put_is : (own theirs : ℕ) → v'.put own theirs ≡ v.put own theirs ++ come v' put own theirs
  pub given_is : (own theirs : ℕ) → v'.given own theirs ≡ v.given own theirs ++ come v' given own theirs
  pub partial_is : v'.partial ≡ x.begun
  -- the session of each link end says how many it numbered, and of other sessions nothing was numbered
  pub numbered_now : (b : ℕ) (e : LinkEnd) (s : SessionEnd) → v'.ends b ≡ Some e → e.session ≡ Some s
      → v'.numbered b s.epoch ≡ s.sending.numbered
  pub numbered_else : (b epoch : ℕ) → (HasSession (v'.ends b) epoch → ⊥) → v'.numbered b epoch ≡ v.numbered b epoch
  pub sent : (k : ℕ) (f : Frame) → slice_get v'.sent k ≡ Some f → IsSent v v' w frames f

-- the node was restarted: it has no link end, and what it put, was given, numbered and sent stays
pub record Restarts (v v' : Sight) : Type 0 where
  pub node : v'.node ≡ record {
    own = v.node.own;
    peer = v.node.peer;
    boot = v.node.boot + 1;
    contact = first_number (v.node.boot + 1);
    seen = 0;
  }
  pub ends : (b : ℕ) → v'.ends b ≡ None
  pub put_is : (own theirs : ℕ) → v'.put own theirs ≡ v.put own theirs
  pub given_is : (own theirs : ℕ) → v'.given own theirs ≡ v.given own theirs
  pub partial_is : v'.partial ≡ fresh
  pub numbered_is : (b epoch : ℕ) → v'.numbered b epoch ≡ v.numbered b epoch
  pub sent : v'.sent ≡ v.sent

-- a node at the beginning of a boot, which keeps nothing of the peer and did nothing
pub record IsNew (v : Sight) : Type 0 where
  pub own : v.node.own < 2 ^ 32
  pub peer : v.node.peer < 2 ^ 32
  pub boot : v.node.boot < 2 ^ 32
  pub contact : v.node.contact ≡ first_number v.node.boot
  pub seen : v.node.seen ≡ 0
  pub ends : (b : ℕ) → v.ends b ≡ None
  pub put : (own theirs : ℕ) → v.put own theirs ≡ []
  pub given : (own theirs : ℕ) → v.given own theirs ≡ []
  pub partial : v.partial ≡ fresh
  pub numbered : (b epoch : ℕ) → v.numbered b epoch ≡ 0
  pub sent : v.sent ≡ []

-- A frame of w in the air arrives at v: it is this packet under these epochs. Where it is a STATE or a numbered packet,
-- neither node has numbered more than 30,000 packets since it was sent.
pub record Comes (v w : Sight) (bearer es er : ℕ) (p : Fields) : Type 0 where
  pub place : ℕ
  pub frame : Frame
  pub there : slice_get w.sent place ≡ Some frame
  pub bearer_is : frame.bearer ≡ bearer
  pub es_fits : es < 2 ^ 64
  pub er_fits : er < 2 ^ 64
  pub fits : Fits p
  pub bytes : frame.bytes ≡ frame_of es er (spelling p)
  pub own_fresh : is_traffic p.header ≡ true → v.numbered bearer er ≤ frame.peer_numbered + most_age
  pub peer_fresh : is_traffic p.header ≡ true → w.numbered bearer es ≤ frame.numbered + most_age

-- What happens is at one of the two bearers: an end is made where there is none, and what is heard comes out of the
-- air.
abbrev pub MayHappen : Sight → Sight → Opening → Type 0
MayHappen v w (Opening.makes bearer mended) = (bearer ≤ 1) × (v.ends bearer ≡ None)
MayHappen v w (Opening.mends bearer) = bearer ≤ 1
MayHappen v w (Opening.cuts bearer) = bearer ≤ 1
MayHappen v w (Opening.hears bearer es er p by shown) = (bearer ≤ 1) × Comes v w bearer es er p
MayHappen v w other = Unit {0}

-- a pair is in contact, under the numbers that it had before
pub record StaysIn (x y : PairEnds) : Type 0 where
  pub there : in_contact y ≡ true
  pub contact : y.contact ≡ x.contact
  pub seen : y.seen ≡ x.seen

-- Everything that came is whole. It was given in the contact whose numbers the node had and has, and with what was
-- given there before it is a front of what the other node put.
pub record GivesFront (v w : Sight) (o : Outset) : Type 0 where
  pub whole : All IsWholePacket (opened_in o.given)
  pub front : IsPrefixOf (v.given v.node.contact v.node.seen ++ packets_in (opened_in o.given))
      (w.put v.node.seen v.node.contact)
  pub contact : (opened_in o.given ≡ []) ⊎ StaysIn (pair_seen v) o.course.pair

-- a frame in the air is an envelope and a packet of its node
pub record IsSpoken (own : ℕ) (f : Frame) : Type 0 where
  pub es : ℕ
  pub er : ℕ
  pub es_fits : es < 2 ^ 64
  pub er_fits : er < 2 ^ 64
  pub packet : Fields
  pub fits : Fits packet
  pub bytes : f.bytes ≡ frame_of es er (spelling packet)
  pub previous : packet.previous ≡ own

-- ---- what holds, whatever either does

-- two nodes that know nothing of each other are talking
abbrev pub StartsSeen : Type 0
StartsSeen = (v w : Sight) → IsNew v → IsNew w → AreSeen v w

-- what holds of the one and the other holds of the other and the one
abbrev pub TurnedSeen : Type 0
TurnedSeen = (v w : Sight) → AreSeen v w → AreSeen w v

-- a node is restarted
abbrev pub RestartsSeen : Type 0
RestartsSeen = (v v' w : Sight) → AreSeen v w → Restarts v v' → v.node.boot + 1 < 2 ^ 32 → AreSeen v' w

-- the node takes a turn at the pair, whatever happens there first and whatever is put
abbrev pub TurnsSeen : Type 0
TurnsSeen = (v v' w : Sight) (opening : Opening) (messages : List (List ℕ)) (reply : Option Reply) (x : PairEnds)
    (frames : List Outgoing)
    → AreSeen v w → MayHappen v w opening → ShowsIn opening → ShowsAtLast reply → All (IsMessage v.node.own) messages
    → (t : PairTurn (pair_seen v) opening messages reply x frames)
    → PairBecomes v v' w x frames messages (packets_in (opened_in t.first.given))
    → AreSeen v' w

-- what happens first in a turn gives this, before the node has taken it
abbrev pub GivesSeen : Type 0
GivesSeen = (v w : Sight) (opening : Opening) (o : Outset) → AreSeen v w → MayHappen v w opening → ShowsIn opening
    → Happened (pair_seen v) opening o
    → GivesFront v w o

-- in each contact what a node was given is a front of what the other one put
abbrev pub FrontsSeen : Type 0
FrontsSeen = (v w : Sight) → AreSeen v w → (own theirs : ℕ) → IsPrefixOf (v.given own theirs) (w.put theirs own)

-- each link end is true of its node: addresses, contact numbers and epochs
abbrev pub EndsSeen : Type 0
EndsSeen = (v w : Sight) (bearer : ℕ) (e : LinkEnd) → AreSeen v w → v.ends bearer ≡ Some e → IsEnd v.node bearer e

-- each frame in the air is an envelope and a packet of the node that sent it
abbrev pub FramesSeen : Type 0
FramesSeen = (v w : Sight) (k : ℕ) (f : Frame) → AreSeen v w → slice_get v.sent k ≡ Some f → IsSpoken v.node.own f
