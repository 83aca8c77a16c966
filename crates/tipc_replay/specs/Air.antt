-- Frames that are sent, and the air that keeps them.
use Rattle.std.specs.Prelude.{◌≡◌, ◌≤◌, ℕ, ◌-◌, ◌==◌, Bool, true, ◌&&◌, ◌||◌, ◌++◌, List, [], false, None, Option, Some, filter, if◌then◌else◌, map, nat_lt, slice_index_or, take, length, unwrap_or}
use Rattle.tipc_types.specs.Address.{node_word}
use Rattle.tipc_types.specs.declared.identity.To.{To}
use Rattle.tipc_types.specs.declared.identity.To.TheVariants as to
use Rattle.tipc_outside.specs.declared.outgoing.Outgoing.{Outgoing}
use Rattle.tipc_outside.specs.Frames.{Adds, Out, is_lost, frames_leaving, no_frames}
use Rattle.tipc_header.specs.Frames.{is_of_link}
use Rattle.tipc_paired.specs.Views.{Frame, er_of, es_of}
use Rattle.tipc_node.specs.Nodes.{is_frame_size}
use Rattle.tipc_node.specs.Turns.{is_to}
use Rattle.tipc_replay.specs.Addressed.{IsAddressed}
use Rattle.tipc_replay.specs.declared.air.Sent.{Sent}
use Rattle.tipc_replay.specs.declared.flying.Met.{Met}
use Rattle.tipc_replay.specs.declared.flying.Met.TheVariants.{Lasting, Sender, Everyone}
use Rattle.tipc_replay.specs.Skies.{AirState, with_both}
use Rattle.tipc_replay.specs.States.{MemberState, boot_at, cast_count_at, contact_at, count_at, numbers_at}

-- the number of a node by its address word
abbrev pub number_of_node : ℕ → ℕ
number_of_node word = word - node_word 0

-- the number of the node that a frame is for; a frame to all names none
abbrev pub receiver_of : To → ℕ
receiver_of (to.Node address) = number_of_node address.word
receiver_of to.All = 0

-- the contact in which a node was with a peer before an event, where it may end in the event
abbrev pub met_in : Met → ℕ → Option (ℕ × ℕ)
met_in Lasting b = None
met_in (Sender peer contact) b = if b == peer then contact else None
met_in (Everyone contacts) b = slice_index_or contacts.items b None

-- the contact of node a that may end as a frame arrives: that with the sender that the frame names
abbrev pub met_sender : List (Option MemberState) → ℕ → Option ℕ → Met
met_sender members a (Some peer) = Sender peer (contact_at members a peer)
met_sender members a None = Lasting

-- A frame that leaves node a in an event: before it the node was in these contacts, by peer, and these are the nodes after it. Beside the
-- frame stands the contact with the receiver before the event, or else the contact numbers after it, and the counts after it: those of the
-- session, and those of the broadcast links in the boots of then.
abbrev pub airborne : (ℕ → Option (ℕ × ℕ)) → List (Option MemberState) → ℕ → Outgoing → Sent
airborne met members a o = record {
  from = record { word = node_word a };
  to = o.to;
  frame = o.frame;
  contact = unwrap_or (met (receiver_of o.to)) (numbers_at members a (receiver_of o.to));
  numbered = count_at members a (receiver_of o.to) o.bearer (es_of o.frame);
  peer_numbered = count_at members (receiver_of o.to) a o.bearer (er_of o.frame);
  casts = cast_count_at members a (boot_at members a);
  peer_boot = boot_at members (receiver_of o.to);
  peer_casts = cast_count_at members (receiver_of o.to) (boot_at members (receiver_of o.to));
}

abbrev pub is_on : ℕ → Outgoing → Bool
is_on bearer o = o.bearer == bearer

-- those of these frames that leave on a bearer, as the air keeps them
abbrev pub leaving_on : ℕ → (ℕ → Option (ℕ × ℕ)) → List (Option MemberState) → ℕ → List Outgoing → List Sent
leaving_on bearer met members a frames = map (airborne met members a) (filter (is_on bearer) frames)

-- the air after these frames left node a, each on its bearer, in order
abbrev pub with_leaving : AirState → (ℕ → Option (ℕ × ℕ)) → List (Option MemberState) → ℕ → List Outgoing → AirState
with_leaving air met members a frames = with_both air (leaving_on 0 met members a frames) (leaving_on 1 met members a frames)

-- A frame of node a may come into the air: it is on one of the two bearers, is addressed by its kind, and has a frame's size.
pub record IsOut (a : ℕ) (o : Outgoing) : Type 0 where
  pub bearer : o.bearer ≤ 1
  pub addressed : IsAddressed a o.frame o.to
  pub size : is_frame_size (length o.frame) ≡ true

-- frames that stand in no box yet, as a box in which they leave one behind the other
abbrev pub loose : List Outgoing → Out
loose frames = record { first = record { frames = []; lost = false }; behind = record { frames = frames; lost = false } }

-- What node a put into a box came into the air, in order: all of it, or the first so many frames. A frame is lost exactly where the box
-- tells so, or fewer frames came into the air than are in it.
pub record Emits (old new : AirState) (met : ℕ → Option (ℕ × ℕ)) (members : List (Option MemberState)) (a : ℕ) (box : Out)
    (lost : Bool) : Type 0 where
  pub count : ℕ
  pub air : new ≡ with_leaving old met members a (take count (frames_leaving box))
  pub lost_is : lost ≡ (is_lost box || nat_lt count (length (frames_leaving box)))

-- The frames that leave node a in an event went into a box, and from there into the air.
pub record Leaves (old new : AirState) (met : ℕ → Option (ℕ × ℕ)) (members : List (Option MemberState)) (a : ℕ)
    (frames : List Outgoing) (lost : Bool) : Type 0 where
  pub box : Out
  pub boxed : Adds no_frames box frames
  pub emits : Emits old new met members a box lost

-- a frame in the air is of the links from node a to node b
abbrev pub goes : ℕ → ℕ → Sent → Bool
goes a b f = (f.from.word == node_word a) && (is_to b f.to && is_of_link f.frame)

-- a frame in the air of a bearer as the pair of its nodes has it
abbrev pub as_frame : ℕ → Sent → Frame
as_frame bearer f = record {
  bearer = bearer;
  bytes = f.frame;
  contact = f.contact.0;
  peer_contact = f.contact.1;
  numbered = f.numbered;
  peer_numbered = f.peer_numbered;
}

-- what the link from node a to node b ever sent on a bearer, among these frames
abbrev pub sent_on : ℕ → List Sent → ℕ → ℕ → List Frame
sent_on bearer sent a b = map (as_frame bearer) (filter (goes a b) sent)

-- on both bearers
unfoldable pub sent_between : AirState → ℕ → ℕ → List Frame
sent_between air a b = sent_on 0 air.first a b ++ sent_on 1 air.second a b
