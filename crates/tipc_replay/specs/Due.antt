-- Which frame arrives, and how old it is.
use Rattle.std.specs.Prelude.{false, ℕ, ◌-◌, ◌==◌, Bool, true, List, Option, Some, None, drop, length, max, nat_lt, not, slice_get, if◌then◌else◌}
use Rattle.tipc_types.specs.Address.{node_word}
use Rattle.tipc_types.specs.declared.identity.Addr.{Addr}
use Rattle.tipc_types.specs.declared.identity.To.{To}
use Rattle.tipc_types.specs.declared.identity.To.TheVariants as to
use Rattle.tipc_types.specs.declared.node_calls.Answer.{Answer}
use Rattle.tipc_types.specs.declared.node_calls.Answer.TheVariants as answer
use Rattle.tipc_types.specs.Limits.{most_age}
use Rattle.tipc_header.specs.declared.fault.HeaderFault.{HeaderFault}
use Rattle.tipc_header.specs.declared.frames.FrameKind.{FrameKind}
use Rattle.tipc_header.specs.declared.frames.FrameKind.TheVariants.{Casts, Finds, Links}
use Rattle.tipc_header.specs.declared.packet.Header.{Header}
use Rattle.tipc_header.specs.declared.packet.Header.TheVariants as header
use Rattle.tipc_header.specs.Faults.{fault_of}
use Rattle.tipc_header.specs.Frames.{first_of, kind_in}
use Rattle.tipc_header.specs.Reading.{fields_at}
use Rattle.tipc_contact.specs.Sides.{boot_of}
use Rattle.tipc_link.specs.Links.{is_traffic}
use Rattle.tipc_paired.specs.Views.{er_of, es_of}
use Rattle.tipc_node.specs.Nodes.{is_frame_size}
use Rattle.tipc_replay.specs.declared.air.Sent.{Sent}
use Rattle.tipc_replay.specs.declared.flying.Aging.{Aging}
use Rattle.tipc_replay.specs.declared.flying.Aging.TheVariants as aging
use Rattle.tipc_replay.specs.Air.{number_of_node}
use Rattle.tipc_replay.specs.Skies.{AirState, air_on}
use Rattle.tipc_replay.specs.States.{MemberState, cast_count_at, count_at}

-- whether a frame from this address is for node n: one to all is for each node but its sender
abbrev pub is_for : Addr → To → ℕ → Bool
is_for from (to.Node address) n = address.word == node_word n
is_for from to.All n = not (from.word == node_word n)

-- a frame, where there is one and it is for node n
abbrev pub kept_for : Option Sent → ℕ → Option Sent
kept_for None n = None
kept_for (Some f) n = if is_for f.from f.to n then Some f else None

-- the k-th frame of a bearer's air, where it is for node n
unfoldable pub frame_for : AirState → ℕ → ℕ → ℕ → Option Sent
frame_for air n bearer k = kept_for (slice_get (air_on bearer air) k) n

-- ---- the age of a frame

-- whether a packet is a STATE
abbrev pub is_state : Header → Bool
is_state (header.State said) = true
is_state other = false

-- What the age of a frame is counted by, as the code tells it: nothing, so that it is never too old; the broadcast link of its sender in a boot;
-- its session, of the two epochs of its envelope; or that session and the broadcast links of both nodes, of which a STATE speaks.
abbrev pub aging_by_header : ℕ → ℕ → Header → Aging
aging_by_header sender receiver h =
    if is_traffic h then (if is_state h then aging.State sender receiver else aging.Numbered sender receiver) else aging.Never

-- the same by a frame's kind: one of discovery is never too old, and one of broadcast is counted in the boot that its
-- envelope names first
abbrev pub aging_by_kind : List ℕ → FrameKind → Header → Aging
aging_by_kind bytes Finds h = aging.Never
aging_by_kind bytes Casts h = aging.Cast (first_of bytes)
aging_by_kind bytes Links h = aging_by_header (es_of bytes) (er_of bytes) h

-- a packet that has a fault is never too old
abbrev pub aging_by_fault : List ℕ → Option HeaderFault → Aging
aging_by_fault bytes (Some fault) = aging.Never
aging_by_fault bytes None = aging_by_kind bytes (kind_in bytes) (fields_at (drop 16 bytes)).header

-- the same by a frame's bytes: what doesn't have the size of a frame is never too old
unfoldable pub aging_of : List ℕ → Aging
aging_of bytes = if is_frame_size (length bytes) then aging_by_fault bytes (fault_of (drop 16 bytes)) else aging.Never

-- how many packets were numbered since a frame was sent to node n on a bearer, in that bearer's session of these two epochs: the larger
-- number of its two directions
abbrev pub session_age : List (Option MemberState) → Sent → ℕ → ℕ → ℕ → ℕ → ℕ
session_age members f n bearer sender receiver =
    max (count_at members (number_of_node f.from.word) n bearer sender - f.numbered)
    (count_at members n (number_of_node f.from.word) bearer receiver - f.peer_numbered)

-- how many numbers the broadcast link of its sender used in a boot since a frame was sent
abbrev pub cast_age : List (Option MemberState) → Sent → ℕ → ℕ
cast_age members f boot = cast_count_at members (number_of_node f.from.word) boot - f.casts

-- how many the broadcast link of node n used since a frame was sent to it, in the boot of then
abbrev pub peer_cast_age : List (Option MemberState) → Sent → ℕ → ℕ
peer_cast_age members f n = cast_count_at members n f.peer_boot - f.peer_casts

-- the largest of these numbers, which is the age of a STATE; the sender's boot is that of the first epoch
abbrev pub state_age : List (Option MemberState) → Sent → ℕ → ℕ → ℕ → ℕ → ℕ
state_age members f n bearer sender receiver =
    max (session_age members f n bearer sender receiver) (max (cast_age members f (boot_of sender)) (peer_cast_age members f n))

-- the age of a frame by what it is counted by
abbrev pub age_by : List (Option MemberState) → Sent → ℕ → ℕ → Aging → ℕ
age_by members f n bearer aging.Never = 0
age_by members f n bearer (aging.Cast boot) = cast_age members f boot
age_by members f n bearer (aging.Numbered sender receiver) = session_age members f n bearer sender receiver
age_by members f n bearer (aging.State sender receiver) = state_age members f n bearer sender receiver

-- the age of a frame that was sent on a bearer
unfoldable pub age_of : List (Option MemberState) → Sent → ℕ → ℕ → ℕ
age_of members f n bearer = age_by members f n bearer (aging_of f.frame)

-- ---- an arrival that is none

-- why the frame that was found, or none, doesn't arrive at node n
abbrev pub stopped_by_age : List (Option MemberState) → ℕ → ℕ → Option Sent → Option Answer
stopped_by_age members n bearer None = Some answer.NoFrame
stopped_by_age members n bearer (Some f) =
    if nat_lt most_age (age_of members f n bearer) then Some (answer.TooOld (age_of members f n bearer)) else None

-- why a frame doesn't arrive: there is no such frame for that node, or it is too old
unfoldable pub unarrived : List (Option MemberState) → AirState → ℕ → ℕ → ℕ → Option Answer
unarrived members air n bearer k = stopped_by_age members n bearer (frame_for air n bearer k)
