-- The frames of broadcast packets: an envelope with the sender's boot number and the member set, and the packet.
use Rattle.std.specs.Prelude.{ℕ, ◌+◌, ◌≤◌, List, [], ◌∷◌, ◌++◌, Bool, false, length, take, drop, slice_index_or, if◌then◌else◌}
use Rattle.std.specs.Int.{w32, to_be_bytes}
use Rattle.tipc_types.specs.Position.{number_of}
use Rattle.tipc_types.specs.declared.identity.To.TheVariants as to
use Rattle.tipc_types.specs.declared.packet_lists.Kept.{Kept}
use Rattle.tipc_types.specs.Limits.{most_frame_bytes}
use Rattle.tipc_outside.specs.declared.outgoing.Outgoing.{Outgoing}
use Rattle.tipc_header.specs.Frames.{frame_of, stamped}

-- the frame of a packet of this boot of node `own` for these members, before it has a number
abbrev pub accepted_frame : ℕ → ℕ → ℕ → List ℕ → List ℕ
accepted_frame own boot members packet = frame_of boot members (stamped 0 0 own packet)

-- the frame when it has a number
unfoldable pub numbered_frame : ℕ → List ℕ → List ℕ
numbered_frame number frame = take 24 frame ++ (to_be_bytes w32 number ++ drop 28 frame)

-- a frame to every node on one bearer, where that is mended
abbrev pub on_bearer : List Bool → List ℕ → ℕ → List Outgoing
on_bearer mended frame bearer =
    if slice_index_or mended bearer false then record { bearer = bearer; to = to.All; frame = frame } ∷ [] else []

-- a frame on each mended bearer
abbrev pub on_bearers : List Bool → List ℕ → List Outgoing
on_bearers mended frame = on_bearer mended frame 0 ++ on_bearer mended frame 1

-- the frames of a packet under a number
abbrev pub cast : List Bool → ℕ → List ℕ → List Outgoing
cast mended number frame = on_bearers mended (numbered_frame number frame)

-- the frames of packets, the first of them behind the position `before`
abbrev pub cast_all : List Bool → ℕ → List (List ℕ) → List Outgoing
cast_all mended before [] = []
cast_all mended before (frame ∷ frames) = cast mended (number_of (before + 1)) frame ++ cast_all mended (before + 1) frames

-- the frames of packets that have their numbers
abbrev pub cast_again : List Bool → List Kept → List Outgoing
cast_again mended [] = []
cast_again mended (kept ∷ others) = cast mended kept.number kept.packet ++ cast_again mended others

-- a frame that may be sent has at most 1,516 bytes
abbrev pub IsShort : Outgoing → Type 0
IsShort f = length f.frame ≤ most_frame_bytes
