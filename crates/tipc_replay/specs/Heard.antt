-- What a frame tells of broadcast where it is a STATE.
use Rattle.std.specs.Prelude.{ℕ, drop, List, Option, Some, None}
use Rattle.tipc_types.specs.declared.link_words.BroadcastState.{BroadcastState}
use Rattle.tipc_header.specs.declared.frames.FrameKind.{FrameKind}
use Rattle.tipc_header.specs.declared.frames.FrameKind.TheVariants.{Links}
use Rattle.tipc_header.specs.declared.packet.Header.{Header}
use Rattle.tipc_header.specs.declared.packet.Header.TheVariants as header
use Rattle.tipc_header.specs.Frames.{kind_in}
use Rattle.tipc_header.specs.Reading.{fields_at}
use Rattle.tipc_node.specs.Casting.{broadcast_in}

-- by the header of its packet
abbrev pub broadcast_of : Header → Option BroadcastState
broadcast_of (header.State said) = Some (broadcast_in said)
broadcast_of other = None

-- of a link packet
abbrev pub state_of_kind : FrameKind → List ℕ → Option BroadcastState
state_of_kind Links bytes = broadcast_of (fields_at (drop 16 bytes)).header
state_of_kind other bytes = None

abbrev pub state_in : List ℕ → Option BroadcastState
state_in bytes = state_of_kind (kind_in bytes) bytes
