-- What arrived at nodes: frames of the air that were for them.
use Rattle.std.specs.Prelude.{◌≡◌, ℕ, List, Option, None, Some, slice_get, slice_index_or}
use Rattle.tipc_replay.specs.declared.air.Arrived.{Arrived}
use Rattle.tipc_replay.specs.declared.air.Sent.{Sent}
use Rattle.tipc_replay.specs.Due.{frame_for}
use Rattle.tipc_replay.specs.Skies.{AirState}
use Rattle.tipc_replay.specs.States.{MemberState}

-- at that place of a bearer's air is a frame, and it is for node n
abbrev pub IsReceived : AirState → ℕ → Arrived → Type 0
IsReceived air n x = (f : Sent) × (frame_for air n x.bearer x.frame ≡ Some f)

-- each frame that arrived at node n, in all its boots, is so
abbrev pub HasReceived : AirState → ℕ → List Arrived → Type 0
HasReceived air n arrivals = (k : ℕ) (x : Arrived) → slice_get arrivals k ≡ Some x → IsReceived air n x

-- it is so at each node that is there
abbrev pub AreReceived : List (Option MemberState) → AirState → Type 0
AreReceived members air = (n : ℕ) (m : MemberState) → slice_index_or members n None ≡ Some m → HasReceived air n m.arrivals
