-- The bytes of a message's body.
use Rattle.std.specs.Prelude.{ℕ, ◌≤◌, List, length, take}
use Rattle.std.specs.Arc.{arc_slice_items}
use Rattle.tipc_types.specs.declared.bodies.HeldBytes.{HeldBytes}
use Rattle.tipc_types.specs.declared.bodies.HeldBytes.TheVariants.{Short, Shared}

-- the bytes that are held: the first so many of those that stand there
abbrev pub bytes_of : HeldBytes → List ℕ
bytes_of (Short len bytes) = take len bytes
bytes_of (Shared len bytes) = take len (arc_slice_items bytes)

-- so many stand there, and at most 14 in their place
abbrev pub IsHeld : HeldBytes → Type 0
IsHeld (Short len bytes) = (len ≤ 14) × (len ≤ length bytes)
IsHeld (Shared len bytes) = len ≤ length (arc_slice_items bytes)
