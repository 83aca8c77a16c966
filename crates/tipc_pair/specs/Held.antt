-- Where that comes from which a link holds and hasn't given yet.
use Rattle.std.specs.Prelude.{ℕ, List, Option, Some, None}
use Rattle.tipc_types.specs.declared.packet_lists.Taken.{Taken}

-- a packet, where one is held, came by its arrival
abbrev pub CameBy : (ℕ → List ℕ → Type 0) → Option Taken → Type 0
CameBy P None = Unit {0}
CameBy P (Some t) = P t.by t.packet
