use Rattle.std.proofs.Common.{◌≡◌, ◌+◌, ◌*◌, ◌<◌, ◌≤◌, ℕ, length}
use Rattle.tipc_node_lock.specs.Moves.{IsClearedAt, MessagesMove}
use Rattle.tipc_node_lock.proofs.locked.LockedNode.move_all.Given as goal

-- the places before are cleared
abbrev pub invariant-loop-index : goal.invariant-loop-index
invariant-loop-index g l =
    MessagesMove l.fn.self l.self l.fn.pass l.pass
    × ((k : ℕ) → k < l.index → IsClearedAt l.self k)
    × (length l.self.places ≡ length l.fn.self.places)
    × (l.pass.seat.of_table ≡ l.fn.pass.seat.of_table)
    × (length l.pass.seat.drawn ≤ length l.fn.pass.seat.drawn + 128 * l.index)
