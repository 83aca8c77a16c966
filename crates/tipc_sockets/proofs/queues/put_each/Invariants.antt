use Rattle.std.proofs.Common.{◌≡◌, ◌+◌, ◌<◌, ◌≤◌, true, ℕ, length, take}
use Rattle.std.specs.Prelude.{nat_eq, replicate, slice_index_or, All}
use Rattle.std.specs.Map.{lookup}
use Rattle.tipc_types.specs.declared.message_forms.Message.{Message}
use Rattle.tipc_sockets.specs.Fates.{may_wait}
use Rattle.tipc_sockets.specs.SocketTables.{queued_at_each}
use Rattle.tipc_sockets.proofs.queues.put_each.Given as goal

abbrev pub invariant-loop-port : goal.invariant-loop-port
invariant-loop-port l =
    (length l.left.items + l.port-index ≡ length l.ports)
    × ((m : Message) → l.fn.copies.items ≡ replicate (length l.ports) m
    → All (λ (x : Message). x ≡ m) l.left.items × (l.queues.entries ≡ queued_at_each m l.fn.queues.entries (take l.port-index l.ports)))
    × ((k d : ℕ) → l.port-index ≤ k → k < length l.ports → may_wait (lookup (nat_eq (slice_index_or l.ports k d)) l.queues.entries) ≡ true)
