use Rattle.std.specs.List.{All, range_with_len}
use Rattle.std.proofs.Common.{◌≡◌, ◌+◌, ◌*◌, length, map, replicate}
use Rattle.tipc_stamp.specs.Seats.{new_seat}
use Rattle.tipc_work.proofs.Locking.{lock_at, passes_at}
use Rattle.tipc_work.proofs.nodes.lock_nodes.Given as goal

-- the nodes before are locked
abbrev pub invariant-loop-chooser : goal.invariant-loop-chooser
invariant-loop-chooser g l =
    (length l.choosers.items + l.node ≡ l.plan.nodes)
    × All (λ chooser. chooser.turn ≡ 0) l.choosers.items
    × (l.locks.items ≡ map (lock_at l.plan l.stamps) (range_with_len 0 l.node))
    × (map (λ v. v.items) l.passes.items ≡ map (passes_at l.plan l.stamps) (range_with_len 0 l.node))
    × (l.waiting.items ≡ replicate (length l.waiting.items) (new_seat l.stamps))
    × (length l.waiting.items + l.node * (l.plan.callers + 1) ≡ l.plan.nodes * (l.plan.callers + 1))

abbrev pub decreases-loop-chooser : goal.decreases-loop-chooser
decreases-loop-chooser g l = length l.choosers.items
