use Rattle.std.proofs.Common.{◌≡◌, ◌+◌, ◌++◌, length}
use Rattle.tipc_node_lock.specs.Passes.{passes_from}
use Rattle.tipc_node_lock.proofs.passes.new_passes.Given as goal

-- the passes so far and those of the seats that wait are those of all seats
abbrev pub invariant-loop-seat : goal.invariant-loop-seat
invariant-loop-seat l =
    (l.passes.items ++ passes_from l.own.word (l.caller + 1) l.waiting.items ≡ passes_from l.own.word 1 l.fn.seats.items)
    × (l.caller + length l.waiting.items ≡ length l.fn.seats.items)

abbrev pub decreases-loop-seat : goal.decreases-loop-seat
decreases-loop-seat l = length l.waiting.items
