use Rattle.std.proofs.Common.{◌≡◌, ◌+◌, length, replicate}
use Rattle.tipc_stamp.specs.Seats.{new_seat}
use Rattle.tipc_work.proofs.nodes.take_seats.Given as goal

-- the seats before are taken
abbrev pub invariant-loop : goal.invariant-loop
invariant-loop l =
    (l.seats.items ≡ replicate l.counter (new_seat l.stamps))
    × (l.waiting.items ≡ replicate (length l.waiting.items) (new_seat l.stamps))
    × (length l.waiting.items + l.counter ≡ length l.fn.waiting.items)
