use Rattle.std.proofs.Common.{◌≡◌, ◌+◌, ◌*◌, ◌^◌, [], replicate}
use Rattle.tipc_stamp.specs.Seats.{new_seat}
use Rattle.tipc_stamp.proofs.stamps.Stamps.new.Given as goal

-- the seats that were dealt are new ones, and what they may draw was the maker's
abbrev pub invariant-loop : goal.invariant-loop
invariant-loop l =
    (l.maker.table_id ≡ l.table.shared.table_id)
    × (l.maker.me.1 ≡ [])
    × (l.maker.me.0.left + l.counter * 2 ^ 40 ≡ 2 ^ 50)
    × (l.dealt.items ≡ replicate l.counter (new_seat l.table.shared.table_id))
