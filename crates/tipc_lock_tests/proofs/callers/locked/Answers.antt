use Rattle.std.specs.List.{All}
use Rattle.std.proofs.Common.{◌≡◌, List, refl, sym, subst}
use Rattle.std.proofs.lemmas.List.Elements.{All-replicate}
use Rattle.tipc_stamp.specs.Seats.{SeatState, new_seat}
use Rattle.tipc_lock_tests.proofs.callers.locked.Goals as goal

pub new-requires-2-clause-seats : goal.new-requires-2-clause-seats
new-requires-2-clause-seats c =
    let table = c.args.stamps.now in
    subst (λ (seats : List SeatState). All (λ s. s.of_table ≡ table) seats) (sym c.requires.seats)
    (All-replicate (λ s. s.of_table ≡ table) c.args.callers (new_seat table) refl)
