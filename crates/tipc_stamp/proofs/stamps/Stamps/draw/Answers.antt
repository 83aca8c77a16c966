use Rattle.std.proofs.Common.{sym, ap, ◌∙◌, arith, rules}
use Rattle.tipc_stamp.specs.Seats.{SeatState}
use Rattle.tipc_stamp.proofs.Keeping.{draws}
use Rattle.tipc_stamp.proofs.stamps.Stamps.draw.Goals as goal

pub fetch_add-requires : goal.fetch_add-requires
fetch_add-requires c =
    let one = c.self.invariant.0 in
    (ap (λ (s : SeatState). s.of_table) c.seat.view_is ∙ (c.requires ∙ sym c.self.view_is), omega (arith, one), draws _ _ _ (search rules))
