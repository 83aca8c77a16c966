use Rattle.std.proofs.Common.{sym, ap, ◌∙◌, arith}
use Rattle.tipc_stamp.specs.Seats.{SeatState}
use Rattle.tipc_stamp.proofs.Keeping.{looks}
use Rattle.tipc_stamp.proofs.stamps.Stamps.seen.Goals as goal

pub load-requires : goal.load-requires
load-requires c =
    let one = c.self.invariant.0 in
    (ap (λ (s : SeatState). s.of_table) c.seat.view_is ∙ (c.requires ∙ sym c.self.view_is), omega (arith, one), looks _ _ _)
