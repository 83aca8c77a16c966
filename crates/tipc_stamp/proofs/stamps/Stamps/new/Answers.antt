use Rattle.std.proofs.Common.{arith}
use Rattle.tipc_stamp.proofs.Keeping.{deals}
use Rattle.tipc_stamp.proofs.stamps.Stamps.new.Goals as goal

pub split_seat-seat-requires : goal.split_seat-seat-requires
split_seat-seat-requires c =
    let kept = c.loop.invariant in
    let one = c.in_ok-table.ensures.0 in
    let left = kept.2 in
    let more = c.loop-test.true in
    let most = c.requires.1 in
    (kept.0, omega (arith, one), deals _ _ (omega (arith, left, more, most)))
