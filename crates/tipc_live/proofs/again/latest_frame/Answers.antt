use Rattle.std.proofs.Common.{arith}
use Rattle.tipc_live.proofs.Latest.{frame_within}
use Rattle.tipc_live.proofs.again.latest_frame.Goals as goal

pub loop-place-init : goal.loop-place-init
loop-place-init c = λ k past has.
    let within = frame_within c.args.replay.now.air c.args.n c.args.bearer k c.args.bytes.now has in
    let size = c.air_len-place.ensures.len in
    absurd (omega (arith, within, past, size))
