use Rattle.std.proofs.Common.{◌≡◌, ◌-◌, length, take, drop, take_all, length-drop, arith}
use Rattle.tipc_header.proofs.FrameWords.{envelope-reads}
use Rattle.tipc_header.proofs.frames.open_frame.Goals as goal

pub returns-clause-some : goal.returns-clause-some
returns-clause-some c =
    let b = c.args.bytes.now in
    let all : take (length b - 16) (drop 16 b) ≡ drop 16 b = take_all _ _ (omega (arith, length-drop 16 b)) in
    rw (c.long.ensures, c.long-2.ensures, all) (envelope-reads b (λ i. omega (arith, c.type_inv.bytes i)) (omega arith))
