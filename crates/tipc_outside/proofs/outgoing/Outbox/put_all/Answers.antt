use Rattle.std.proofs.Common.{arith}
use Rattle.tipc_outside.proofs.Boxes.{merging-behind, merging-first, merging-start}
use Rattle.tipc_outside.proofs.outgoing.Outbox.put_all.Goals as goal

pub loop-frame-init : goal.loop-frame-init
loop-frame-init c = merging-start _ _

pub loop-frame-preserved-then-left-gt0 : goal.loop-frame-preserved-then-left-gt0
loop-frame-preserved-then-left-gt0 c = merging-first _ _ _ _ _ _ c.in-Some.frame c.if-left-gt0.true c.push_first.ensures c.loop-frame.invariant

pub loop-frame-preserved : goal.loop-frame-preserved
loop-frame-preserved c =
    let none = c.if-left-gt0.false in
    merging-behind _ _ _ _ _ _ c.in-Some.frame (omega (arith, none)) c.push.ensures c.loop-frame.invariant
