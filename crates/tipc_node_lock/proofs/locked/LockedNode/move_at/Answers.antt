use Rattle.std.proofs.Common.{◌+◌, arith, length, ap}
use Rattle.tipc_node.specs.Sockets.{waiting_at}
use Rattle.tipc_node_lock.specs.Locked.{LockedState}
use Rattle.tipc_node_lock.proofs.Moving.{advances_more, advances_then}
use Rattle.tipc_node_lock.proofs.locked.LockedNode.move_at.Goals as goal

pub returns-in_default-clause-moves : goal.returns-in_default-clause-moves
returns-in_default-clause-moves g c = advances_more c.args.index 0 128 _ _ _ _ (omega arith) (c.offer_standing.ensures.moves c.args.pass.now)

pub loop-init : goal.loop-init
loop-init g c =
    let same = ap (λ (n : LockedState _). length (waiting_at n.node.sockets c.in-Some.port)) c.self.view_is in
    let count = c.queued-waiting.ensures.count in
    (c.offer_standing.ensures.moves c.args.pass.now, c.in-Some.ensures.open, omega (arith, same, count))

pub returns-in-Next-clause-moves : goal.returns-in-Next-clause-moves
returns-in-Next-clause-moves g c =
    let more = c.loop-test.true in
    let most = c.queued-waiting.ensures.most in
    advances_then c.args.index c.loop.counter 1 128 _ _ _ _ _ _ (omega (arith, more, most)) c.loop.invariant.0 c.in-Next.ensures.moves

pub returns-in-Stop-clause-moves : goal.returns-in-Stop-clause-moves
returns-in-Stop-clause-moves g c =
    let more = c.loop-test.true in
    let most = c.queued-waiting.ensures.most in
    advances_then c.args.index c.loop.counter 1 128 _ _ _ _ _ _ (omega (arith, more, most)) c.loop.invariant.0 c.in-Stop.ensures.moves

pub loop-preserved : goal.loop-preserved
loop-preserved g c =
    let before = c.loop.invariant.2 in
    let less = c.in-Here.ensures.on.1 in (
      advances_then c.args.index c.loop.counter 1 (c.loop.counter + 1) _ _ _ _ _ _ (omega arith) c.loop.invariant.0 c.in-Here.ensures.moves,
      c.in-Here.ensures.on.0,
      omega (arith, before, less),
    )
