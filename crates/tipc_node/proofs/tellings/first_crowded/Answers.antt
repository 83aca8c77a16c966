use Rattle.std.proofs.Common.{arith}
use Rattle.tipc_node.proofs.work.Tellings.{clear_first, clear_next}
use Rattle.tipc_node.proofs.tellings.first_crowded.Goals as goal

pub loop-number-init : goal.loop-number-init
loop-number-init c = clear_first c.args.neighbours.now

pub loop-number-preserved : goal.loop-number-preserved
loop-number-preserved c =
    let few = c.if-waiting-ge-NAMES_LIMIT.false in
    clear_next c.args.neighbours.now c.loop-number.number c.waiting_at-waiting.result c.loop-number.invariant c.loop-number-test.true c.waiting_at-waiting.ensures (omega (arith, few))
