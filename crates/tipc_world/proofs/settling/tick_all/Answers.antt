use Rattle.std.proofs.Common.{arith}
use Rattle.std.proofs.lemmas.Result.{err_from_is_err_and}
use Rattle.tipc_world.specs.Courses.{begin, go_on}
use Rattle.tipc_world.specs.Settling.{tick_asked}
use Rattle.tipc_world.proofs.CourseLaws.{all_halts}
use Rattle.tipc_world.proofs.Continuing.{continues_same, continues_more}
use Rattle.tipc_world.proofs.settling.tick_all.Goals as goal

pub loop-node-init : goal.loop-node-init
loop-node-init g c = record { goes = (0, begin); continues = continues_same c.args.world.now }

pub returns-in_err-tick-clause-comes : goal.returns-in_err-tick-clause-comes
returns-in_err-tick-clause-comes g c =
    let l = c.loop-node in
    let p = err_from_is_err_and c.from_residual.result c.from_residual.ensures.1 in
    rw (p.1, p.2) (all_halts tick_asked 1 33 c.args.world.now.state l.node l.invariant.goes.0 l.world.state c.tick.new.world.state c.in_err-tick.field-0.0
    (omega (arith, c.loop-node-test.true)) l.invariant.goes.1 c.in_err-tick.ensures.comes)

pub returns-in_err-tick-clause-continues : goal.returns-in_err-tick-clause-continues
returns-in_err-tick-clause-continues g c = continues_more c.args.world.now c.loop-node.world c.tick.new.world c.loop-node.invariant.continues c.tick.ensures.continues

pub loop-node-preserved : goal.loop-node-preserved
loop-node-preserved g c =
    let l = c.loop-node in
    record {
      goes = (_, go_on l.node l.invariant.goes.0 l.world.state c.in_ok-tick.field-0 c.tick.new.world.state l.invariant.goes.1 c.in_ok-tick.ensures.comes);
      continues = continues_more c.args.world.now l.world c.tick.new.world l.invariant.continues c.tick.ensures.continues;
    }
