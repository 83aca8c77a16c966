use Rattle.std.proofs.Common.{arith}
use Rattle.tipc_work.proofs.Carrying.{goes_none, goes_then}
use Rattle.tipc_work.proofs.movers.Mover.go_on.Goals as goal

pub loop-init : goal.loop-init
loop-init g c = (goes_none _ _ _ _, omega arith, c.requires.pass, c.requires.told)

pub loop-preserved : goal.loop-preserved
loop-preserved g c =
    let before = c.loop.invariant.1 in
    let here = c.turn.ensures.few in (
      goes_then _ _ _ _ _ _ c.loop.invariant.0 c.in_ok-turn.ensures.goes,
      omega (arith, before, here),
      c.turn.ensures.stays,
      c.in_ok-turn.ensures.ticks.told,
    )
