use Rattle.tipc_broadcast.proofs.Casts.{moving-done, moving-start, moving-step}
use Rattle.tipc_broadcast.proofs.broadcast.Broadcast.move_up.Goals as goal

pub loop-init : goal.loop-init
loop-init c = moving-start _ _

pub loop-preserved : goal.loop-preserved
loop-preserved c = moving-step _ _ _ _ _ _ _ _ c.loop.invariant c.loop-test.true c.release.ensures c.flush.ensures.after c.flush.ensures.frames c.flush.ensures.short

pub returns-clause-after : goal.returns-clause-after
returns-clause-after c = (moving-done _ _ _ _ _ c.loop.invariant c.loop-test.false).state

pub returns-clause-frames : goal.returns-clause-frames
returns-clause-frames c = (moving-done _ _ _ _ _ c.loop.invariant c.loop-test.false).frames

pub returns-clause-short : goal.returns-clause-short
returns-clause-short c = (moving-done _ _ _ _ _ c.loop.invariant c.loop-test.false).short
