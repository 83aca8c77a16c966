use Rattle.tipc_broadcast.proofs.Casts.{flushing-done, flushing-start, flushing-step}
use Rattle.tipc_broadcast.proofs.broadcast.Broadcast.flush.Goals as goal

pub loop-init : goal.loop-init
loop-init c = flushing-start _ _ _ c.room-count.ensures.value

pub loop-preserved : goal.loop-preserved
loop-preserved c = flushing-step _ _ _ _ _ _ _ _ c.loop.invariant c.loop-test.true c.send_next.ensures.after c.send_next.ensures.frames

pub returns-clause-after : goal.returns-clause-after
returns-clause-after c = (flushing-done _ _ _ _ _ _ c.loop.invariant c.loop-test.false).0

pub returns-clause-frames : goal.returns-clause-frames
returns-clause-frames c = (flushing-done _ _ _ _ _ _ c.loop.invariant c.loop-test.false).1

pub returns-clause-short : goal.returns-clause-short
returns-clause-short c = c.room-count.ensures.short
