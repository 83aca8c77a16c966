use Rattle.tipc_link.proofs.Flushing.{flushing-done, flushing-start, flushing-step}
use Rattle.tipc_link.proofs.session.Session.flush.Goals as goal

pub loop-init : goal.loop-init
loop-init c = flushing-start _ _ _ c.room-count.ensures

pub loop-preserved : goal.loop-preserved
loop-preserved c = flushing-step _ _ _ _ _ _ _ _ c.loop.invariant c.loop-test.true c.send_next.ensures.after c.send_next.ensures.frame

pub returns-clause-after : goal.returns-clause-after
returns-clause-after c = (flushing-done _ _ _ _ _ _ c.loop.invariant c.loop-test.false).0

pub returns-clause-frames : goal.returns-clause-frames
returns-clause-frames c = (flushing-done _ _ _ _ _ _ c.loop.invariant c.loop-test.false).1
