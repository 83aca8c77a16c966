use Rattle.std.proofs.Common.{ap, Err}
use Rattle.tipc_name_dist.proofs.Applied.{given, learning_done, learning_full, learning_misplaced, learning_next}
use Rattle.tipc_name_dist.proofs.applying.learn_all.Goals as goal

pub returns-in_default-clause-ok : goal.returns-in_default-clause-ok
returns-in_default-clause-ok g c =
    given _ _ _ _ _ _ (learning_misplaced _ _ _ _ _ _ _ c.told_by.result c.loop-place.invariant c.loop-place-test.true c.told_by.ensures.told c.in_default.is) c.up_to.ensures.0 c.up_to.ensures.1

pub returns-in-Err-Bad-clause-ok : goal.returns-in-Err-Bad-clause-ok
returns-in-Err-Bad-clause-ok g c =
    given _ _ _ _ _ _
    (learning_full _ _ _ _ _ _ _ _ c.in-Some.p c.loop-place.invariant c.loop-place-test.true c.in-Some.ensures.told (c.in-Err-Bad.ensures.bad (ap Err c.in-Err-Bad.field-0-is)) c.in-Err-Bad.ensures.err)
    c.up_to-in-Err-Bad.ensures.0 c.up_to-in-Err-Bad.ensures.1

pub loop-place-preserved : goal.loop-place-preserved
loop-place-preserved g c =
    learning_next _ _ _ _ _ _ _ _ _ _ c.in-Some.p c.loop-place.invariant c.loop-place-test.true c.in-Some.ensures.told c.in-Ok.ensures.new c.in-Ok.ensures.after c.push_reserved.ensures.items c.push_reserved.ensures.capacity

pub returns-clause-ok : goal.returns-clause-ok
returns-clause-ok g c =
    given _ _ _ _ _ _ (learning_done _ _ _ _ _ _ _ c.loop-place.invariant c.loop-place-test.false) c.whole.ensures.0 c.whole.ensures.1
