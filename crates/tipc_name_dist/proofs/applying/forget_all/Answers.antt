use Rattle.tipc_name_dist.proofs.Applied.{forgetting_done, forgetting_next, forgetting_none, given}
use Rattle.tipc_name_dist.proofs.applying.forget_all.Goals as goal

pub returns-in-None-clause-ok : goal.returns-in-None-clause-ok
returns-in-None-clause-ok g c =
    given _ _ _ _ _ _ (forgetting_none _ _ _ _ _ _ _ _ c.loop-place.invariant c.loop-place-test.true c.in-None.ensures.held c.in-None.ensures.none) c.up_to.ensures.0 c.up_to.ensures.1

pub loop-place-preserved : goal.loop-place-preserved
loop-place-preserved g c =
    forgetting_next _ _ _ _ _ _ _ _ _ _ c.in-Some.p c.loop-place.invariant c.loop-place-test.true c.in-Some.ensures.held c.in-Some.ensures.after c.push_reserved.ensures.items c.push_reserved.ensures.capacity

pub returns-clause-ok : goal.returns-clause-ok
returns-clause-ok g c =
    given _ _ _ _ _ _ (forgetting_done _ _ _ _ _ _ _ c.loop-place.invariant c.loop-place-test.false) c.whole.ensures.0 c.whole.ensures.1
