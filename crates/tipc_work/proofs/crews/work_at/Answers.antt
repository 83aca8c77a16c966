use Rattle.tipc_work.proofs.Crewing.{work_done}
use Rattle.tipc_work.proofs.crews.work_at.Goals as goal

pub returns : goal.returns
returns g c =
    work_done _ _ _ _ _ _ _ _ _ _ _ _ _ _ _ _ _ _ c.requires.unused c.pop.ensures.items c.in-Some.is c.in_ok-passes.ensures.called
    c.in_ok-passes.ensures.moved c.in_ok-push.ensures.items
