use Rattle.tipc_work.proofs.Jobs.{jobs_gave, jobs_there}
use Rattle.tipc_work.proofs.crews.work_beside.Goals as goal

pub parted-requires : goal.parted-requires
parted-requires g c =
    jobs_there _ _ _ _ _ _ _ _ _ _ _ _ _ _ _ c.in_ok-jobs.ensures.items c.in_ok-push.ensures.items c.in_ok-push-2.ensures.items
    c.in_ok-do_both.ensures

pub returns-clause-called : goal.returns-clause-called
returns-clause-called g c =
    (jobs_gave _ _ _ _ _ _ _ _ _ _ _ _ _ _ _ _ _ c.in_ok-jobs.ensures.items c.in_ok-push.ensures.items c.in_ok-push-2.ensures.items
    c.in_ok-do_both.ensures c.parted.ensures).0

pub returns-clause-moved : goal.returns-clause-moved
returns-clause-moved g c =
    (jobs_gave _ _ _ _ _ _ _ _ _ _ _ _ _ _ _ _ _ c.in_ok-jobs.ensures.items c.in_ok-push.ensures.items c.in_ok-push-2.ensures.items
    c.in_ok-do_both.ensures c.parted.ensures).1
