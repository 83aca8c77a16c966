use Rattle.tipc_work.proofs.Crewing.{post_ready}
use Rattle.tipc_work.proofs.runs.work_crew.Goals as goal

pub work_at-requires-clause-unused : goal.work_at-requires-clause-unused
work_at-requires-clause-unused g c κs within = post_ready _ _ _ _ _ _ _ c.requires c.post-post.ensures.plan c.post-post.ensures.lock
