use Rattle.std.proofs.Common.{◌≡◌, arith, length}
use Rattle.tipc_work.specs.Jobs.{HasDone}
use Rattle.tipc_work.proofs.Crewing.{jobs_count, jobs_done}
use Rattle.tipc_work.proofs.crews.do_both.Goals as goal

pub returns : goal.returns
returns g c =
    let many = c.in_ok-done.ensures.len in
    let before = c.args.jobs.ok in
    let after = c.in_ok-done.done.ok in
    let count : length c.in_ok-done.done.items ≡ length c.args.jobs.items = omega (arith, many, before, after) in
    record {
      len = jobs_count _ _ c.in_ok-done.done.items c.in_ok-all_of.ensures count;
      each =
          jobs_done
          (HasDone g.B.Bearer.tried g.B.Bearer.given g.B.Bearer.faults c.args.post.now.plan.now c.args.post.now.node c.args.post.now.lock.now)
          c.args.jobs.items _ c.in_ok-done.done.items c.in_ok-all_of.ensures count
          (λ i r within. let k = c.in_ok-done.ensures.each i r within in (k.1.job, k.1.job_is, k.1.call.met));
    }
