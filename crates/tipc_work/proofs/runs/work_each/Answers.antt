use Rattle.std.proofs.Common.{arith}
use Rattle.tipc_work.specs.declared.crews.Crew.{Crew}
use Rattle.tipc_work.specs.declared.crews.Crewed.{Crewed}
use Rattle.tipc_work.specs.Worked.{HasWorkedAt}
use Rattle.tipc_work.proofs.Crewing.{jobs_count, jobs_done}
use Rattle.tipc_work.proofs.runs.work_each.Goals as goal

pub returns-clause-len : goal.returns-clause-len
returns-clause-len g c =
    let many = c.in_ok-worked.ensures.len in
    let before = c.args.crews.ok in
    let after = c.in_ok-worked.worked.ok in
    jobs_count _ _ c.in_ok-worked.worked.items c.in_ok-all_of.ensures (omega (arith, many, before, after))

pub returns-clause-each : goal.returns-clause-each
returns-clause-each g c =
    let many = c.in_ok-worked.ensures.len in
    let before = c.args.crews.ok in
    let after = c.in_ok-worked.worked.ok in
    jobs_done
    (λ (k : Crew _ _) (d : Crewed _). HasWorkedAt g.B.Bearer.tried g.B.Bearer.given g.B.Bearer.faults c.args.run.now.plan.now c.args.run.now.locks.now k.place
    k.first k.second d.passes.items d.failed d.first d.second)
    c.args.crews.items _ c.in_ok-worked.worked.items c.in_ok-all_of.ensures (omega (arith, many, before, after))
    (λ i r within. let k = c.in_ok-worked.ensures.each i r within in (k.1.job, k.1.job_is, k.1.call.met))
