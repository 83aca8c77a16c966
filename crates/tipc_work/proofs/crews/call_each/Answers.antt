use Rattle.std.proofs.Common.{arith, subst}
use Rattle.tipc_work.specs.Worked.{HaveCalled}
use Rattle.tipc_work.proofs.Crewing.{all_called}
use Rattle.tipc_work.proofs.crews.call_each.Goals as goal

pub returns : goal.returns
returns g c =
    let many = c.in_ok-called.ensures.len in
    let before = c.args.passes.ok in
    let after = c.in_ok-called.called.ok in
    subst (λ n. HaveCalled c.args.post.now.plan.now c.args.post.now.node c.args.post.now.lock.now n c.in_ok-all_of.field-0.items) c.requires.count.0
    (all_called _ _ _ c.args.passes.items _ c.in_ok-called.called.items c.requires.callers
    (λ i r within. let k = c.in_ok-called.ensures.each i r within in (k.1.job, k.1.job_is, k.1.call.met)) c.in_ok-all_of.ensures (omega (arith, many, before, after)))
