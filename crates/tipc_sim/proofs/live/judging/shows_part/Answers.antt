use Rattle.std.proofs.Common.{◌<◌, ◌≤◌, arith, subst, sym}
use Rattle.tipc_work.specs.Plans.{ShowsCaller, ShowsMover}
use Rattle.tipc_work.specs.Shown.{calls_made}
use Rattle.tipc_sim.proofs.LiveLaws.{caller_of_part, mover_of_part, part_of_caller, part_of_mover}
use Rattle.tipc_sim.proofs.live.judging.shows_part.Goals as goal

pub returns-then-caller-from : goal.returns-then-caller-from
returns-then-caller-from c =
    let above = c.if-caller-from.true in
    let number = c.caller.ensures.number in
    let callers = c.from.ensures in
    let more : c.args.plan.now.callers < c.args.pass.now.caller = omega (arith, above, number, callers) in (
      λ on. part_of_mover c.args.plan.now c.args.node c.args.pass.now more (subst (λ m. ShowsMover (calls_made m)) c.made.ensures (c.shows_mover.ensures.0 on)),
      λ s. c.shows_mover.ensures.1 (subst (λ m. ShowsMover (calls_made m)) (sym c.made.ensures) (mover_of_part c.args.plan.now c.args.node c.args.pass.now more s)),
    )

pub returns : goal.returns
returns c =
    let below = c.if-caller-from.false in
    let number = c.caller.ensures.number in
    let callers = c.from.ensures in
    let few : c.args.pass.now.caller ≤ c.args.plan.now.callers = omega (arith, below, number, callers) in
    let onward = subst (λ m. ShowsCaller c.args.plan.now c.args.node c.caller-2.result (calls_made m)) c.made-2.ensures in
    let back = subst (λ m. ShowsCaller c.args.plan.now c.args.node c.caller-2.result (calls_made m)) (sym c.made-2.ensures) in (
      λ on. part_of_caller c.args.plan.now c.args.node c.args.pass.now few
          (subst (λ k. ShowsCaller c.args.plan.now c.args.node k (calls_made c.args.pass.now.made)) c.caller-2.ensures.number (onward (c.in_ok-shown.ensures.0 on))),
      λ s. c.in_ok-shown.ensures.1 (back
          (subst (λ k. ShowsCaller c.args.plan.now c.args.node k (calls_made c.args.pass.now.made)) (sym c.caller-2.ensures.number) (caller_of_part c.args.plan.now c.args.node c.args.pass.now few s))),
    )
