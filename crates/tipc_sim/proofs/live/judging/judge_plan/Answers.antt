use Rattle.std.specs.List.{All}
use Rattle.std.proofs.Common.{◌≡◌, ◌+◌, false, rules, subst, sym}
use Rattle.tipc_sim.specs.LivePlans.{IsFirstUnshown, ShowsPart}
use Rattle.tipc_sim.proofs.LiveLaws.{first_unshown}
use Rattle.tipc_sim.proofs.live.judging.judge_plan.Goals as goal

pub returns-then-not-branch : goal.returns-then-not-branch
returns-then-not-branch g c =
    let off : c.in_ok-show_plan.field-0 ≡ false = search rules in
    let same : c.loop-locked.node ≡ c.loop-locked.locked-index = c.loop-locked.invariant.1 in
    subst (λ n. IsFirstUnshown c.args.plan.now c.args.nodes.now (n + 1)) (sym same)
    (first_unshown c.args.plan.now c.args.nodes.now c.loop-locked.locked-index c.locked-item.result c.requires.passes c.requires.told c.loop-locked.invariant.0 c.loop-locked-test.true
    c.locked-item.is
    (λ all.
    let here = subst (All (ShowsPart c.args.plan.now (c.loop-locked.locked-index + 1))) (sym c.passes.ensures) all in
    let on = c.in_ok-show_plan.ensures.1 (subst (λ n. All (ShowsPart c.args.plan.now (n + 1)) c.passes.result.now) (sym same) here) in absurd cc))
