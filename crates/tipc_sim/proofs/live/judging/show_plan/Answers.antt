use Rattle.std.specs.List.{All}
use Rattle.std.proofs.Common.{◌≡◌, true, arith, refl, rules, subst}
use Rattle.std.proofs.lemmas.List.{take_all}
use Rattle.std.proofs.lemmas.List.Elements.{All-more}
use Rattle.tipc_sim.specs.LivePlans.{ShowsPart}
use Rattle.tipc_sim.proofs.live.judging.show_plan.Goals as goal

pub loop-pass-preserved : goal.loop-pass-preserved
loop-pass-preserved c =
    let on : c.in_ok-shows_part.field-0 ≡ true = search rules in
    All-more (ShowsPart c.args.plan.now c.args.node) c.args.passes.now c.loop-pass.pass-index c.pass-item.result c.loop-pass-test.true c.loop-pass.invariant
    (subst (ShowsPart c.args.plan.now c.args.node) c.pass-item.is (c.in_ok-shows_part.ensures.0 on))

pub returns : goal.returns
returns c =
    let over = c.loop-pass-test.false in (
      λ _. subst (All (ShowsPart c.args.plan.now c.args.node)) (take_all c.loop-pass.pass-index c.args.passes.now (omega (arith, over))) c.loop-pass.invariant,
      λ _. refl,
    )
