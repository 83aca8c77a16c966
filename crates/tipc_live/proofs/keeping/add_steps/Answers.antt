use Rattle.std.proofs.Common.{◌+◌, ◌-◌, ◌<◌, arith, length, sym, subst, ◌∙◌}
use Rattle.tipc_live.proofs.Finding.{AreFoundTo, found_all, found_more, found_none, found_within}
use Rattle.tipc_live.proofs.keeping.add_steps.Goals as goal

pub loop-by-init : goal.loop-by-init
loop-by-init c = found_none _ _ _ c.requires

pub overflow_add-begin : goal.overflow_add-begin
overflow_add-begin c =
    let after = found_more _ _ _ _ _ _ c.loop-by.invariant (sym c.maker_at.ensures ∙ c.in-Some.is) c.end_from-end.result c.end_from-end.ensures in
    let within = found_within _ _ _ _ _ after in
    omega (arith, within)

pub loop-by-smaller : goal.loop-by-smaller
loop-by-smaller c =
    let after = found_more _ _ _ _ _ _ c.loop-by.invariant (sym c.maker_at.ensures ∙ c.in-Some.is) c.end_from-end.result c.end_from-end.ensures in
    let within = found_within _ _ _ _ _ after in
    let up = c.end_from-end.ensures in
    let less : length c.args.entries.now - (c.end_from-end.result + 1) < length c.args.entries.now - c.loop-by.begin = omega (arith, within, up) in
    less

pub loop-by-preserved : goal.loop-by-preserved
loop-by-preserved c =
    subst (λ items. AreFoundTo c.args.node c.args.entries.now c.args.steps.now.items items (c.end_from-end.result + 1)) (sym c.in_ok-push.ensures.items)
    (found_more _ _ _ _ _ _ c.loop-by.invariant (sym c.maker_at.ensures ∙ c.in-Some.is) c.end_from-end.result c.end_from-end.ensures)

pub returns : goal.returns
returns c = found_all _ _ _ _ _ c.loop-by.invariant (sym c.maker_at.ensures ∙ c.in_default.is)
