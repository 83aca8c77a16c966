use Rattle.std.proofs.Common.{◌≡◌, ◌∙◌, subst, sym}
use Rattle.tipc_live.specs.Auditing.{Audits}
use Rattle.tipc_report.specs.declared.live.Verdict.TheVariants as verdict
use Rattle.tipc_sim.specs.LiveRuns.{Finds, verdict_of}
use Rattle.tipc_sim.proofs.LiveLaws.{finds_answer, finds_if}
use Rattle.tipc_sim.proofs.live.judging.judge.Goals as goal

pub returns-clause-found : goal.returns-clause-found
returns-clause-found g c =
    let same = c.in_ok-answer.ensures.same.0 in
    let audited = subst (λ ns. Audits g.P.Pick.gives ns c.audit.new.self.replay c.in_ok-answer.answer) (sym same) c.in_ok-answer.ensures.audited in
    let off = c.if-is_yes.false in
    let other : verdict_of c.in_ok-answer.answer ≡ verdict.Yes → ⊥ =
    λ is. let on = c.is_yes.ensures.1 (c.verdict_of-verdict.ensures ∙ is) in absurd cc in
    subst (Finds g.P.Pick.gives c.args.plan.now c.audit.new.self) (sym c.verdict_of-verdict.ensures)
    (finds_answer g.P.Pick.gives c.args.plan.now c.audit.new.self c.in_ok-answer.answer audited other)

pub returns-then-is_yes-clause-found : goal.returns-then-is_yes-clause-found
returns-then-is_yes-clause-found g c =
    let same = c.in_ok-answer.ensures.same.0 in
    let audited = subst (λ ns. Audits g.P.Pick.gives ns c.audit.new.self.replay c.in_ok-answer.answer) (sym same) c.in_ok-answer.ensures.audited in
    finds_if g.P.Pick.gives c.args.plan.now c.audit.new.self _ c.in_ok-answer.answer c.judge_plan.result c.nodes.ensures audited
    (sym c.verdict_of-verdict.ensures ∙ c.is_yes.ensures.0 c.if-is_yes.true) c.judge_plan.ensures
