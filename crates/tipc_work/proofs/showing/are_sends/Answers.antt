use Rattle.std.proofs.Common.{◌+◌, subst, sym}
use Rattle.tipc_work.specs.Plans.{named_send}
use Rattle.tipc_work.specs.Showing.{BeginWithTries}
use Rattle.tipc_work.proofs.ShowingLaws.{LeavesSends, leaves_more, leaves_none}
use Rattle.tipc_work.proofs.showing.are_sends.Goals as goal

pub returns-in_default : goal.returns-in_default
returns-in_default c = (
  λ on. absurd cc,
  λ s. absurd (leaves_none (named_send c.args.plan.now c.args.node c.args.caller c.args.port) c.args.plan.now.messages c.loop-number.number c.args.made.now c.loop-number.rest.now
      c.loop-number-test.true c.loop-number.invariant
      (λ n b. c.in_default.ensures.none n (subst (λ x. BeginWithTries x c.loop-number.rest.now n) (sym c.in_ok-call.ensures.call) b)) s),
)

pub loop-number-preserved : goal.loop-number-preserved
loop-number-preserved c =
    subst (LeavesSends (named_send c.args.plan.now c.args.node c.args.caller c.args.port) c.args.plan.now.messages (c.loop-number.number + 1) c.args.made.now) (sym c.behind-rest.ensures)
    (leaves_more (named_send c.args.plan.now c.args.node c.args.caller c.args.port) c.args.plan.now.messages c.loop-number.number c.args.made.now c.loop-number.rest.now c.in-Some.count
    c.loop-number-test.true c.loop-number.invariant (subst (λ x. BeginWithTries x c.loop-number.rest.now c.in-Some.count) c.in_ok-call.ensures.call c.in-Some.ensures.some))
