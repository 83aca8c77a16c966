use Rattle.std.proofs.Common.{◌≡◌, true, arith, rules}
use Rattle.tipc_work.specs.Plans.{named_send}
use Rattle.tipc_work.proofs.Carrying.{same_then}
use Rattle.tipc_work.proofs.Sending.{sent_on}
use Rattle.tipc_work.proofs.callers.send_all.Goals as goal

pub loop-number-preserved : goal.loop-number-preserved
loop-number-preserved g c =
    let on : c.in_ok-send_one.field-0 ≡ true = search rules in
    let before = c.loop-number.invariant.3 in
    let here = c.send_one.ensures.few in (
      sent_on (named_send c.args.post.now.plan.now c.args.post.now.node c.args.caller c.args.port) c.loop-number.number c.args.worker.now c.loop-number.worker c.send_one.new.worker _ on
          c.loop-number.invariant.0 c.in_ok-send_one.ensures.sent,
      same_then _ _ _ c.loop-number.invariant.1 c.send_one.ensures.same,
      c.send_one.ensures.stays,
      omega (arith, before, here),
    )
