use Rattle.std.proofs.Common.{Bool, IfOk, Ok, Err}
use Rattle.tipc_work.specs.Called.{FollowsPlan, SendsMany}
use Rattle.tipc_work.specs.Plans.{named_send}
use Rattle.tipc_work.proofs.Sending.{plan_followed}
use Rattle.tipc_work.proofs.callers.follow_plan.Goals as goal

pub returns-clause-follows : goal.returns-clause-follows
returns-clause-follows g c =
    let plan = c.args.post.now.plan.now in
    let node = c.args.post.now.node in
    let caller = c.args.caller in
    let port = c.port_made-port.result in
    let start = c.perform-2.new.self in
    let end = c.send_all.new.worker in
    elim c.send_all.result as (λ result. IfOk result (λ (on : Bool). SendsMany (named_send plan node caller port) plan.messages start end on) → IfOk result (λ (on : Bool). FollowsPlan plan node caller end on)) [
      | Ok on ↦ λ sent.
          plan_followed plan node caller port c.args.worker.now c.perform.new.self start end _ _ c.in-Some.made c.in-Some-2.field-0 c.publishing-call.result on
          c.requires.unused.made c.in_ok-made.ensures.made c.in-Some.is c.port_made-port.ensures c.publishing-call.ensures.call c.in_ok-perform.ensures.made c.in-Some-2.is sent
      | Err why ↦ λ sent. tt
    ] c.send_all.ensures.sent
