use Rattle.std.proofs.lemmas.Result.{err_from_is_err_and}
use Rattle.tipc_types.specs.declared.node_calls.EventNote.TheVariants as call
use Rattle.tipc_replay.specs.declared.events.WorldEvent.TheVariants as event
use Rattle.tipc_sim.proofs.MessageLaws.{last_halts}
use Rattle.tipc_world.proofs.Continuing.{continues_more}
use Rattle.tipc_world.specs.Courses.{Once}
use Rattle.tipc_world.proofs.CourseLaws.{then_stopped}
use Rattle.tipc_sim.specs.Messages.{PumpsBoth}
use Rattle.tipc_sim.proofs.messages.pump_and_receive.Goals as goal

pub returns-in_err-answer-clause-comes : goal.returns-in_err-answer-clause-comes
returns-in_err-answer-clause-comes g c =
    let p = err_from_is_err_and c.from_residual-in_err-answer.result c.from_residual-in_err-answer.ensures.1 in
    rw (p.1, p.2) (last_halts c.args.places (event.Call c.args.at.node (call.Receive c.args.at.port)) c.args.world.now.state c.pump_both.new.world.state c.receive.new.world.state c.in_ok-ends.ends c.in_err-answer.field-0.0
    c.in_ok-ends.ensures.comes c.in_err-answer.ensures.comes)

pub returns-in_err-answer-clause-continues : goal.returns-in_err-answer-clause-continues
returns-in_err-answer-clause-continues g c = continues_more c.args.world.now c.pump_both.new.world c.receive.new.world c.pump_both.ensures.continues c.receive.ensures.continues

pub returns-clause-continues : goal.returns-clause-continues
returns-clause-continues g c = continues_more c.args.world.now c.pump_both.new.world c.receive.new.world c.pump_both.ensures.continues c.receive.ensures.continues

pub returns-in_err-ends-clause-comes : goal.returns-in_err-ends-clause-comes
returns-in_err-ends-clause-comes g c =
    let p = err_from_is_err_and c.from_residual.result c.from_residual.ensures.1 in
    rw (p.1, p.2) (then_stopped (PumpsBoth c.args.places) (Once (event.Call c.args.at.node (call.Receive c.args.at.port))) c.args.world.now.state c.pump_both.new.world.state c.in_err-ends.field-0.0 c.in_err-ends.ensures.comes)
