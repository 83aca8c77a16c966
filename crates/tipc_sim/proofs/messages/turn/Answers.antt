use Rattle.std.proofs.Common.{◌∙◌, sym}
use Rattle.tipc_types.specs.declared.node_calls.EventNote.TheVariants as call
use Rattle.tipc_replay.specs.declared.events.WorldEvent.TheVariants as event
use Rattle.tipc_sim.proofs.MessageLaws.{turn_goes_on}
use Rattle.tipc_world.proofs.Continuing.{continues_more}
use Rattle.tipc_sim.proofs.messages.turn.Goals as goal

pub returns-clause-comes : goal.returns-clause-comes
returns-clause-comes g c =
    turn_goes_on c.args.message.now (event.Call c.args.at.node (call.Receive c.args.at.port)) c.args.places c.args.world.now.state c.send.new.world.state c.pump_and_receive.new.world.state c.in_ok-answer.answer c.pump_and_receive.result
    c.in_ok-answer.ensures.comes (sym c.is_sent.ensures ∙ c.if-not-is_sent.false) c.pump_and_receive.ensures.comes

pub returns-clause-continues : goal.returns-clause-continues
returns-clause-continues g c = continues_more c.args.world.now c.send.new.world c.pump_and_receive.new.world c.send.ensures.continues c.pump_and_receive.ensures.continues
