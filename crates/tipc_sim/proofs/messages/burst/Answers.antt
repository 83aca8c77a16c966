use Rattle.std.proofs.Common.{◌∙◌, Ok, refl, subst, arith}
use Rattle.std.proofs.lemmas.Result.{err_from_is_err_and}
use Rattle.tipc_types.specs.declared.node_calls.EventNote.TheVariants as call
use Rattle.tipc_replay.specs.declared.events.WorldEvent.TheVariants as event
use Rattle.tipc_sim.specs.Messages.{begin, go_on, Turn}
use Rattle.tipc_sim.proofs.MessageLaws.{send_can, turn_halts}
use Rattle.tipc_world.proofs.Continuing.{continues_same, continues_more}
use Rattle.tipc_sim.proofs.messages.burst.Goals as goal

pub loop-init : goal.loop-init
loop-init g c = record { counted = refl; made = begin; continues = continues_same c.args.world.now }

pub turn-requires-clause-can : goal.turn-requires-clause-can
turn-requires-clause-can g c = send_can c.args.world.now c.loop.world c.args.message.now c.loop.invariant.continues c.requires.sends c.requires.can

pub turn-requires-clause-there : goal.turn-requires-clause-there
turn-requires-clause-there g c = c.loop.invariant.continues.nodes c.args.at.node ∙ c.requires.there

pub returns-in_err-came-clause-comes : goal.returns-in_err-came-clause-comes
returns-in_err-came-clause-comes g c =
    let l = c.loop in
    let p = err_from_is_err_and c.from_residual.result c.from_residual.ensures.1 in
    rw (p.1, p.2) (turn_halts c.args.times c.args.message.now (event.Call c.args.at.node (call.Receive c.args.at.port)) c.args.first c.args.world.now.state l.counter l.places l.world.state c.turn.new.world.state c.in_err-came.field-0.0
    (omega (arith, c.loop-test.true)) l.invariant.made c.in_err-came.ensures.comes)

pub returns-in_err-came-clause-continues : goal.returns-in_err-came-clause-continues
returns-in_err-came-clause-continues g c = continues_more c.args.world.now c.loop.world c.turn.new.world c.loop.invariant.continues c.turn.ensures.continues

pub returns-then-not-came-clause-continues : goal.returns-then-not-came-clause-continues
returns-then-not-came-clause-continues g c = continues_more c.args.world.now c.loop.world c.turn.new.world c.loop.invariant.continues c.turn.ensures.continues

pub loop-preserved : goal.loop-preserved
loop-preserved g c =
    let l = c.loop in
    let now = c.turn.new.world.state in
    let receive = event.Call c.args.at.node (call.Receive c.args.at.port) in
    record {
      counted = omega (arith, l.invariant.counted);
      made = go_on l.counter l.places l.world.state c.in_ok-came.next now l.invariant.made
          (subst (λ came. Turn c.args.message.now receive l.places l.world.state (Ok (came, c.in_ok-came.next)) now) c.if-not-came.false c.in_ok-came.ensures.comes);
      continues = continues_more c.args.world.now l.world c.turn.new.world l.invariant.continues c.turn.ensures.continues;
    }
