use Rattle.std.proofs.Common.{◌∙◌, sym, arith}
use Rattle.std.proofs.lemmas.Result.{err_from_is_err_and}
use Rattle.tipc_sim.specs.Messages.{begin}
use Rattle.tipc_sim.proofs.MessageLaws.{receive_halts, received_more}
use Rattle.tipc_world.proofs.Continuing.{continues_same, continues_more}
use Rattle.tipc_sim.proofs.messages.receive_all.Goals as goal

pub loop-answer-init : goal.loop-answer-init
loop-answer-init g c = record { passed = begin; continues = continues_same c.args.world.now; fewer = omega arith }

pub returns-in_err-answer-clause-comes : goal.returns-in_err-answer-clause-comes
returns-in_err-answer-clause-comes g c =
    let l = c.loop-answer in
    let p = err_from_is_err_and c.from_residual.result c.from_residual.ensures.1 in
    rw (p.1, p.2) (receive_halts c.args.at.node c.args.at.port c.args.world.now.state l.count l.world.state c.receive.new.world.state c.in_err-answer.field-0.0 l.invariant.passed c.in_err-answer.ensures.comes)

pub returns-in_err-answer-clause-continues : goal.returns-in_err-answer-clause-continues
returns-in_err-answer-clause-continues g c = continues_more c.args.world.now c.loop-answer.world c.receive.new.world c.loop-answer.invariant.continues c.receive.ensures.continues

pub returns-then-not-is_message-clause-continues : goal.returns-then-not-is_message-clause-continues
returns-then-not-is_message-clause-continues g c = continues_more c.args.world.now c.loop-answer.world c.receive.new.world c.loop-answer.invariant.continues c.receive.ensures.continues

pub loop-answer-preserved-else-not-is_message : goal.loop-answer-preserved-else-not-is_message
loop-answer-preserved-else-not-is_message g c =
    let l = c.loop-answer in
    let more = received_more c.args.world.now l.world c.receive.new.world c.args.at.node c.args.at.port l.count c.in_ok-answer.answer l.invariant.passed l.invariant.continues l.invariant.fewer
    c.in_ok-answer.ensures.comes c.receive.ensures.continues (sym c.is_message.ensures ∙ c.if-not-is_message.false) in
    record { passed = more.0; continues = more.1; fewer = more.2 }

pub loop-answer-preserved-else-not-is_message-2 : goal.loop-answer-preserved-else-not-is_message-2
loop-answer-preserved-else-not-is_message-2 g c =
    let l = c.loop-answer in
    let more = received_more c.args.world.now l.world c.receive.new.world c.args.at.node c.args.at.port l.count c.in_ok-answer.answer l.invariant.passed l.invariant.continues l.invariant.fewer
    c.in_ok-answer.ensures.comes c.receive.ensures.continues (sym c.is_message.ensures ∙ c.if-not-is_message.false) in
    record { passed = more.0; continues = more.1; fewer = more.2 }

pub loop-answer-preserved-else-not-is_message-3 : goal.loop-answer-preserved-else-not-is_message-3
loop-answer-preserved-else-not-is_message-3 g c =
    let l = c.loop-answer in
    let more = received_more c.args.world.now l.world c.receive.new.world c.args.at.node c.args.at.port l.count c.in_ok-answer.answer l.invariant.passed l.invariant.continues l.invariant.fewer
    c.in_ok-answer.ensures.comes c.receive.ensures.continues (sym c.is_message.ensures ∙ c.if-not-is_message.false) in
    record { passed = more.0; continues = more.1; fewer = more.2 }

pub loop-answer-preserved-else-not-is_message-4 : goal.loop-answer-preserved-else-not-is_message-4
loop-answer-preserved-else-not-is_message-4 g c =
    let l = c.loop-answer in
    let more = received_more c.args.world.now l.world c.receive.new.world c.args.at.node c.args.at.port l.count c.in_ok-answer.answer l.invariant.passed l.invariant.continues l.invariant.fewer
    c.in_ok-answer.ensures.comes c.receive.ensures.continues (sym c.is_message.ensures ∙ c.if-not-is_message.false) in
    record { passed = more.0; continues = more.1; fewer = more.2 }
