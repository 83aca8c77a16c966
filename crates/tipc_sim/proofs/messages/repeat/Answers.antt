use Rattle.std.proofs.Common.{◌∙◌, sym, arith}
use Rattle.std.proofs.lemmas.Result.{err_from_is_err_and}
use Rattle.tipc_sim.specs.Messages.{begin, go_on}
use Rattle.tipc_sim.proofs.MessageLaws.{send_can, send_halts}
use Rattle.tipc_world.proofs.Continuing.{continues_same, continues_more}
use Rattle.tipc_sim.proofs.messages.repeat.Goals as goal

pub loop-last-init : goal.loop-last-init
loop-last-init g c = record { passed = begin; continues = continues_same c.args.world.now; fewer = omega (arith, c.requires.some) }

pub send-requires : goal.send-requires
send-requires g c = send_can c.args.world.now c.loop-last.world c.args.message.now c.loop-last.invariant.continues c.requires.sends c.requires.can

pub returns-in_err-last-clause-comes : goal.returns-in_err-last-clause-comes
returns-in_err-last-clause-comes g c =
    let l = c.loop-last in
    let p = err_from_is_err_and c.from_residual.result c.from_residual.ensures.1 in
    rw (p.1, p.2) (send_halts c.args.times c.args.message.now c.args.world.now.state l.sent l.world.state c.send.new.world.state c.in_err-last.field-0.0
    l.invariant.fewer l.invariant.passed c.in_err-last.ensures.comes)

pub returns-in_err-last-clause-continues : goal.returns-in_err-last-clause-continues
returns-in_err-last-clause-continues g c = continues_more c.args.world.now c.loop-last.world c.send.new.world c.loop-last.invariant.continues c.send.ensures.continues

pub returns-then-not-is_sent-clause-continues : goal.returns-then-not-is_sent-clause-continues
returns-then-not-is_sent-clause-continues g c = continues_more c.args.world.now c.loop-last.world c.send.new.world c.loop-last.invariant.continues c.send.ensures.continues

pub returns-then-sent-from-clause-continues : goal.returns-then-sent-from-clause-continues
returns-then-sent-from-clause-continues g c = continues_more c.args.world.now c.loop-last.world c.send.new.world c.loop-last.invariant.continues c.send.ensures.continues

pub loop-last-preserved : goal.loop-last-preserved
loop-last-preserved g c =
    let l = c.loop-last in
    record {
      passed = go_on l.sent l.world.state c.in_ok-last.last c.send.new.world.state l.invariant.passed c.in_ok-last.ensures.comes (sym c.is_sent.ensures ∙ c.if-not-is_sent.false);
      continues = continues_more c.args.world.now l.world c.send.new.world l.invariant.continues c.send.ensures.continues;
      fewer = omega (arith, l.invariant.fewer, c.if-sent-from.false, c.from.ensures);
    }
