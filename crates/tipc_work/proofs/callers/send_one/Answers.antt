use Rattle.std.proofs.Common.{◌≡◌, ◌<◌, true, false, arith, length, refl, rules, sym, ◌∙◌, ap}
use Rattle.tipc_stamp.specs.Seats.{SeatState}
use Rattle.tipc_work.proofs.Carrying.{same_still, same_then}
use Rattle.tipc_work.proofs.Sending.{sent_so, tried_none, tried_out, tried_so}
use Rattle.tipc_work.proofs.callers.send_one.Goals as goal

pub loop-init : goal.loop-init
loop-init g c = (tried_none _ _, same_still _ _ refl, c.requires.pass, omega arith, omega arith)

pub loop-preserved : goal.loop-preserved
loop-preserved g c =
    let again : c.is_again.result ≡ true = search rules in
    let before = c.loop.invariant.3 in
    let more = c.loop-test.true in
    let drawn = c.perform.ensures.few in
    let same = ap (λ (s : SeatState). length s.drawn) c.receive.ensures.drawn in (
      tried_so _ _ _ _ _ _ _ _ _ c.in_ok-call.ensures.call c.loop.invariant.0 c.in_ok-answer.ensures.made c.in-Some.is (sym c.is_again.ensures ∙ again) c.receive.ensures.made,
      same_then _ _ _ c.loop.invariant.1 (same_then _ _ _ c.perform.ensures.same c.receive.ensures.same),
      c.receive.ensures.stays,
      omega (arith, before, drawn, same),
      omega (arith, more),
    )

pub returns-then-not-is_again-clause-sent : goal.returns-then-not-is_again-clause-sent
returns-then-not-is_again-clause-sent g c =
    let stop : c.is_again.result ≡ false = search rules in
    let more : c.loop.counter < 1000 = c.loop-test.true in
    sent_so _ _ _ c.args.worker.now c.loop.worker c.perform.new.self c.receive.new.self _ _ c.in_ok-call.ensures.call c.loop.invariant.0 more c.in_ok-answer.ensures.made c.in-Some.is (sym c.is_again.ensures ∙ stop) c.receive.ensures.made

pub returns-clause-sent : goal.returns-clause-sent
returns-clause-sent g c =
    let none = c.loop-test.false in
    let most = c.loop.invariant.4 in
    tried_out _ _ _ _ c.loop.invariant.0 (omega (arith, none, most))
