use Rattle.std.proofs.Common.{subst, sym, arith}
use Rattle.std.proofs.lemmas.Result.{err_from_is_err_and}
use Rattle.tipc_world.specs.Ends.{ends_of, AreBefore}
use Rattle.tipc_world.specs.Settling.{Rounds, begin, go_on}
use Rattle.tipc_world.proofs.CourseLaws.{settle_halts}
use Rattle.tipc_world.proofs.Continuing.{continues_same, continues_more}
use Rattle.tipc_world.proofs.settling.make_rounds.Goals as goal

pub loop-init : goal.loop-init
loop-init g c = record {
  made = subst (λ k. Rounds c.args.world.now.state 0 k c.args.world.now.state) (sym c.ends-places.ensures) begin;
  continues = continues_same c.args.world.now;
  within = subst (λ k. AreBefore k (ends_of c.args.world.now.state.air)) (sym c.ends-places.ensures) (omega arith, omega arith);
}

pub returns-in_err-places-clause-comes : goal.returns-in_err-places-clause-comes
returns-in_err-places-clause-comes g c =
    let l = c.loop in
    let p = err_from_is_err_and c.from_residual.result c.from_residual.ensures.1 in
    rw (p.1, p.2) (settle_halts c.args.rounds c.args.world.now.state l.counter l.places l.world.state c.round.new.world.state c.in_err-places.field-0.0
    (omega (arith, c.loop-test.true)) l.invariant.made c.in_err-places.ensures.comes)

pub returns-in_err-places-clause-continues : goal.returns-in_err-places-clause-continues
returns-in_err-places-clause-continues g c = continues_more c.args.world.now c.loop.world c.round.new.world c.loop.invariant.continues c.round.ensures.continues

pub loop-preserved : goal.loop-preserved
loop-preserved g c =
    let l = c.loop in
    record {
      made = go_on l.counter l.places l.world.state c.in_ok-places.places c.round.new.world.state l.invariant.made c.in_ok-places.ensures.comes;
      continues = continues_more c.args.world.now l.world c.round.new.world l.invariant.continues c.round.ensures.continues;
      within = c.in_ok-places.ensures.behind;
    }
