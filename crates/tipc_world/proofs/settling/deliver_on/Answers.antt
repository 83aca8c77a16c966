use Rattle.std.proofs.Common.{◌+◌, ◌*◌, arith}
use Rattle.std.proofs.lemmas.Result.{err_from_is_err_and}
use Rattle.tipc_world.specs.declared.settling.Receivers.TheVariants.{Any}
use Rattle.tipc_world.specs.Courses.{numbers, begin}
use Rattle.tipc_world.specs.Settling.{arrival_asked}
use Rattle.tipc_world.proofs.CourseLaws.{all_joined, goes_joined}
use Rattle.tipc_world.proofs.Continuing.{continues_same, continues_more}
use Rattle.tipc_world.proofs.settling.deliver_on.Goals as goal

pub loop-place-init : goal.loop-place-init
loop-place-init g c = record { goes = (0, begin); continues = continues_same c.args.world.now }

pub returns-in_err-arrive-clause-comes : goal.returns-in_err-arrive-clause-comes
returns-in_err-arrive-clause-comes g c =
    let l = c.loop-place in
    let p = err_from_is_err_and c.from_residual.result c.from_residual.ensures.1 in
    rw (p.1, p.2) (all_joined (arrival_asked Any c.args.bearer) (numbers * c.args.first) (numbers * l.place) (numbers * (l.place + 1)) (numbers * c.args.end) c.args.world.now.state l.world.state l.invariant.goes.0
    c.arrive.new.self.state c.in_err-arrive.field-0.0 (omega (arith, c.loop-place-test.true)) l.invariant.goes.1 c.in_err-arrive.ensures.comes)

pub returns-in_err-arrive-clause-continues : goal.returns-in_err-arrive-clause-continues
returns-in_err-arrive-clause-continues g c = continues_more c.args.world.now c.loop-place.world c.arrive.new.self c.loop-place.invariant.continues c.arrive.ensures.continues

pub loop-place-preserved : goal.loop-place-preserved
loop-place-preserved g c =
    let l = c.loop-place in
    record {
      goes = (
        _,
        goes_joined (arrival_asked Any c.args.bearer) (numbers * c.args.first) (numbers * l.place) c.args.world.now.state l.world.state (numbers * (l.place + 1)) l.invariant.goes.0 c.in_ok-arrive.field-0
            c.arrive.new.self.state l.invariant.goes.1 c.in_ok-arrive.ensures.comes,
      );
      continues = continues_more c.args.world.now l.world c.arrive.new.self l.invariant.continues c.arrive.ensures.continues;
    }
