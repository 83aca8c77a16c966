use Rattle.std.proofs.Common.{◌+◌, ◌*◌, arith}
use Rattle.std.proofs.lemmas.Result.{err_from_is_err_and}
use Rattle.tipc_world.specs.Courses.{numbers, begin}
use Rattle.tipc_world.specs.Settling.{arrival_asked}
use Rattle.tipc_world.proofs.CourseLaws.{goes_joined, halts_joined}
use Rattle.tipc_sim.proofs.CourseLaws.{goes_few}
use Rattle.tipc_world.proofs.Continuing.{continues_same, continues_more}
use Rattle.tipc_sim.proofs.frames.empty_air.Goals as goal

pub loop-place-init : goal.loop-place-init
loop-place-init g c = record { goes = begin; continues = continues_same c.args.world.now; fewer = omega arith; few = omega arith }

pub returns-in_err-count-clause-comes : goal.returns-in_err-count-clause-comes
returns-in_err-count-clause-comes g c =
    let l = c.loop-place in
    let p = err_from_is_err_and c.from_residual.result c.from_residual.ensures.1 in
    rw (p.1, p.2) (halts_joined (arrival_asked c.args.among c.args.bearer) (numbers * c.args.first) (numbers * l.place) c.args.world.now.state l.world.state l.count c.arrive.new.self.state c.in_err-count.field-0.0
    l.invariant.goes c.in_err-count.ensures.comes.0)

pub returns-in_err-count-clause-continues : goal.returns-in_err-count-clause-continues
returns-in_err-count-clause-continues g c = continues_more c.args.world.now c.loop-place.world c.arrive.new.self c.loop-place.invariant.continues c.arrive.ensures.continues

pub loop-place-preserved : goal.loop-place-preserved
loop-place-preserved g c =
    let l = c.loop-place in
    let asks = arrival_asked c.args.among c.args.bearer in
    let more = c.in_ok-count.field-0 in
    let goes = c.in_ok-count.ensures.comes in
    let few = goes_few c.args.bearer asks (numbers * l.place) l.world.state (numbers * (l.place + 1)) more c.arrive.new.self.state goes in
    record {
      goes = goes_joined asks (numbers * c.args.first) (numbers * l.place) c.args.world.now.state l.world.state (numbers * (l.place + 1)) l.count more c.arrive.new.self.state l.invariant.goes goes;
      continues = continues_more c.args.world.now l.world c.arrive.new.self l.invariant.continues c.arrive.ensures.continues;
      fewer = omega (arith, c.in_ok-count.ensures.few, l.invariant.fewer);
      few = omega (arith, few, l.invariant.few);
    }
