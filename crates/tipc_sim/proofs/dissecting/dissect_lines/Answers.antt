use Rattle.std.proofs.Common.{arith}
use Rattle.tipc_sim.proofs.DissectionLaws.{begins, ends_whole, goes_on, stops}
use Rattle.tipc_sim.proofs.LineLaws.{emptied}
use Rattle.tipc_sim.proofs.dissecting.dissect_lines.Goals as goal

pub loop-rest-init : goal.loop-rest-init
loop-rest-init g c = record {
  told = begins c.args.frames.now (g.K.Sink.contents c.args.sink.now);
  shorter = omega arith;
  later = omega arith;
  no_fewer = omega arith;
}

pub returns-in-Err-clause-report : goal.returns-in-Err-clause-report
returns-in-Err-clause-report g c =
    let l = c.loop-rest in
    stops c.args.frames.now l.rest.now c.first_line.result.0.now c.first_line.result.1.now l.done (g.K.Sink.contents c.args.sink.now) (g.K.Sink.contents l.sink) (g.K.Sink.contents c.dissect_line.new.sink) c.in-Err.status
    l.invariant.told c.first_line.ensures.lines c.in-Err.ensures.told

pub loop-rest-preserved : goal.loop-rest-preserved
loop-rest-preserved g c =
    let l = c.loop-rest in
    let inv = l.invariant in
    let run = c.dissect_line.ensures in
    record {
      told = goes_on c.args.frames.now l.rest.now c.first_line.result.0.now c.first_line.result.1.now l.done (g.K.Sink.contents c.args.sink.now) (g.K.Sink.contents l.sink) (g.K.Sink.contents c.dissect_line.new.sink)
          inv.told c.first_line.ensures.lines c.in_default.ensures.told;
      shorter = omega (arith, inv.shorter, c.first_line.ensures.shorter);
      later = omega (arith, inv.later, run.later);
      no_fewer = omega (arith, inv.no_fewer, run.no_fewer);
    }

pub returns-clause-report : goal.returns-clause-report
returns-clause-report g c =
    let l = c.loop-rest in
    ends_whole c.args.frames.now l.rest.now l.done (g.K.Sink.contents c.args.sink.now) (g.K.Sink.contents l.sink)
    l.invariant.told (emptied l.rest.now c.is_empty.result c.is_empty.ensures c.loop-rest-test.false)
