use Rattle.std.proofs.Common.{subst, sym, arith}
use Rattle.tipc_sim.specs.Happenings.{scene}
use Rattle.tipc_sim.specs.Noted.{no_notes}
use Rattle.tipc_sim.specs.Steps.{IsUnderWay}
use Rattle.tipc_sim.proofs.LineLaws.{emptied}
use Rattle.tipc_sim.proofs.RunLaws.{begins, goes_on, ends_whole, sound_at_end, stops}
use Rattle.tipc_sim.proofs.running.run_lines.Goals as goal

pub loop-rest-init : goal.loop-rest-init
loop-rest-init g c = record {
  under_way = subst (λ n. IsUnderWay c.args.from c.args.script.now c.args.script.now 0 (scene c.args.world.now.state no_notes) (scene c.args.world.now.state n) (g.K.Sink.contents c.args.sink.now) (g.K.Sink.contents c.args.sink.now)) (sym c.new-notes.ensures) (begins c.args.script.now c.args.world.now.state (g.K.Sink.contents c.args.sink.now) c.requires.empty);
  shorter = omega arith;
  good = c.requires.good;
  kept = c.requires.kept;
  later = omega arith;
  no_fewer = omega arith;
}

pub returns-in-Err-clause-report : goal.returns-in-Err-clause-report
returns-in-Err-clause-report g c =
    let l = c.loop-rest in
    stops c.args.script.now l.rest.now c.first_line.result.0.now c.first_line.result.1.now l.done c.args.world.now.state (scene l.world.state l.notes) (scene c.run_line.new.world.state c.run_line.new.notes)
    (g.K.Sink.contents c.args.sink.now) (g.K.Sink.contents l.sink) (g.K.Sink.contents c.run_line.new.sink) c.in-Err.status
    l.invariant.under_way c.first_line.ensures.lines c.in-Err.ensures.run

pub loop-rest-preserved : goal.loop-rest-preserved
loop-rest-preserved g c =
    let l = c.loop-rest in
    let inv = l.invariant in
    let run = c.run_line.ensures in
    record {
      under_way = goes_on c.args.script.now l.rest.now c.first_line.result.0.now c.first_line.result.1.now l.done (scene c.args.world.now.state no_notes) (scene l.world.state l.notes) (scene c.run_line.new.world.state c.run_line.new.notes)
          (g.K.Sink.contents c.args.sink.now) (g.K.Sink.contents l.sink) (g.K.Sink.contents c.run_line.new.sink)
          inv.under_way c.first_line.ensures.lines c.in_default.ensures.run;
      shorter = omega (arith, inv.shorter, c.first_line.ensures.shorter);
      good = run.good;
      kept = c.in_default.ensures.kept (λ e. cc);
      later = omega (arith, inv.later, run.later);
      no_fewer = omega (arith, inv.no_fewer, run.no_fewer);
    }

pub returns-clause-report : goal.returns-clause-report
returns-clause-report g c =
    let l = c.loop-rest in
    ends_whole c.args.script.now l.rest.now l.done c.args.world.now.state (scene l.world.state l.notes) (g.K.Sink.contents c.args.sink.now) (g.K.Sink.contents l.sink)
    l.invariant.under_way (emptied l.rest.now c.is_empty.result c.is_empty.ensures c.loop-rest-test.false)

pub returns-clause-sound : goal.returns-clause-sound
returns-clause-sound g c = λ ok. sound_at_end c.args.script.now c.args.world.now.state c.loop-rest.world.state (g.K.Sink.contents c.args.sink.now) (g.K.Sink.contents c.loop-rest.sink) _ ok (returns-clause-report g c)
