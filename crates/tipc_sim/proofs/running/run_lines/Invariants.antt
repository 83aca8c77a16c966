use Rattle.std.proofs.Common.{◌≡◌, ◌≤◌, length, false}
use Rattle.tipc_world.specs.Good.{IsGood}
use Rattle.tipc_sim.specs.Happenings.{scene}
use Rattle.tipc_sim.specs.Noted.{no_notes}
use Rattle.tipc_sim.specs.Steps.{IsUnderWay}
use Rattle.tipc_sim.proofs.running.run_lines.Given as goal

abbrev pub decreases-loop-rest : goal.decreases-loop-rest
decreases-loop-rest g l = length l.rest

abbrev pub invariant-loop-rest : goal.invariant-loop-rest
invariant-loop-rest g l = record {
  under_way : IsUnderWay l.from l.script l.rest l.done (scene l.fn.world.state no_notes) (scene l.world.state l.notes) (g.K.Sink.contents l.fn.sink) (g.K.Sink.contents l.sink);
  shorter : length l.rest ≤ length l.script;
  good : IsGood g.P.Pick.gives l.world;
  kept : l.world.state.lost ≡ false;
  later : g.K.Sink.faults l.fn.sink ≤ g.K.Sink.faults l.sink;
  no_fewer : g.K.Sink.stalls l.fn.sink ≤ g.K.Sink.stalls l.sink;
}
