use Rattle.std.proofs.Common.{◌≤◌, length}
use Rattle.tipc_sim.specs.Dissections.{AreDissected}
use Rattle.tipc_sim.proofs.dissecting.dissect_lines.Given as goal

abbrev pub decreases-loop-rest : goal.decreases-loop-rest
decreases-loop-rest g l = length l.rest

abbrev pub invariant-loop-rest : goal.invariant-loop-rest
invariant-loop-rest g l = record {
  told : AreDissected l.frames l.rest l.done (g.K.Sink.contents l.fn.sink) (g.K.Sink.contents l.sink);
  shorter : length l.rest ≤ length l.frames;
  later : g.K.Sink.faults l.fn.sink ≤ g.K.Sink.faults l.sink;
  no_fewer : g.K.Sink.stalls l.fn.sink ≤ g.K.Sink.stalls l.sink;
}
