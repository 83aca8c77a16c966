use Rattle.std.proofs.Common.{◌≤◌, length}
use Rattle.std.specs.Io.KnownBytes.{Consumes}
use Rattle.tipc_sim.proofs.reading.read_script.Given as goal

abbrev pub invariant-loop : goal.invariant-loop
invariant-loop g l = record {
  consumed : Consumes (g.S.Source.left l.fn.source) (g.S.Source.left l.source) l.script.items;
  later : g.S.Source.faults l.fn.source ≤ g.S.Source.faults l.source;
  turns : l.counter ≤ length l.script.items;
  short : length l.script.items ≤ 16777216;
}
