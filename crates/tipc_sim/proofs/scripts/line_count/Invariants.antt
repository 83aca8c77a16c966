use Rattle.std.proofs.Common.{◌≡◌, ◌+◌, ◌≤◌, length}
use Rattle.tipc_sim.specs.Lines.{lines_of}
use Rattle.tipc_sim.proofs.scripts.line_count.Given as goal

abbrev pub decreases-loop-rest : goal.decreases-loop-rest
decreases-loop-rest l = length l.rest

abbrev pub invariant-loop-rest : goal.invariant-loop-rest
invariant-loop-rest l = record {
  counted : l.count + length (lines_of l.rest) ≡ length (lines_of l.script);
  fewer : l.count + length l.rest ≤ length l.script;
}
