use Rattle.std.proofs.Common.{◌-◌, length}
use Rattle.tipc_live.proofs.Finding.{AreFoundTo}
use Rattle.tipc_live.proofs.keeping.add_steps.Given as goal

abbrev pub invariant-loop-by : goal.invariant-loop-by
invariant-loop-by l = AreFoundTo l.node l.entries l.initial.steps.items l.steps.items l.begin

abbrev pub decreases-loop-by : goal.decreases-loop-by
decreases-loop-by l = length l.entries - l.begin
