use Rattle.std.proofs.Common.{◌≡◌, ◌++◌}
use Rattle.tipc_pair.proofs.runs.add_all.Given as goal

abbrev pub invariant-loop-packet : goal.invariant-loop-packet
invariant-loop-packet l = l.pieces ≡ l.fn.pieces ++ l.yielded
