use Rattle.std.proofs.Common.{◌≡◌, ◌++◌}
use Rattle.tipc_pair.specs.PairArrivals.{with_bytes}
use Rattle.tipc_pair.proofs.link_arrivals.add_with_bytes.Given as goal

abbrev pub invariant-loop-packet : goal.invariant-loop-packet
invariant-loop-packet l = l.packets ≡ l.fn.packets ++ with_bytes l.yielded
