use Rattle.std.proofs.Common.{◌≡◌, ◌++◌, not}
use Rattle.std.specs.Prelude.{filter}
use Rattle.tipc_link.specs.Records.{is_tunnel}
use Rattle.tipc_pair.proofs.runs.add_plain.Given as goal

abbrev pub invariant-loop-packet : goal.invariant-loop-packet
invariant-loop-packet l = l.pieces ≡ l.fn.pieces ++ filter (λ packet. not (is_tunnel packet)) l.yielded
