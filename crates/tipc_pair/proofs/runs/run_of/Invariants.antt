use Rattle.std.proofs.Common.{◌≡◌, map, take, length}
use Rattle.std.specs.Prelude.{All}
use Rattle.tipc_pair.specs.Runs.{wrapped, IsTunnelPacket}
use Rattle.tipc_pair.proofs.runs.run_of.Given as goal

abbrev pub invariant-loop-packet : goal.invariant-loop-packet
invariant-loop-packet l = (l.run ≡ map (wrapped l.fn.kind l.fn.old l.fn.own l.count) (take l.packet-index l.fn.kept)) × (l.count ≡ length l.fn.kept) × All IsTunnelPacket l.run
