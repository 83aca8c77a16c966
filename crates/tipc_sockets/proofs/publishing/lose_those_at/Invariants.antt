use Rattle.std.proofs.Common.{◌≡◌, take, filter}
use Rattle.tipc_topology.specs.Changing.{with_loss}
use Rattle.tipc_sockets.specs.Publishing.{is_at}
use Rattle.tipc_sockets.proofs.publishing.lose_those_at.Given as goal

-- those at the port before are lost
abbrev pub invariant-loop-p : goal.invariant-loop-p
invariant-loop-p l = l.topology ≡ with_loss (filter (is_at l.port) (take l.p-index l.live)) l.fn.topology
