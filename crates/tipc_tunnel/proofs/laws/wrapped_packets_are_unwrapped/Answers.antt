use Rattle.tipc_tunnel.proofs.TunnelLaws.{carried_back, carried_once}
use Rattle.tipc_tunnel.proofs.laws.wrapped_packets_are_unwrapped.Goals as goal

pub returns : goal.returns
returns c = record { carried = carried_back; alone = carried_once }
