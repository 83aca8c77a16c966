use Rattle.tipc_tunnel.proofs.TunnelLaws.{one_tunnel}
use Rattle.tipc_tunnel.proofs.laws.one_tunnel_a_packet.Goals as goal

pub returns : goal.returns
returns c = one_tunnel
