use Rattle.tipc_tunnel.proofs.TunnelLaws.{length-tunnel, sent_fits, tunnel_fits}
use Rattle.tipc_tunnel.proofs.laws.tunnels_are_packets.Goals as goal

pub returns : goal.returns
returns c = record { fits = tunnel_fits; sent = sent_fits; size = length-tunnel }
