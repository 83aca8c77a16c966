use Rattle.tipc_settling.proofs.Arrivals.{node_hears}
use Rattle.tipc_settling.proofs.repairs.nodes_hear_their_peers.Goals as goal

pub returns : goal.returns
returns c = node_hears
