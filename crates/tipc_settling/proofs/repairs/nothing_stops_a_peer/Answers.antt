use Rattle.tipc_settling.proofs.Clear.{nothing_stops}
use Rattle.tipc_settling.proofs.repairs.nothing_stops_a_peer.Goals as goal

pub returns : goal.returns
returns c = nothing_stops
