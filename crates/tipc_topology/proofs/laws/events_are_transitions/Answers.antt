use Rattle.tipc_topology.proofs.Following.{transitions_told}
use Rattle.tipc_topology.proofs.laws.events_are_transitions.Goals as goal

pub returns : goal.returns
returns c = λ number s room there cs may. transitions_told number s room there cs may
