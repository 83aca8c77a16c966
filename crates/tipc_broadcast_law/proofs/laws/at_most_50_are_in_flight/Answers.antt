use Rattle.tipc_broadcast_law.proofs.Consequences.{window_of_50}
use Rattle.tipc_broadcast_law.proofs.laws.at_most_50_are_in_flight.Goals as goal

pub returns : goal.returns
returns c = window_of_50
