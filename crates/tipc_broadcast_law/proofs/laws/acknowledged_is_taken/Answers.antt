use Rattle.tipc_broadcast_law.proofs.Consequences.{acknowledged_was_taken}
use Rattle.tipc_broadcast_law.proofs.laws.acknowledged_is_taken.Goals as goal

pub returns : goal.returns
returns c = acknowledged_was_taken
