use Rattle.tipc_broadcast_law.proofs.Consequences.{stands_together}
use Rattle.tipc_broadcast_law.proofs.laws.messages_stand_together.Goals as goal

pub returns : goal.returns
returns c = stands_together
