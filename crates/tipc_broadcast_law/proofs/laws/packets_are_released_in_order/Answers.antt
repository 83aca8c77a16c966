use Rattle.tipc_broadcast_law.proofs.Consequences.{releases_in_order}
use Rattle.tipc_broadcast_law.proofs.laws.packets_are_released_in_order.Goals as goal

pub returns : goal.returns
returns c = releases_in_order
