use Rattle.tipc_broadcast_law.proofs.Consequences.{all_are_near}
use Rattle.tipc_broadcast_law.proofs.laws.packets_of_other_contacts_are_near.Goals as goal

pub returns : goal.returns
returns c = all_are_near
