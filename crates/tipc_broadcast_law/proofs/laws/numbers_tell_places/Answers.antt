use Rattle.tipc_broadcast_law.proofs.Consequences.{packets_are_near}
use Rattle.tipc_broadcast_law.proofs.laws.numbers_tell_places.Goals as goal

pub returns : goal.returns
returns c = packets_are_near
