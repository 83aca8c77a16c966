use Rattle.tipc_broadcast_law.proofs.Consequences.{begins_sound}
use Rattle.tipc_broadcast_law.proofs.laws.it_holds_at_the_begin.Goals as goal

pub returns : goal.returns
returns c = begins_sound
