use Rattle.tipc_broadcast_law.proofs.CasterEvents.{event_keeps}
use Rattle.tipc_broadcast_law.proofs.laws.every_event_keeps_it.Goals as goal

pub returns : goal.returns
returns c = event_keeps
