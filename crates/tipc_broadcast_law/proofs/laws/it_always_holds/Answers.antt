use Rattle.tipc_broadcast_law.proofs.CasterEvents.{run_keeps}
use Rattle.tipc_broadcast_law.proofs.laws.it_always_holds.Goals as goal

pub returns : goal.returns
returns c = run_keeps
