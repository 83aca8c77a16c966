use Rattle.tipc_broadcast_law.proofs.calls.Crediting.{acknowledgement_runs}
use Rattle.tipc_broadcast_law.proofs.laws.acknowledging_is_an_event.Goals as goal

pub returns : goal.returns
returns c = acknowledgement_runs
