use Rattle.tipc_broadcast_law.proofs.Listening.{enter_runs}
use Rattle.tipc_broadcast_law.proofs.laws.entering_is_an_event.Goals as goal

pub returns : goal.returns
returns c = enter_runs
