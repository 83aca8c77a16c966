use Rattle.tipc_broadcast_law.proofs.Listening.{hear_runs}
use Rattle.tipc_broadcast_law.proofs.laws.hearing_is_a_run.Goals as goal

pub returns : goal.returns
returns c = hear_runs
