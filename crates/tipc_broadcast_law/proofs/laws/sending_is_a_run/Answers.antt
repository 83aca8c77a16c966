use Rattle.tipc_broadcast_law.proofs.calls.Calls.{send_runs}
use Rattle.tipc_broadcast_law.proofs.laws.sending_is_a_run.Goals as goal

pub returns : goal.returns
returns c = send_runs
