use Rattle.tipc_broadcast_law.proofs.calls.Calls.{leave_runs}
use Rattle.tipc_broadcast_law.proofs.laws.leaving_is_a_run.Goals as goal

pub returns : goal.returns
returns c = leave_runs
