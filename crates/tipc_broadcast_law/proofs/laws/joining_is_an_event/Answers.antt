use Rattle.tipc_broadcast_law.proofs.calls.Calls.{join_runs}
use Rattle.tipc_broadcast_law.proofs.laws.joining_is_an_event.Goals as goal

pub returns : goal.returns
returns c = join_runs
