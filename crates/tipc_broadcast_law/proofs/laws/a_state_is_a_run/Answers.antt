use Rattle.tipc_broadcast_law.proofs.calls.Stating.{states_run}
use Rattle.tipc_broadcast_law.proofs.laws.a_state_is_a_run.Goals as goal

pub returns : goal.returns
returns c = states_run
