use Rattle.tipc_broadcast_law.proofs.Listening.{quit_runs}
use Rattle.tipc_broadcast_law.proofs.laws.quitting_is_an_event.Goals as goal

pub returns : goal.returns
returns c = quit_runs
