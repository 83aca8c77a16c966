use Rattle.tipc_broadcast_law.proofs.Listening.{tell_runs}
use Rattle.tipc_broadcast_law.proofs.laws.being_told_is_an_event.Goals as goal

pub returns : goal.returns
returns c = tell_runs
