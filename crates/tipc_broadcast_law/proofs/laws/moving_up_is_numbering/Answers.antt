use Rattle.tipc_broadcast_law.proofs.calls.Numbering.{flush_runs}
use Rattle.tipc_broadcast_law.proofs.laws.moving_up_is_numbering.Goals as goal

pub returns : goal.returns
returns c = flush_runs
