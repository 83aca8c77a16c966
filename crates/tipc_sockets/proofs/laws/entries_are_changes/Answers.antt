use Rattle.tipc_sockets.proofs.Watched.{entry_change}
use Rattle.tipc_sockets.proofs.laws.entries_are_changes.Goals as goal

pub returns : goal.returns
returns c = λ s there e. entry_change s there e
