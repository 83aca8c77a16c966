use Rattle.tipc_sockets.proofs.Entries.{told_nil}
use Rattle.tipc_sockets.proofs.laws.new_sockets_are_told.Goals as goal

pub returns : goal.returns
returns c = told_nil
