use Rattle.tipc_sockets.proofs.Entries.{told_entry}
use Rattle.tipc_sockets.proofs.laws.entries_tell_of_sockets.Goals as goal

pub returns : goal.returns
returns c = λ own before d front s e h k. told_entry own before d front s h k e
