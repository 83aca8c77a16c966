use Rattle.tipc_sockets.proofs.FatesTold.{fate_may, fate_told}
use Rattle.tipc_sockets.proofs.laws.fates_tell_of_sockets.Goals as goal

pub returns : goal.returns
returns c = record {
  may = λ own before d front s m arrived waiting h k. fate_may own before d front s h k m arrived waiting;
  told = λ own before d front s m arrived waiting h k. fate_told own before d front s h k m arrived waiting;
}
