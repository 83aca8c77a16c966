use Rattle.tipc_settling.proofs.Hearing.{arrival_goes}
use Rattle.tipc_settling.proofs.repairs.packets_of_a_session_are_heard.Goals as goal

pub returns : goal.returns
returns c = arrival_goes
