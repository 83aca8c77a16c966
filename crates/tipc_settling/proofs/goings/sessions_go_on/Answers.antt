use Rattle.tipc_settling.proofs.SessionsGoing.{turn_goes}
use Rattle.tipc_settling.proofs.goings.sessions_go_on.Goals as goal

pub returns : goal.returns
returns c = turn_goes
