use Rattle.tipc_settling.proofs.Standing.{stands_anew}
use Rattle.tipc_settling.proofs.stillness.what_came_up_stays_up.Goals as goal

pub returns : goal.returns
returns c = stands_anew
