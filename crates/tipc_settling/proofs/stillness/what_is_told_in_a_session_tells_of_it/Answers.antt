use Rattle.tipc_settling.proofs.UpTold.{traffic_tells_up}
use Rattle.tipc_settling.proofs.stillness.what_is_told_in_a_session_tells_of_it.Goals as goal

pub returns : goal.returns
returns c = traffic_tells_up
