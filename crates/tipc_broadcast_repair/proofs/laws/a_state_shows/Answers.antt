use Rattle.tipc_broadcast_repair.proofs.Mending.{states_show}
use Rattle.tipc_broadcast_repair.proofs.laws.a_state_shows.Goals as goal

pub returns : goal.returns
returns c = states_show
