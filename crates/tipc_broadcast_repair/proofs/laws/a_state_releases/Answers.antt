use Rattle.tipc_broadcast_repair.proofs.Mending.{states_acknowledge, states_release}
use Rattle.tipc_broadcast_repair.proofs.laws.a_state_releases.Goals as goal

pub returns-clause-acknowledges : goal.returns-clause-acknowledges
returns-clause-acknowledges c = states_acknowledge

pub returns-clause-releases : goal.returns-clause-releases
returns-clause-releases c = states_release
