use Rattle.tipc_repair.proofs.Mending.{states_release}
use Rattle.tipc_repair.proofs.laws.a_state_releases.Goals as goal

pub returns : goal.returns
returns c = states_release
