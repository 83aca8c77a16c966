use Rattle.tipc_broadcast_law.proofs.Listening.{taken_is_shown}
use Rattle.tipc_broadcast_law.proofs.laws.states_show_what_is_wanted.Goals as goal

pub returns : goal.returns
returns c = taken_is_shown
