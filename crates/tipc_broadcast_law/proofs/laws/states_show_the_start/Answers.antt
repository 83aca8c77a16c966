use Rattle.tipc_broadcast_law.proofs.calls.Stating.{starts_are_shown}
use Rattle.tipc_broadcast_law.proofs.laws.states_show_the_start.Goals as goal

pub returns : goal.returns
returns c = starts_are_shown
