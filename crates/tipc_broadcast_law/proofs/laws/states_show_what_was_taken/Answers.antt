use Rattle.tipc_broadcast_law.proofs.calls.Stating.{told_places_show}
use Rattle.tipc_broadcast_law.proofs.laws.states_show_what_was_taken.Goals as goal

pub returns : goal.returns
returns c = told_places_show
