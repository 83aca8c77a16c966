use Rattle.tipc_repair.proofs.Mending.{earlier_gaps_are_repeated, earlier_states_release, earlier_states_show}
use Rattle.tipc_repair.proofs.laws.an_earlier_state_serves.Goals as goal

pub returns-clause-shows : goal.returns-clause-shows
returns-clause-shows c = earlier_states_show

pub returns-clause-releases : goal.returns-clause-releases
returns-clause-releases c = earlier_states_release

pub returns-clause-repeats : goal.returns-clause-repeats
returns-clause-repeats c = earlier_gaps_are_repeated
