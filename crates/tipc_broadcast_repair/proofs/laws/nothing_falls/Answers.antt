use Rattle.tipc_broadcast_repair.proofs.Going.{heard_go_on, hearings_go_on, states_go_on, told_go_on}
use Rattle.tipc_broadcast_repair.proofs.laws.nothing_falls.Goals as goal

pub returns-clause-states : goal.returns-clause-states
returns-clause-states c = states_go_on

pub returns-clause-hearings : goal.returns-clause-hearings
returns-clause-hearings c = hearings_go_on

pub returns-clause-told : goal.returns-clause-told
returns-clause-told c = told_go_on

pub returns-clause-heard : goal.returns-clause-heard
returns-clause-heard c = heard_go_on
