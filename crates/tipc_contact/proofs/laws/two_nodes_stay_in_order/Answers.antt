use Rattle.tipc_contact.proofs.Ordering.{ordered_acts, ordered_says, ordered_start, ordered_turned}
use Rattle.tipc_contact.proofs.laws.two_nodes_stay_in_order.Goals as goal

pub returns-clause-start : goal.returns-clause-start
returns-clause-start c = ordered_start

pub returns-clause-acts : goal.returns-clause-acts
returns-clause-acts c = ordered_acts

pub returns-clause-says : goal.returns-clause-says
returns-clause-says c = ordered_says

pub returns-clause-turned : goal.returns-clause-turned
returns-clause-turned c = ordered_turned
