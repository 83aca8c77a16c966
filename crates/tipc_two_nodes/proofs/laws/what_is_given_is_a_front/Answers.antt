use Rattle.tipc_two_nodes.proofs.sights.Reaching.{reached, reached_fronts}
use Rattle.tipc_two_nodes.proofs.laws.what_is_given_is_a_front.Goals as goal

pub returns-clause-seen : goal.returns-clause-seen
returns-clause-seen c = reached

pub returns-clause-front : goal.returns-clause-front
returns-clause-front c = reached_fronts
