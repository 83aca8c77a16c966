use Rattle.tipc_two_nodes.proofs.sights.Joined.{standing_are_joined}
use Rattle.tipc_two_nodes.proofs.laws.links_that_stand_are_joined.Goals as goal

pub returns : goal.returns
returns c = standing_are_joined
