use Rattle.tipc_node.proofs.pairs.RightEnds.{new_right}
use Rattle.tipc_node.proofs.pairs.Standing.{arrived_right, performed_right}
use Rattle.tipc_node.proofs.laws.link_ends_stay_right.Goals as goal

pub returns-clause-begins : goal.returns-clause-begins
returns-clause-begins c = new_right

pub returns-clause-performs : goal.returns-clause-performs
returns-clause-performs c = performed_right

pub returns-clause-arrives : goal.returns-clause-arrives
returns-clause-arrives c = arrived_right
