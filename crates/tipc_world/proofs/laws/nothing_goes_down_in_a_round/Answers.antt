use Rattle.tipc_world.proofs.laws.nothing_goes_down_in_a_round.Goals as goal
use Rattle.tipc_world.proofs.rounds.Beginning.{down_may_be_still, poised_may_be_still}
use Rattle.tipc_world.proofs.rounds.StillWorlds.{call_begins_still, round_still}

pub returns-clause-poised : goal.returns-clause-poised
returns-clause-poised c = poised_may_be_still

pub returns-clause-down : goal.returns-clause-down
returns-clause-down c = down_may_be_still

pub returns-clause-begins : goal.returns-clause-begins
returns-clause-begins c = call_begins_still

pub returns-clause-round : goal.returns-clause-round
returns-clause-round c = round_still
