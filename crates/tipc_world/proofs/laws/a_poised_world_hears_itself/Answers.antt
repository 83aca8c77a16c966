use Rattle.tipc_world.proofs.laws.a_poised_world_hears_itself.Goals as goal
use Rattle.tipc_world.proofs.rounds.HeardWorlds.{begins_heard, call_stays_calm, round_heard}
use Rattle.tipc_world.proofs.rounds.PoisedAgain.{stays_poised}

pub returns-clause-begins : goal.returns-clause-begins
returns-clause-begins c = begins_heard

pub returns-clause-round : goal.returns-clause-round
returns-clause-round c = round_heard

pub returns-clause-call : goal.returns-clause-call
returns-clause-call c = call_stays_calm

pub returns-clause-again : goal.returns-clause-again
returns-clause-again c = stays_poised
