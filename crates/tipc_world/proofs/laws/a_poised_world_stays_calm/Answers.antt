use Rattle.tipc_world.proofs.laws.a_poised_world_stays_calm.Goals as goal
use Rattle.tipc_world.proofs.rounds.CalmWorlds.{call_begins_calm, round_calm}

pub returns-clause-begins : goal.returns-clause-begins
returns-clause-begins c = call_begins_calm

pub returns-clause-round : goal.returns-clause-round
returns-clause-round c = round_calm
