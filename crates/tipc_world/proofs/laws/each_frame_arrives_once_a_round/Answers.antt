use Rattle.tipc_world.proofs.laws.each_frame_arrives_once_a_round.Goals as goal
use Rattle.tipc_world.proofs.rounds.Once.{asked_once}
use Rattle.tipc_world.proofs.rounds.RoundLaws.{round_arrives_first, round_arrives_second}

pub returns-clause-first : goal.returns-clause-first
returns-clause-first c = round_arrives_first

pub returns-clause-second : goal.returns-clause-second
returns-clause-second c = round_arrives_second

pub returns-clause-once : goal.returns-clause-once
returns-clause-once c = asked_once
