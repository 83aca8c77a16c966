use Rattle.tipc_world.proofs.laws.rounds_have_their_parts.Goals as goal
use Rattle.tipc_world.proofs.rounds.Parts.{goes_part}
use Rattle.tipc_world.proofs.rounds.RoundParts.{round_parts, rounds_part}

pub returns-clause-course : goal.returns-clause-course
returns-clause-course c = goes_part

pub returns-clause-rounds : goal.returns-clause-rounds
returns-clause-rounds c = rounds_part

pub returns-clause-round : goal.returns-clause-round
returns-clause-round c = round_parts
