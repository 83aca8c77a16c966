use Rattle.tipc_world.proofs.repairs.four_rounds_leave_less.Goals as goal
use Rattle.tipc_world.proofs.rounds.CastFalling.{four_rounds_bring_less_cast}
use Rattle.tipc_world.proofs.rounds.Falling.{four_rounds_bring_less}

pub returns-clause-links : goal.returns-clause-links
returns-clause-links c = four_rounds_bring_less

pub returns-clause-casts : goal.returns-clause-casts
returns-clause-casts c = four_rounds_bring_less_cast
