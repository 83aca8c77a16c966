use Rattle.tipc_world.proofs.repairs.no_more_is_under_way.Goals as goal
use Rattle.tipc_world.proofs.rounds.Measuring.{never_grows}

pub returns : goal.returns
returns c = never_grows
