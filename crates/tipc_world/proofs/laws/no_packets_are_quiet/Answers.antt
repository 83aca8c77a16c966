use Rattle.tipc_world.proofs.laws.no_packets_are_quiet.Goals as goal
use Rattle.tipc_world.proofs.rounds.Loads.{none_is_quiet}

pub returns : goal.returns
returns c = none_is_quiet
