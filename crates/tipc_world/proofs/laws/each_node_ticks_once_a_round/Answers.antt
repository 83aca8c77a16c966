use Rattle.tipc_world.proofs.laws.each_node_ticks_once_a_round.Goals as goal
use Rattle.tipc_world.proofs.rounds.RoundLaws.{round_ticks}

pub returns : goal.returns
returns c = round_ticks
