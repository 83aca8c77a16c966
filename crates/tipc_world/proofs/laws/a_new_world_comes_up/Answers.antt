use Rattle.tipc_world.proofs.rounds.ComesUp.{comes_up}
use Rattle.tipc_world.proofs.laws.a_new_world_comes_up.Goals as goal

pub returns : goal.returns
returns c = comes_up
