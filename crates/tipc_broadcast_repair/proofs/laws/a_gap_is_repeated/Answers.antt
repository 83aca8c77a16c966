use Rattle.tipc_broadcast_repair.proofs.Mending.{gaps_are_repeated}
use Rattle.tipc_broadcast_repair.proofs.laws.a_gap_is_repeated.Goals as goal

pub returns : goal.returns
returns c = gaps_are_repeated
