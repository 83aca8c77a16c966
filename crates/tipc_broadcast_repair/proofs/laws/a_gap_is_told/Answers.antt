use Rattle.tipc_broadcast_repair.proofs.Mending.{gaps_are_told}
use Rattle.tipc_broadcast_repair.proofs.laws.a_gap_is_told.Goals as goal

pub returns : goal.returns
returns c = gaps_are_told
