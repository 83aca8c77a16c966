use Rattle.tipc_broadcast_law.proofs.Consequences.{takes_a_prefix}
use Rattle.tipc_broadcast_law.proofs.laws.each_member_takes_a_prefix.Goals as goal

pub returns : goal.returns
returns c = takes_a_prefix
