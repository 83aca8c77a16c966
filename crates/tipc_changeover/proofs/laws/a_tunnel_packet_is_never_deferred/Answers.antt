use Rattle.tipc_changeover.proofs.Receiving.{never_deferred}
use Rattle.tipc_changeover.proofs.Using.{opens}
use Rattle.tipc_changeover.proofs.laws.a_tunnel_packet_is_never_deferred.Goals as goal

pub returns-clause-order : goal.returns-clause-order
returns-clause-order c = never_deferred

pub returns-clause-opens : goal.returns-clause-opens
returns-clause-opens c = opens
