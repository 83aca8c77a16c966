use Rattle.tipc_node.proofs.work.Deliveries.{IsCounted}
use Rattle.tipc_node.proofs.frames.message_count.Given as goal

abbrev pub invariant-loop-delivery : goal.invariant-loop-delivery
invariant-loop-delivery l = IsCounted l.deliveries l.delivery-index l.count
