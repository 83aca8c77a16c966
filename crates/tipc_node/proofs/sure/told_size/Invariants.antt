use Rattle.tipc_node.proofs.work.Telling.{IsToldSoFar}
use Rattle.tipc_node.proofs.sure.told_size.Given as goal

-- what is told of those so far
abbrev pub invariant-loop-delivery : goal.invariant-loop-delivery
invariant-loop-delivery l = IsToldSoFar l.deliveries l.delivery-index l.left l.size
