use Rattle.std.proofs.Common.{◌≡◌}
use Rattle.tipc_sim.proofs.LiveNodeLaws.{AreFirstInOrder}
use Rattle.tipc_sim.proofs.live.nodes.are_in_order.Given as goal

-- the nodes before are nodes 1, 2 and so on
abbrev pub invariant-loop-node : goal.invariant-loop-node
invariant-loop-node g l = AreFirstInOrder l.nodes l.node-index × (l.number ≡ l.node-index)
