use Rattle.std.proofs.Common.{◌≡◌, take, map}
use Rattle.tipc_node.specs.Nodes.{delivery_of}
use Rattle.tipc_node.proofs.frames.deliveries.Given as goal

abbrev pub invariant-loop-given : goal.invariant-loop-given
invariant-loop-given l = l.deliveries.items ≡ map (delivery_of l.flow l.peer l.contact) (take l.given-index l.opened)
