use Rattle.tipc_node.proofs.Promising.{reserved_held}
use Rattle.tipc_node.proofs.nodes.Node.reserve.Goals as goal

pub invariant_of-self : goal.invariant_of-self
invariant_of-self c = reserved_held c.reserve.result c.self.inside.core c.reserve.new.self c.args.calls c.reserve.ensures.ok c.reserve.ensures.err c.self.invariant
