-- While a frame goes to one node after another, it came to those before the next one that it is for.
use Rattle.tipc_outside.specs.Carried.{Reaches}
use Rattle.tipc_outside.proofs.medium.Queues.send.Given as goal

abbrev pub invariant-loop-index : goal.invariant-loop-index
invariant-loop-index l = Reaches l.from l.to l.frame l.index l.fn.self l.self-inside.queues.items
