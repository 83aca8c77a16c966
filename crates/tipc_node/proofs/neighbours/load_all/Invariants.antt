use Rattle.tipc_node.proofs.work.Loads.{IsSummed}
use Rattle.tipc_node.proofs.neighbours.load_all.Given as goal

abbrev pub invariant-loop-place : goal.invariant-loop-place
invariant-loop-place l = IsSummed l.neighbours l.place-index l.unacked l.waiting
