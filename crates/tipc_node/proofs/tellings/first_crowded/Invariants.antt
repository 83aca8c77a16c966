use Rattle.tipc_node.proofs.work.Tellings.{IsClear}
use Rattle.tipc_node.proofs.tellings.first_crowded.Given as goal

abbrev pub invariant-loop-number : goal.invariant-loop-number
invariant-loop-number l = IsClear l.neighbours l.number
