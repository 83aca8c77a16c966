use Rattle.tipc_node.proofs.work.Tellings.{IsPutting}
use Rattle.tipc_node.proofs.tellings.put_each_on.Given as goal

abbrev pub invariant-loop-m : goal.invariant-loop-m
invariant-loop-m l = IsPutting l.own.word l.peer l.messages l.fn.neighbour l.neighbour l.fn.inside.items l.inside.items l.fn.out l.out l.m-index
