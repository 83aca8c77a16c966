use Rattle.tipc_outside.proofs.Boxes.{IsMerging}
use Rattle.tipc_outside.proofs.outgoing.Outbox.put_all.Given as goal

abbrev pub invariant-loop-frame : goal.invariant-loop-frame
invariant-loop-frame l = IsMerging l.fn.self l.self l.fn.first l.left l.yielded
