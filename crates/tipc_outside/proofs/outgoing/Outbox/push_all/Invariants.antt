use Rattle.tipc_outside.specs.Frames.{Adds}
use Rattle.tipc_outside.proofs.outgoing.Outbox.push_all.Given as goal

abbrev pub invariant-loop-frame : goal.invariant-loop-frame
invariant-loop-frame l = Adds l.fn.self l.self l.yielded
