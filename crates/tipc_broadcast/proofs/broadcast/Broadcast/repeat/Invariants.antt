use Rattle.tipc_broadcast.proofs.Casts.{IsRepeating}
use Rattle.tipc_broadcast.proofs.broadcast.Broadcast.repeat.Given as goal

abbrev pub invariant-loop-kept : goal.invariant-loop-kept
invariant-loop-kept l = IsRepeating l.fn.self l.fn.acknowledgement l.fn.gap l.fn.out l.out l.kept-index
