use Rattle.tipc_broadcast.proofs.Casts.{IsFlushing}
use Rattle.tipc_broadcast.proofs.broadcast.Broadcast.flush.Given as goal

abbrev pub invariant-loop : goal.invariant-loop
invariant-loop l = IsFlushing l.fn.self l.fn.out l.self l.out l.counter l.count
