use Rattle.tipc_broadcast.proofs.Casts.{IsMovingUp}
use Rattle.tipc_broadcast.proofs.broadcast.Broadcast.move_up.Given as goal

abbrev pub invariant-loop : goal.invariant-loop
invariant-loop l = IsMovingUp l.fn.self l.fn.out l.self l.out l.counter
