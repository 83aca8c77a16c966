use Rattle.tipc_link.proofs.Flushing.{IsFlushing}
use Rattle.tipc_link.proofs.session.Session.flush.Given as goal

abbrev pub invariant-loop : goal.invariant-loop
invariant-loop l = IsFlushing l.fn.self l.fn.out l.self l.out l.counter l.count
