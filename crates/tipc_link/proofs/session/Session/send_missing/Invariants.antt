use Rattle.tipc_link.proofs.Repeating.{IsRepeating}
use Rattle.tipc_link.proofs.session.Session.send_missing.Given as goal

abbrev pub invariant-loop-kept : goal.invariant-loop-kept
invariant-loop-kept l = IsRepeating l.fn.self l.fn.acknowledgement l.fn.gap l.fn.out l.out l.any l.kept-index
