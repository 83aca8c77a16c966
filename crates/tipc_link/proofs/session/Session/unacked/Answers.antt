use Rattle.tipc_link.specs.Sessions.{IsWaiting}
use Rattle.tipc_link.proofs.Repeating.{kept_all}
use Rattle.tipc_link.proofs.session.Session.unacked.Goals as goal

pub returns-clause-waited : goal.returns-clause-waited
returns-clause-waited c = rw (c.unacked.ensures.kept) (kept_all IsWaiting _ _ c.self.invariant.unacked)
