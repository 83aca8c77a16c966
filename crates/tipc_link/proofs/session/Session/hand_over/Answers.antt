use Rattle.tipc_link.specs.Sessions.{IsWaiting}
use Rattle.tipc_link.proofs.Repeating.{kept_all, kept_count}
use Rattle.tipc_link.proofs.session.Session.hand_over.Goals as goal

pub returns-clause-waited : goal.returns-clause-waited
returns-clause-waited c = rw (c.hand_over-unacked.ensures.unacked) (kept_all IsWaiting _ _ c.self.invariant.unacked)

pub returns-clause-few : goal.returns-clause-few
returns-clause-few c = rw (c.hand_over-unacked.ensures.unacked, kept_count _ _) c.self.invariant.sending.window
