use Rattle.tipc_link.proofs.Takings.{IsSession-due}
use Rattle.tipc_link.proofs.session.Session.send_next.Goals as goal

pub invariant_of-self : goal.invariant_of-self
invariant_of-self c = IsSession-due c.due-number.result _ _ _ _ _ c.due-number.ensures.window c.due-number.ensures.some c.due-number.ensures.none c.self.invariant
