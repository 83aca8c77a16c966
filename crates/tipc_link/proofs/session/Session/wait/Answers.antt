use Rattle.tipc_link.proofs.Takings.{IsSession-offered}
use Rattle.tipc_link.proofs.session.Session.wait.Goals as goal

pub invariant_of-self : goal.invariant_of-self
invariant_of-self c = IsSession-offered _ _ _ _ _ _ _ c.requires c.put.ensures.window c.put.ensures.ok c.put.ensures.err c.self.invariant
