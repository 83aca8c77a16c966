use Rattle.tipc_link.proofs.Takings.{IsSession-joined}
use Rattle.tipc_link.proofs.session.Session.join.Goals as goal

pub invariant_of-self : goal.invariant_of-self
invariant_of-self c = IsSession-joined _ _ _ _ _ _ c.requires.bundle c.swap_last-last.ensures.window c.swap_last-last.ensures.after c.self.invariant
