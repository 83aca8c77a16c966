use Rattle.tipc_broadcast.proofs.Keeping.{offered_or_not}
use Rattle.tipc_broadcast.proofs.broadcast.Broadcast.accept.Goals as goal

pub invariant_of-self : goal.invariant_of-self
invariant_of-self c = offered_or_not _ _ _ _ _ _ _ _ _ _ c.requires.packets c.requires.short c.requires.limit c.requires.message c.in_ok-frames.ensures c.offer.ensures.ok c.offer.ensures.err c.self.invariant
