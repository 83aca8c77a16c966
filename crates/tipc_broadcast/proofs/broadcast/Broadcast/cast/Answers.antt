use Rattle.tipc_outside.proofs.Adding.{adds_more}
use Rattle.tipc_broadcast.proofs.broadcast.Broadcast.cast.Goals as goal

pub returns : goal.returns
returns c = adds_more _ _ _ _ _ c.cast_on.ensures c.cast_on-2.ensures
