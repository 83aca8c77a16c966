use Rattle.std.proofs.Common.{subst}
use Rattle.tipc_types.specs.Bodies.{IsHeld}
use Rattle.tipc_types.proofs.bodies.Body.as_slice.Goals as goal

pub shared_ref_as_front-result : goal.shared_ref_as_front-result
shared_ref_as_front-result c = (subst IsHeld c.in-Short.is c.self.invariant).0
