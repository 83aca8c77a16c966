use Rattle.std.proofs.Common.{arith}
use Rattle.tipc_node.proofs.neighbours.load_all.Goals as goal

pub returns-clause-fits : goal.returns-clause-fits
returns-clause-fits c =
    let few = c.requires in
    let summed = c.loop-place.invariant in
    (omega (arith, few, summed.unacked_fits), omega (arith, few, summed.waiting_fits))
