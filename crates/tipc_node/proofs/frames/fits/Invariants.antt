use Rattle.tipc_node.proofs.work.Deliveries.{IsLeft}
use Rattle.tipc_node.proofs.frames.fits.Given as goal

abbrev pub invariant-loop-entry : goal.invariant-loop-entry
invariant-loop-entry l = IsLeft l.entries l.entry-index l.left
