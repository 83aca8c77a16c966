use Rattle.tipc_broadcast.specs.Deeds.{after_deeds}
use Rattle.tipc_node.specs.Casting.{bearer_deeds, casting_in}
use Rattle.tipc_node.proofs.turns.Parts.{IsPartway}
use Rattle.tipc_node.proofs.neighbours.part_of_all.Given as goal

abbrev pub invariant-loop-number : goal.invariant-loop-number
invariant-loop-number l =
    IsPartway l.fn.upkeep (after_deeds (bearer_deeds l.fn.upkeep) l.fn.broadcast) l.fn.neighbours l.after.items (casting_in l.fn.upkeep l.fn.broadcast l.event.broadcast) l.fn.event l.event l.number
