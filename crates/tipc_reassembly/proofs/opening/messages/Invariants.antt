use Rattle.std.proofs.Common.{◌≡◌, ◌++◌, map}
use Rattle.std.specs.Vec.Iter.{into_iter_items}
use Rattle.tipc_reassembly.specs.Opening.{brought_by}
use Rattle.tipc_reassembly.proofs.opening.messages.Given as goal

-- what the packets so far bring, and what the others are to bring
abbrev pub invariant-loop-packet : goal.invariant-loop-packet
invariant-loop-packet l = l.opened ++ map (brought_by l.by) (into_iter_items l.packet-iterator) ≡ map (brought_by l.by) (into_iter_items l.initial.packet-iterator)
