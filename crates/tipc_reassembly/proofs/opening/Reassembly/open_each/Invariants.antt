use Rattle.std.proofs.Common.{take}
use Rattle.tipc_reassembly.specs.Opening.{BringsAll}
use Rattle.tipc_reassembly.proofs.opening.Reassembly.open_each.Given as goal

-- what the packets so far bring
abbrev pub invariant-loop-packet : goal.invariant-loop-packet
invariant-loop-packet l = BringsAll l.fn.self (take l.packet-index l.taken) l.opened.items l.self
