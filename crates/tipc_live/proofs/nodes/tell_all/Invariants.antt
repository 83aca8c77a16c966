use Rattle.std.specs.List.{All}
use Rattle.std.proofs.Common.{take}
use Rattle.tipc_node_lock.specs.Locked.{IsWellKept}
use Rattle.tipc_live.proofs.nodes.tell_all.Given as goal

abbrev pub invariant-loop-locked : goal.invariant-loop-locked
invariant-loop-locked g l = All IsWellKept (take l.locked-index l.nodes)
