use Rattle.std.proofs.Common.{◌≡◌, ◌≤◌, ◌++◌}
use Rattle.tipc_node.proofs.work.Multicasts.{cast_below}
use Rattle.tipc_node.proofs.multicasts.accept_for_all.Given as goal

abbrev pub invariant-loop-peer : goal.invariant-loop-peer
invariant-loop-peer l = (l.inside.items ≡ l.fn.inside.items ++ cast_below l.neighbours l.m l.peer) × (1 ≤ l.peer) × (l.peer ≤ 33)
