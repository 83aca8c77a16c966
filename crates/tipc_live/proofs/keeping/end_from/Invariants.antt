use Rattle.std.specs.List.{prefix_len}
use Rattle.std.proofs.Common.{◌≡◌, ◌+◌, ◌-◌, ◌≤◌, drop, length}
use Rattle.tipc_live.specs.Keeping.{is_open}
use Rattle.tipc_live.proofs.keeping.end_from.Given as goal

abbrev pub invariant-loop-end : goal.invariant-loop-end
invariant-loop-end l = (l.end ≤ length l.entries) × (l.begin + prefix_len is_open (drop l.begin l.entries) ≡ l.end + prefix_len is_open (drop l.end l.entries))

abbrev pub decreases-loop-end : goal.decreases-loop-end
decreases-loop-end l = length l.entries - l.end
