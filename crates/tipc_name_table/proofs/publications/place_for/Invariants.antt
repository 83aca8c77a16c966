use Rattle.std.proofs.Common.{◌≡◌, ◌≤◌, ◌-◌, ◌++◌, length, take, drop}
use Rattle.tipc_types.specs.Tables.{put}
use Rattle.tipc_name_table.proofs.publications.place_for.Given as goal

-- the publications before the place stand before the new one
abbrev pub invariant-loop-at : goal.invariant-loop-at
invariant-loop-at l = (l.at ≤ length l.table) × (take l.at l.table ++ put l.p (drop l.at l.table) ≡ put l.p l.table)

abbrev pub decreases-loop-at : goal.decreases-loop-at
decreases-loop-at l = length l.table - l.at
