use Rattle.std.proofs.Common.{◌≡◌, ◌≤◌, length}
use Rattle.std.specs.Vec.{vec_capacity}
use Rattle.tipc_node.specs.Drafts.{restored}
use Rattle.tipc_node.proofs.drafts.restore.Given as goal

-- with the copies that are left the neighbours are made what they were
abbrev pub invariant-loop-copy : goal.invariant-loop-copy
invariant-loop-copy l =
    (restored l.copies.items l.neighbours.items ≡ restored l.fn.copies.items l.fn.neighbours.items)
    × (length l.neighbours.items ≡ 33) × (length l.copies.items ≤ 33) × (33 ≤ vec_capacity l.copies)

abbrev pub decreases-loop-copy : goal.decreases-loop-copy
decreases-loop-copy l = length l.copies.items
