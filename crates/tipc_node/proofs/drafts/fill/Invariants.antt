use Rattle.std.proofs.Common.{◌≡◌, ◌≤◌, ℕ, length, None, slice_index_or}
use Rattle.std.specs.Vec.{vec_capacity}
use Rattle.tipc_node.proofs.drafts.fill.Given as goal

abbrev pub invariant-loop : goal.invariant-loop
invariant-loop l = (length l.table.items ≡ l.counter) × (33 ≤ vec_capacity l.table) × ((peer : ℕ) → slice_index_or l.table.items peer None ≡ None)
