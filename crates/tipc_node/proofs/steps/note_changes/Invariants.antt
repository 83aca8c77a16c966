use Rattle.std.proofs.Common.{◌≡◌, ◌+◌, ◌++◌, length, map, take, vec_capacity}
use Rattle.tipc_node.specs.Nodes.{change_entry}
use Rattle.tipc_node.proofs.steps.note_changes.Given as goal

-- those before are told of, and there is room for the others
abbrev pub invariant-loop-change : goal.invariant-loop-change
invariant-loop-change l =
    (l.inside.items ≡ l.fn.inside.items ++ map (change_entry l.peer) (take l.change-index l.changes))
    × (length l.inside.items ≡ length l.fn.inside.items + l.change-index)
    × (vec_capacity l.inside ≡ vec_capacity l.fn.inside)
