use Rattle.std.proofs.Common.{◌≡◌, ◌+◌, ◌++◌, length, map, take, vec_capacity}
use Rattle.tipc_journal.specs.declared.entries.Entry.TheVariants.{TimedOut}
use Rattle.tipc_node.proofs.steps.note_timeouts.Given as goal

-- those before are told of, and there is room for the others
abbrev pub invariant-loop-number : goal.invariant-loop-number
invariant-loop-number l =
    (l.inside.items ≡ l.fn.inside.items ++ map TimedOut (take l.number-index l.numbers))
    × (length l.inside.items ≡ length l.fn.inside.items + l.number-index)
    × (vec_capacity l.inside ≡ vec_capacity l.fn.inside)
