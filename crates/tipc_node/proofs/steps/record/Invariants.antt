use Rattle.std.proofs.Common.{◌≡◌, ◌≤◌, ◌+◌, length}
use Rattle.tipc_journal.specs.declared.entries.Entry.TheVariants.{Step}
use Rattle.tipc_journal.proofs.StepRooms.{IsUnder}
use Rattle.tipc_node.proofs.steps.record.Given as goal

abbrev pub invariant-loop-entry : goal.invariant-loop-entry
invariant-loop-entry l =
    IsUnder l.journal.entries l.waiting.items l.fn.journal.entries (Step l.fn.by l.fn.event) l.fn.inside.items × (length l.waiting.items + 1 ≤ l.journal.spare) × (l.journal.kept ≡ l.fn.journal.kept)

abbrev pub decreases-loop-entry : goal.decreases-loop-entry
decreases-loop-entry l = length l.waiting.items
