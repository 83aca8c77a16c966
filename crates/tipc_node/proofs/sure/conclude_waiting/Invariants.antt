use Rattle.std.proofs.Common.{◌≡◌, ◌≤◌, ◌+◌, length, true}
use Rattle.tipc_journal.specs.declared.entries.Entry.TheVariants.{Step}
use Rattle.tipc_journal.proofs.StepRooms.{IsUnder}
use Rattle.tipc_node.specs.Sure.{are_sure, messages_in, told_in, with_all_waiting}
use Rattle.tipc_node.proofs.sure.conclude_waiting.Given as goal

-- with those to come, all is told and all wait
abbrev pub invariant-loop-delivery : goal.invariant-loop-delivery
invariant-loop-delivery l =
    IsUnder l.journal.entries (told_in l.waiting.items) l.fn.journal.entries (Step l.fn.by l.fn.note) (told_in l.fn.deliveries.items)
    × (length (told_in l.waiting.items) + 1 ≤ l.journal.spare)
    × (l.journal.kept ≡ l.fn.journal.kept)
    × (with_all_waiting l.sockets (messages_in l.waiting.items) ≡ with_all_waiting l.fn.sockets (messages_in l.fn.deliveries.items))
    × (are_sure l.sockets (messages_in l.waiting.items) ≡ true)

abbrev pub decreases-loop-delivery : goal.decreases-loop-delivery
decreases-loop-delivery l = length l.waiting.items
