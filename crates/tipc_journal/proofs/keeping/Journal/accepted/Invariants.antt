use Rattle.std.proofs.Common.{◌≡◌, take}
use Rattle.tipc_journal.specs.Streams.{accepted}
use Rattle.tipc_journal.proofs.keeping.Journal.accepted.Given as goal

abbrev pub invariant-loop-entry : goal.invariant-loop-entry
invariant-loop-entry l =
    l.found.items ≡ accepted (take l.entry-index l.entry-items) (record { peer = l.peer; contact = l.contact; flow = l.flow })
