use Rattle.std.proofs.Common.{◌≡◌, take}
use Rattle.tipc_journal.specs.Names.{live}
use Rattle.tipc_journal.proofs.keeping.Journal.live.Given as goal

abbrev pub invariant-loop-entry : goal.invariant-loop-entry
invariant-loop-entry l = l.found.items ≡ live (take l.entry-index l.entry-items)
