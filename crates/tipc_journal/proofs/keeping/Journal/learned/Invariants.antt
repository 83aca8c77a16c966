use Rattle.std.proofs.Common.{◌≡◌, take}
use Rattle.tipc_journal.specs.Names.{learned}
use Rattle.tipc_journal.proofs.keeping.Journal.learned.Given as goal

abbrev pub invariant-loop-entry : goal.invariant-loop-entry
invariant-loop-entry l = l.found.items ≡ learned (take l.entry-index l.entry-items)
