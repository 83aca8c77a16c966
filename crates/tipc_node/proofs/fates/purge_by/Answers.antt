use Rattle.std.proofs.Common.{sym, ap, ◌∙◌}
use Rattle.tipc_journal.specs.declared.entries.Entry.{Entry}
use Rattle.tipc_sockets.specs.Telling.{after_entry}
use Rattle.tipc_node.proofs.fates.purge_by.Goals as goal

pub returns-in-ContactDown : goal.returns-in-ContactDown
returns-in-ContactDown c = c.purge.ensures.all ∙ ap (λ (e : Entry). after_entry c.args.sockets.now e) (sym c.in-ContactDown.is)
