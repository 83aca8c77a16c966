use Rattle.std.proofs.Common.{◌≡◌, fold, take}
use Rattle.tipc_sockets.specs.Telling.{after_entry}
use Rattle.tipc_node.proofs.fates.purge_ended.Given as goal

abbrev pub invariant-loop-entry : goal.invariant-loop-entry
invariant-loop-entry l = l.sockets ≡ fold after_entry l.fn.sockets (take l.entry-index l.entries)
