use Rattle.std.proofs.Common.{fold, take, sym, ap, ◌∙◌}
use Rattle.std.proofs.lemmas.List.Sums.{fold_more}
use Rattle.tipc_sockets.specs.SocketTables.{SocketTable}
use Rattle.tipc_sockets.specs.Telling.{after_entry}
use Rattle.tipc_node.specs.Nodes.{is_change}
use Rattle.tipc_node.proofs.work.Changes.{change_at}
use Rattle.tipc_node.proofs.fates.purge_ended.Goals as goal

pub purge_by-requires : goal.purge_by-requires
purge_by-requires c =
    ap is_change c.entry-item.is ∙ change_at c.args.entries.now c.loop-entry.entry-index c.entry-item.result c.requires c.loop-entry-test.true

pub loop-entry-preserved : goal.loop-entry-preserved
loop-entry-preserved c =
    let i = c.loop-entry.entry-index in
    c.purge_by.ensures
    ∙ ap (λ (s : SocketTable). after_entry s c.entry-item.result) c.loop-entry.invariant
    ∙ ap (after_entry (fold after_entry c.args.sockets.now (take i c.args.entries.now))) c.entry-item.is
    ∙ sym (fold_more after_entry c.args.sockets.now c.args.entries.now i c.entry-item.result c.loop-entry-test.true)
