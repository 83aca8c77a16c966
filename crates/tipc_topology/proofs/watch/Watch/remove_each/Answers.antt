use Rattle.std.proofs.Common.{fold, take, sym, ap, ◌∙◌}
use Rattle.std.proofs.lemmas.List.Sums.{fold_more}
use Rattle.tipc_types.specs.declared.services.Publication.{Publication}
use Rattle.tipc_topology.specs.Watchers.{removed, Watcher}
use Rattle.tipc_topology.proofs.watch.Watch.remove_each.Goals as goal

pub loop-p-preserved : goal.loop-p-preserved
loop-p-preserved c =
    c.remove.ensures
    ∙ ap (λ (w : Watcher). removed w c.p-item.result) c.loop-p.invariant
    ∙ ap (λ (p : Publication). removed (fold removed c.args.self.now (take c.loop-p.p-index c.args.ps.now)) p) c.p-item.is
    ∙ sym (fold_more removed c.args.self.now c.args.ps.now c.loop-p.p-index c.p-item.result c.loop-p-test.true)
