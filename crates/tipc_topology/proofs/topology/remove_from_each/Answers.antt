use Rattle.std.proofs.Common.{ap, sym, ◌∙◌, set, fold}
use Rattle.std.proofs.lemmas.List.Edits.{map_over_more}
use Rattle.tipc_topology.specs.Watchers.{removed, Watcher}
use Rattle.tipc_topology.proofs.topology.remove_from_each.Goals as goal

pub loop-watch-preserved : goal.loop-watch-preserved
loop-watch-preserved c =
    let at = c.loop-watch.watch-index in
    ap (λ (w : Watcher). set c.loop-watch.kept at w) (c.remove_each.ensures ∙ ap (λ (w : Watcher). fold removed w c.args.ps.now) (sym c.watch-item.is))
    ∙ map_over_more (λ (w : Watcher). fold removed w c.args.ps.now) c.args.kept.now c.loop-watch.kept at c.watch-item.result c.loop-watch-test.true c.loop-watch.invariant c.watch-item.is
