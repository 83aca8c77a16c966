use Rattle.std.proofs.Common.{ap, sym, ◌∙◌, set}
use Rattle.std.proofs.lemmas.List.Edits.{map_over_more}
use Rattle.tipc_topology.specs.Watchers.{ticked, Watcher}
use Rattle.tipc_topology.proofs.topology.tick_each.Goals as goal

pub loop-watch-preserved : goal.loop-watch-preserved
loop-watch-preserved c =
    let at = c.loop-watch.watch-index in
    ap (λ (w : Watcher). set c.loop-watch.kept at w) (c.tick.ensures ∙ ap (λ (w : Watcher). ticked w) (sym c.watch-item.is))
    ∙ map_over_more ticked c.args.kept.now c.loop-watch.kept at c.watch-item.result c.loop-watch-test.true c.loop-watch.invariant c.watch-item.is
