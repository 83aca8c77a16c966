use Rattle.std.proofs.Common.{ap, sym, ◌∙◌, set}
use Rattle.std.proofs.lemmas.List.Edits.{map_over_more}
use Rattle.tipc_topology.specs.Watchers.{added, Watcher}
use Rattle.tipc_topology.proofs.topology.add_to_each.Goals as goal

pub loop-watch-preserved : goal.loop-watch-preserved
loop-watch-preserved c =
    let at = c.loop-watch.watch-index in
    ap (λ (w : Watcher). set c.loop-watch.kept at w) (c.add.ensures ∙ ap (λ (w : Watcher). added w c.args.p.now) (sym c.watch-item.is))
    ∙ map_over_more (λ (w : Watcher). added w c.args.p.now) c.args.kept.now c.loop-watch.kept at c.watch-item.result c.loop-watch-test.true c.loop-watch.invariant c.watch-item.is
