use Rattle.std.proofs.Common.{ap, sym, ◌∙◌, set}
use Rattle.std.proofs.lemmas.List.Edits.{map_over_more}
use Rattle.tipc_topology.specs.Watchers.{with_room, Watcher}
use Rattle.tipc_topology.proofs.topology.limit_room_in_each.Goals as goal

pub loop-watch-preserved : goal.loop-watch-preserved
loop-watch-preserved c =
    let at = c.loop-watch.watch-index in
    ap (λ (w : Watcher). set c.loop-watch.kept at w) (c.limit_room.ensures ∙ ap (λ (w : Watcher). with_room c.args.additions w) (sym c.watch-item.is))
    ∙ map_over_more (with_room c.args.additions) c.args.kept.now c.loop-watch.kept at c.watch-item.result c.loop-watch-test.true c.loop-watch.invariant c.watch-item.is
