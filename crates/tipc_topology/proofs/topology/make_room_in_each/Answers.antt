use Rattle.std.proofs.Common.{ap, sym, ◌∙◌, set}
use Rattle.std.proofs.lemmas.List.{set-get_or}
use Rattle.std.proofs.lemmas.List.Edits.{map_over_more}
use Rattle.tipc_topology.specs.Watchers.{with_room, Watcher}
use Rattle.tipc_topology.proofs.topology.make_room_in_each.Goals as goal

pub loop-watch-preserved : goal.loop-watch-preserved
loop-watch-preserved c =
    let at = c.loop-watch.watch-index in
    ap (λ (w : Watcher). set c.loop-watch.kept at w) (c.in-Ok.ensures.ok ∙ ap (λ (w : Watcher). with_room c.args.additions w) (sym c.watch-item.is))
    ∙ map_over_more (with_room c.args.additions) c.args.kept.now c.loop-watch.kept at c.watch-item.result c.loop-watch-test.true c.loop-watch.invariant c.watch-item.is

pub returns-in_default-clause-err : goal.returns-in_default-clause-err
returns-in_default-clause-err c =
    let at = c.loop-watch.watch-index in (
      at,
      ap (λ (w : Watcher). set c.loop-watch.kept at w) c.in_default.ensures.err ∙ set-get_or c.loop-watch.kept at c.watch-item.result ∙ c.loop-watch.invariant,
    )
