use Rattle.std.proofs.Common.{◌+◌, [], ◌∷◌, List, length, arith, sym, ap, subst, ◌∙◌}
use Rattle.std.proofs.lemmas.List.{length-append}
use Rattle.tipc_types.specs.declared.services.Publication.{Publication}
use Rattle.tipc_types.specs.Watching.{in_order}
use Rattle.tipc_topology.specs.Watchers.{began, Watcher}
use Rattle.tipc_topology.specs.Changing.{subscribed, AreKept, Watchers}
use Rattle.tipc_topology.proofs.Kept.{began_takes, kept_as, one_subscribed, pushed_kept, watched_there}
use Rattle.tipc_topology.proofs.topology.Topology.subscribe.Goals as goal

pub invariant_of-self-2 : goal.invariant_of-self-2
invariant_of-self-2 g c =
    let w = c.self.inside in
    let watch = c.in_ok-watch.watch in
    let takes = began_takes (w.made + 1) c.args.s w.room c.as_slice-2.result.now in
    let count = ap (λ (ws : List Watcher). length ws) c.in-Ok-push.ensures.items in
    let more = length-append w.kept.items (watch ∷ []) in
    let fewer = c.if-len-ge-MOST_SUBSCRIPTIONS.false in
    let length_is = c.len.ensures in (
      subst (λ (ws : List Watcher). AreKept (kept_as (w.made + 1) w.room ws)) (sym c.in-Ok-push.ensures.items)
          (pushed_kept w.made w.room w.kept.items watch (ap (λ (v : Watcher). v.number) c.in_ok-watch.ensures ∙ takes.0)
          (ap (λ (v : Watcher). v.room) c.in_ok-watch.ensures ∙ takes.1) c.self.invariant.0),
      omega (arith, count, more, fewer, length_is),
    )

pub returns-clause-ok : goal.returns-clause-ok
returns-clause-ok g c =
    let w = c.self.inside in
    let s = c.args.s in
    let table = g.N.Names.table c.args.names.now in
    let range = c.in-Ok.ensures.ok in
    let there = c.as_slice-2.ensures.value ∙ c.in_ok-there-2.ensures
    ∙ ap (λ (ps : List Publication). in_order ps) (c.as_slice.ensures ∙ c.in_ok-there.ensures.overlap ∙ watched_there s c.in-Ok.range range.0 range.1 range.2 table) in
    one_subscribed s table w.made w.room w.kept.items c.push.new.self.items c.in_ok-watch.watch c.in-Ok-push.ensures.items
    (c.in_ok-watch.ensures ∙ ap (λ (ps : List Publication). began (w.made + 1) s w.room ps) there)
    ∙ ap (λ (t : Watchers). subscribed s table t) c.self.view_is
