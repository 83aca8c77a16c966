use Rattle.std.proofs.Common.{List, fold, sym, ap, subst, ◌∙◌}
use Rattle.tipc_topology.specs.Watchers.{removed, Watcher}
use Rattle.tipc_topology.specs.Changing.{with_loss, AreKept, Watchers}
use Rattle.tipc_topology.proofs.Kept.{all_removed_keep, kept_as, mapped_few, mapped_kept, mapped_written}
use Rattle.tipc_topology.proofs.topology.Topology.lost.Goals as goal

pub invariant_of-self : goal.invariant_of-self
invariant_of-self c =
    let w = c.self.inside in
    let ps = c.args.ordered.now in
    let slice = c.as_mut_slice.ensures in
    let all = mapped_written (λ v. fold removed v ps) w.kept.len w.kept.items c.as_mut_slice.result.now c.remove_from_each.new.kept c.remove_from_each.ensures slice.value slice.len in (
      subst (λ (ws : List Watcher). AreKept (kept_as w.made w.room ws)) (sym all)
          (mapped_kept (λ v. fold removed v ps) w.made w.room w.room w.kept.items
          (λ v has. ((all_removed_keep v ps).0, (all_removed_keep v ps).1 ∙ has)) c.self.invariant.0),
      mapped_few (λ v. fold removed v ps) w.kept.items _ all c.self.invariant.1,
    )

pub returns : goal.returns
returns c =
    let w = c.self.inside in
    let ps = c.args.ordered.now in
    let slice = c.as_mut_slice.ensures in
    let all = mapped_written (λ v. fold removed v ps) w.kept.len w.kept.items c.as_mut_slice.result.now c.remove_from_each.new.kept c.remove_from_each.ensures slice.value slice.len in
    ap (λ (ws : List Watcher). kept_as w.made w.room ws) all ∙ ap (λ (t : Watchers). with_loss ps t) c.self.view_is
