use Rattle.std.proofs.Common.{◌-◌, List, sym, ap, subst, ◌∙◌}
use Rattle.tipc_topology.specs.Watchers.{added, Watcher}
use Rattle.tipc_topology.specs.Changing.{with_addition, AreKept, Watchers}
use Rattle.tipc_topology.proofs.Kept.{added_takes, kept_as, mapped_few, mapped_kept, mapped_written}
use Rattle.tipc_topology.proofs.topology.Topology.add.Goals as goal

pub invariant_of-self : goal.invariant_of-self
invariant_of-self c =
    let w = c.self.inside in
    let p = c.args.p.now in
    let slice = c.as_mut_slice.ensures in
    let all = mapped_written (λ v. added v p) w.kept.len w.kept.items c.as_mut_slice.result.now c.add_to_each.new.kept c.add_to_each.ensures slice.value slice.len in (
      subst (λ (ws : List Watcher). AreKept (kept_as w.made (w.room - 1) ws)) (sym all)
          (mapped_kept (λ v. added v p) w.made w.room (w.room - 1) w.kept.items
          (λ v has. ((added_takes v p).0, (added_takes v p).1 ∙ ap (λ n. n - 1) has)) c.self.invariant.0),
      mapped_few (λ v. added v p) w.kept.items _ all c.self.invariant.1,
    )

pub returns : goal.returns
returns c =
    let w = c.self.inside in
    let p = c.args.p.now in
    let slice = c.as_mut_slice.ensures in
    let all = mapped_written (λ v. added v p) w.kept.len w.kept.items c.as_mut_slice.result.now c.add_to_each.new.kept c.add_to_each.ensures slice.value slice.len in
    ap (λ (ws : List Watcher). kept_as w.made (w.room - 1) ws) all ∙ ap (λ (t : Watchers). with_addition p t) c.self.view_is
