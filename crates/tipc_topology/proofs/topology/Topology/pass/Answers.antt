use Rattle.std.proofs.Common.{List, fold, sym, ap, subst, ◌∙◌}
use Rattle.tipc_topology.specs.Watchers.{ticked, Watcher}
use Rattle.tipc_topology.specs.Changing.{due, ended_at, passed, AreKept, Watchers}
use Rattle.tipc_topology.proofs.Keeping.{tick_is_ends}
use Rattle.tipc_topology.proofs.Kept.{kept_as, mapped_few, mapped_kept, mapped_written, ticked_keeps}
use Rattle.tipc_topology.proofs.topology.Topology.pass.Goals as goal

pub invariant_of-self : goal.invariant_of-self
invariant_of-self c =
    let w = c.self.inside in
    let slice = c.as_mut_slice.ensures in
    let ticked_all = mapped_written ticked w.kept.len w.kept.items c.as_mut_slice.result.now c.tick_each.new.kept c.tick_each.ensures slice.value slice.len in (
      subst (λ (ws : List Watcher). AreKept (kept_as w.made w.room ws)) (sym ticked_all)
          (mapped_kept ticked w.made w.room w.room w.kept.items (λ v has. ((ticked_keeps v).0, (ticked_keeps v).1 ∙ has)) c.self.invariant.0),
      mapped_few ticked w.kept.items _ ticked_all c.self.invariant.1,
    )

pub returns-clause-parts : goal.returns-clause-parts
returns-clause-parts c =
    let w = c.self.inside in
    let slice = c.as_mut_slice.ensures in
    let ticked_all = mapped_written ticked w.kept.len w.kept.items c.as_mut_slice.result.now c.tick_each.new.kept c.tick_each.ensures slice.value slice.len in
    ap (λ (ws : List Watcher). kept_as w.made w.room ws) ticked_all
    ∙ sym (tick_is_ends (kept_as w.made w.room w.kept.items) c.self.invariant.0)
    ∙ ap (λ (t : Watchers). passed (fold (λ u n. ended_at n u) t (due t.kept))) c.self.view_is
