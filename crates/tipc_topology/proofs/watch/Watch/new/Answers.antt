use Rattle.std.proofs.Common.{◌≡◌, ◌+◌, ◌-◌, fold, take, length, sym, ap, ◌∙◌, arith}
use Rattle.std.proofs.lemmas.List.Sums.{fold_more}
use Rattle.tipc_types.specs.declared.services.Publication.{Publication}
use Rattle.tipc_topology.specs.Watchers.{added, blank, Watcher}
use Rattle.tipc_topology.proofs.Kept.{added_takes}
use Rattle.tipc_topology.proofs.watch.Watch.new.Goals as goal

pub loop-p-preserved : goal.loop-p-preserved
loop-p-preserved c =
    let taken : c.add.new.self.room ≡ c.loop-p.watch.room - 1 =
    ap (λ (w : Watcher). w.room) c.add.ensures ∙ (added_takes c.loop-p.watch c.p-item.result).1 in
    let so_far = c.loop-p.invariant.1 in
    let within = c.loop-p-test.true in (
      c.add.ensures
          ∙ ap (λ (w : Watcher). added w c.p-item.result) c.loop-p.invariant.0
          ∙ ap (λ (p : Publication). added (fold added (blank c.args.number c.args.asked (length c.args.there.now + c.args.room)) (take c.loop-p.p-index c.args.there.now)) p) c.p-item.is
          ∙ sym (fold_more added (blank c.args.number c.args.asked (length c.args.there.now + c.args.room)) c.args.there.now c.loop-p.p-index c.p-item.result c.loop-p-test.true),
      omega (arith, taken, so_far, within),
    )
