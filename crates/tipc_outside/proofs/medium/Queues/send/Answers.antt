-- A frame that came to one node more, and one that was stopped for want of memory.
use Rattle.std.proofs.Common.{◌≡◌, ◌+◌, ◌<◌, ◌∙◌, sym, ap, subst, length, arith}
use Rattle.tipc_outside.specs.Carried.{Reaches}
use Rattle.tipc_outside.proofs.Reaching.{reaches_it, reaches_past, reaches_so_far}
use Rattle.tipc_outside.proofs.medium.Queues.send.Goals.{then-is_for+in_ok-add, else-is_for}
use Rattle.tipc_outside.proofs.medium.Queues.send.Goals as goal

pub returns-in_err-add-clause-err : goal.returns-in_err-add-clause-err
returns-in_err-add-clause-err c = reaches_so_far _ _ _ c.loop-index.index _ _ _ _ _ _ c.loop-index.invariant c.index_mut.ensures.value c.in_err-add.ensures.err

pub loop-index-preserved : goal.loop-index-preserved
loop-index-preserved c =
    elim c.if-is_for.branch [
      | then-is_for+in_ok-add w ↦ subst (λ s. Reaches c.args.from c.args.to c.args.frame.now (c.loop-index.index + 1) c.args.self.now s.queues.items) (sym w.self-inside-is)
          (reaches_it _ _ _ c.loop-index.index _ _ _ _ _ within c.loop-index.invariant w.from.ensures (sym c.is_for.ensures ∙ w.if-is_for.true) w.index_mut.ensures.value w.in_ok-add.ensures.ok)
      | else-is_for w ↦ subst (λ s. Reaches c.args.from c.args.to c.args.frame.now (c.loop-index.index + 1) c.args.self.now s.queues.items) (sym w.self-inside-is)
          (reaches_past _ _ _ c.loop-index.index _ _ within c.loop-index.invariant (sym c.is_for.ensures ∙ w.if-is_for.false))
    ]
  where
    within : c.loop-index.index < length c.args.self.now
    within =
        let all : c.self.inside.queues.len ≡ 32 = c.self.invariant in
        let kept = c.self.inside.queues.ok.0 in
        let shown = ap length c.self.view_is in
        let next = c.loop-index-test.true in omega (arith, all, kept, shown, next)
