use Rattle.std.proofs.Common.{◌∙◌, ◌++◌, ◌∷◌, [], ap}
use Rattle.tipc_work.specs.declared.crews.Crewed.{Crewed}
use Rattle.tipc_work.proofs.Crewing.{any_kept, any_now, bearers_push, map_push}
use Rattle.tipc_work.proofs.runs.gathered.Goals as goal

pub loop-crew-preserved-then-failed : goal.loop-crew-preserved-then-failed
loop-crew-preserved-then-failed g c = (
  c.in_ok-push.ensures.items ∙ map_push (λ (k : Crewed _). k.passes) c.loop-crew.yielded _ c.in-Some.crew c.loop-crew.invariant.0,
  c.in_ok-push-3.ensures.items ∙ ap (λ bs. bs ++ c.in-Some.crew.second ∷ []) c.in_ok-push-2.ensures.items
      ∙ bearers_push (λ (k : Crewed _). k.first) (λ (k : Crewed _). k.second) c.loop-crew.yielded _ c.in-Some.crew c.loop-crew.invariant.1,
  any_kept (λ (k : Crewed _). k.failed) c.loop-crew.yielded _ c.in-Some.crew c.loop-crew.invariant.2 c.if-failed.true,
)

pub loop-crew-preserved : goal.loop-crew-preserved
loop-crew-preserved g c = (
  c.in_ok-push.ensures.items ∙ map_push (λ (k : Crewed _). k.passes) c.loop-crew.yielded _ c.in-Some.crew c.loop-crew.invariant.0,
  c.in_ok-push-3.ensures.items ∙ ap (λ bs. bs ++ c.in-Some.crew.second ∷ []) c.in_ok-push-2.ensures.items
      ∙ bearers_push (λ (k : Crewed _). k.first) (λ (k : Crewed _). k.second) c.loop-crew.yielded _ c.in-Some.crew c.loop-crew.invariant.1,
  any_now (λ (k : Crewed _). k.failed) c.loop-crew.yielded _ c.in-Some.crew c.loop-crew.invariant.2 c.if-failed.false,
)
