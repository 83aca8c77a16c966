-- One queue more in which nothing waits.
use Rattle.std.proofs.Common.{◌≡◌, [], sym, subst, rules}
use Rattle.std.proofs.lemmas.List.Elements.{All-push}
use Rattle.std.specs.List.{All}
use Rattle.tipc_outside.proofs.medium.Queues.new.Goals as goal

pub loop-preserved : goal.loop-preserved
loop-preserved c = (search rules, subst (All (λ frames. frames ≡ [])) (sym c.in_ok-push.ensures.items) (All-push (λ frames. frames ≡ []) c.loop.queues.items _ c.loop.invariant.1 c.new.ensures))
