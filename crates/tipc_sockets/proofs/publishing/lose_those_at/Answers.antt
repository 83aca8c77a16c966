use Rattle.std.proofs.Common.{◌≡◌, ◌+◌, ◌++◌, ◌∷◌, [], List, take, filter, sym, ap, ◌∙◌}
use Rattle.std.proofs.lemmas.List.{take_more}
use Rattle.tipc_types.specs.declared.services.Publication.{Publication}
use Rattle.tipc_topology.specs.Changing.{with_loss, Watchers}
use Rattle.tipc_sockets.specs.Publishing.{is_at}
use Rattle.tipc_sockets.proofs.Closing.{at_another, at_the_port, loss_elsewhere, loss_here, no_loss}
use Rattle.tipc_sockets.proofs.publishing.lose_those_at.Goals as goal
use Rattle.tipc_sockets.proofs.publishing.lose_those_at.Goals.{then-p-port, else-p-port}

pub loop-p-init : goal.loop-p-init
loop-p-init c = sym (no_loss c.args.topology.now)

pub loop-p-preserved : goal.loop-p-preserved
loop-p-preserved c =
    let live = c.args.live.now in
    let i = c.loop-p.p-index in
    let q = c.p-item.result in
    let t = c.args.topology.now in
    let more : take (i + 1) live ≡ take i live ++ q ∷ [] = take_more live i q c.loop-p-test.true ∙ ap (λ (p : Publication). take i live ++ p ∷ []) (sym c.p-item.is) in
    let last = ap (λ (ps : List Publication). with_loss (filter (is_at c.args.port) ps) t) (sym more) in
    elim c.if-p-port.branch [
      | then-p-port w ↦
          w.topology-is ∙ w.lose.ensures ∙ ap (λ (u : Watchers). with_loss (q ∷ []) u) c.loop-p.invariant
          ∙ loss_here c.args.port q (take i live) t (at_the_port c.args.port q w.if-p-port.true) ∙ last
      | else-p-port w ↦
          w.topology-is ∙ c.loop-p.invariant ∙ loss_elsewhere c.args.port q (take i live) t (at_another c.args.port q w.if-p-port.false) ∙ last
    ]
