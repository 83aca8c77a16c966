use Rattle.std.proofs.Common.{◌≡◌, ◌+◌, ◌++◌, ◌∷◌, [], List, take, sym, ap, ◌∙◌}
use Rattle.std.proofs.lemmas.List.{take_more}
use Rattle.tipc_types.specs.declared.services.Publication.{Publication}
use Rattle.tipc_types.specs.Tables.{without}
use Rattle.tipc_sockets.proofs.Closing.{at_another, at_the_port, left_at_port, left_elsewhere, left_first, names_left}
use Rattle.tipc_sockets.proofs.Keeping.{taken_out}
use Rattle.tipc_sockets.proofs.publishing.withdraw_those_at.Goals as goal
use Rattle.tipc_sockets.proofs.publishing.withdraw_those_at.Goals.{then-p-port, else-p-port}

pub loop-p-init : goal.loop-p-init
loop-p-init g c = sym (left_first c.args.own.word c.args.port (g.N.Names.table c.args.names.now))

pub loop-p-preserved : goal.loop-p-preserved
loop-p-preserved g c =
    let live = c.args.live.now in
    let i = c.loop-p.p-index in
    let q = c.p-item.result in
    let own = c.args.own.word in
    let names = g.N.Names.table c.args.names.now in
    let more : take (i + 1) live ≡ take i live ++ q ∷ [] = take_more live i q c.loop-p-test.true ∙ ap (λ (p : Publication). take i live ++ p ∷ []) (sym c.p-item.is) in
    let last = ap (λ (ps : List Publication). names_left own c.args.port ps names) (sym more) in
    elim c.if-p-port.branch [
      | then-p-port w ↦
          ap (g.N.Names.table) w.names-is
          ∙ taken_out own q.key w.withdraw.result (g.N.Names.table c.loop-p.names) (g.N.Names.table w.withdraw.new.self) w.withdraw.ensures.after w.withdraw.ensures.unknown w.withdraw.ensures.err
          ∙ ap (λ (ps : List Publication). without own q.key ps) c.loop-p.invariant
          ∙ left_at_port own c.args.port q (take i live) names (at_the_port c.args.port q w.if-p-port.true)
          ∙ last
      | else-p-port w ↦
          ap (g.N.Names.table) w.names-is ∙ c.loop-p.invariant ∙ left_elsewhere own c.args.port q (take i live) names (at_another c.args.port q w.if-p-port.false) ∙ last
    ]
