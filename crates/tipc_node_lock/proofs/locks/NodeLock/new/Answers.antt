use Rattle.std.specs.List.{All}
use Rattle.std.proofs.Common.{◌≡◌, List, length, ap, sym, subst, ◌∙◌}
use Rattle.tipc_node_lock.specs.Passes.{PassState}
use Rattle.tipc_node_lock.proofs.Dealing.{passes_count, passes_fit}
use Rattle.tipc_node_lock.proofs.locks.NodeLock.new.Goals as goal

pub returns-clause-fit : goal.returns-clause-fit
returns-clause-fit g c =
    let dealt = c.in_ok-passes.ensures in
    let own = c.args.own.word in
    let table = c.args.stamps.now in (
      subst (λ (ps : List PassState). All (λ p. (p.seat.of_table ≡ table) × (p.own ≡ own)) ps) (sym dealt)
          (passes_fit own 1 table c.args.seats.items c.requires.seats),
      ap length dealt ∙ passes_count own 1 c.args.seats.items ∙ c.requires.callers.1,
    )
