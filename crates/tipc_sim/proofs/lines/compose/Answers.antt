use Rattle.tipc_world.proofs.Continuing.{grows_same}
use Rattle.tipc_sim.proofs.lines.compose.Goals.{in-Node+in_ok-add_node-in-Node, in-Link+in_ok-told-in-Link, in-Mark, in-Pump+in_ok-told-in-Pump, in-Settle+in_ok-told-in-Settle}
use Rattle.std.proofs.lemmas.Result.{err_from_is_err_and}
use Rattle.std.proofs.Common.{subst, sym, Err}
use Rattle.tipc_sim.specs.Happenings.{Composed}
use Rattle.tipc_sim.proofs.lines.compose.Goals as goal

pub returns-clause-good : goal.returns-clause-good
returns-clause-good g c =
    elim c.match-line.branch [
      | in-Node+in_ok-add_node-in-Node w ↦ rw w.world-is w.add_node.ensures.good
      | in-Link+in_ok-told-in-Link w ↦ rw w.world-is (w.link.ensures.continues.good c.requires.good)
      | in-Mark w ↦ rw w.world-is c.requires.good
      | in-Pump+in_ok-told-in-Pump w ↦ rw w.world-is (w.pump_on.ensures.continues.good c.requires.good)
      | in-Settle+in_ok-told-in-Settle w ↦ rw w.world-is (w.settle.ensures.continues.good c.requires.good)
    ]

pub returns-clause-grows : goal.returns-clause-grows
returns-clause-grows g c =
    elim c.match-line.branch [
      | in-Node+in_ok-add_node-in-Node w ↦ rw w.world-is w.add_node.ensures.grows
      | in-Link+in_ok-told-in-Link w ↦ rw w.world-is w.link.ensures.continues.grown
      | in-Mark w ↦ rw w.world-is (grows_same c.args.world.now.state)
      | in-Pump+in_ok-told-in-Pump w ↦ rw w.world-is w.pump_on.ensures.continues.grown
      | in-Settle+in_ok-told-in-Settle w ↦ rw w.world-is w.settle.ensures.continues.grown
    ]

pub returns-in_err-told-in-Link-clause-comes : goal.returns-in_err-told-in-Link-clause-comes
returns-in_err-told-in-Link-clause-comes g c =
    let p = err_from_is_err_and c.from_residual-in_err-told-in-Link.result c.from_residual-in_err-told-in-Link.ensures.1 in
    rw (p.1, p.2) (subst (λ line. Composed line c.args.notes.now c.args.world.now.state (Err c.in_err-told-in-Link.field-0.0) c.link.new.world.state) (sym c.in-Link.is) c.in_err-told-in-Link.ensures.comes)
