use Rattle.std.proofs.Common.{ap}
use Rattle.tipc_report.specs.declared.told.Told.TheVariants.{Moved}
use Rattle.tipc_sim.proofs.lines.burst_on.Goals as goal

pub returns-clause-comes : goal.returns-clause-comes
returns-clause-comes g c =
    (c.in_ok-moved.moved, c.in_ok-moved.places, (rw c.places.ensures at c.in_ok-moved.ensures.comes), ap (λ notes. (Moved c.in_ok-moved.moved, notes)) c.pump_both_to.ensures)
