use Rattle.tipc_journal.specs.Steps.{steps}
use Rattle.tipc_live.proofs.Comparing.{AreTold}
use Rattle.tipc_live.proofs.telling.first_difference.Given as goal

abbrev pub invariant-loop-step : goal.invariant-loop-step
invariant-loop-step l = AreTold l.caller (steps l.entries) l.told l.step-index l.number
