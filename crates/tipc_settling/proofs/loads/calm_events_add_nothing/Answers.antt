use Rattle.tipc_settling.proofs.Calm.{arrives_adds}
use Rattle.tipc_settling.proofs.Ticks.{tick_adds}
use Rattle.tipc_settling.proofs.loads.calm_events_add_nothing.Goals as goal

pub returns-clause-arrives : goal.returns-clause-arrives
returns-clause-arrives c = arrives_adds

pub returns-clause-ticks : goal.returns-clause-ticks
returns-clause-ticks c = tick_adds
