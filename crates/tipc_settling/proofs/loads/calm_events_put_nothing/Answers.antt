use Rattle.tipc_settling.proofs.Calm.{arrives_puts}
use Rattle.tipc_settling.proofs.Ticks.{tick_puts}
use Rattle.tipc_settling.proofs.loads.calm_events_put_nothing.Goals as goal

pub returns-clause-arrives : goal.returns-clause-arrives
returns-clause-arrives c = arrives_puts

pub returns-clause-ticks : goal.returns-clause-ticks
returns-clause-ticks c = tick_puts
