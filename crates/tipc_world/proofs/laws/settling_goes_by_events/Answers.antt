use Rattle.tipc_world.proofs.laws.settling_goes_by_events.Goals as goal
use Rattle.tipc_world.proofs.rounds.Events.{arrive_step, tick_step}
use Rattle.tipc_world.proofs.rounds.Flying.{comes_from}
use Rattle.tipc_world.proofs.rounds.Totals.{totals_on}
use Rattle.tipc_world.proofs.rounds.Walking.{settling_goes_on}

pub returns-clause-ticks : goal.returns-clause-ticks
returns-clause-ticks c = tick_step

pub returns-clause-arrives : goal.returns-clause-arrives
returns-clause-arrives c = arrive_step

pub returns-clause-frames : goal.returns-clause-frames
returns-clause-frames c = comes_from

pub returns-clause-totals : goal.returns-clause-totals
returns-clause-totals c = totals_on

pub returns-clause-goes_on : goal.returns-clause-goes_on
returns-clause-goes_on c = settling_goes_on
