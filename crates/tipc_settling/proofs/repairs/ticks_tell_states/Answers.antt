use Rattle.tipc_settling.proofs.Telling.{tick_tells}
use Rattle.tipc_settling.proofs.repairs.ticks_tell_states.Goals as goal

pub returns : goal.returns
returns c = tick_tells
