use Rattle.tipc_settling.proofs.OwnTurns.{arrivals_hear}
use Rattle.tipc_settling.proofs.stillness.arrivals_hear_in_turns.Goals as goal

pub returns : goal.returns
returns c = arrivals_hear
