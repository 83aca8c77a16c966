use Rattle.tipc_settling.proofs.Turns.{turns_still}
use Rattle.tipc_settling.proofs.stillness.nothing_goes_down_at_a_pair.Goals as goal

pub returns : goal.returns
returns c = turns_still
