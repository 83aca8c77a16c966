use Rattle.tipc_settling.proofs.Told.{turns_tell_nothing}
use Rattle.tipc_settling.proofs.stillness.a_still_pair_tells_nothing.Goals as goal

pub returns : goal.returns
returns c = turns_tell_nothing
