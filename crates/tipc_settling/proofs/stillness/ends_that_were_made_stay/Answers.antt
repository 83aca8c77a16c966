use Rattle.tipc_settling.proofs.EndsMade.{events_keep_ends}
use Rattle.tipc_settling.proofs.stillness.ends_that_were_made_stay.Goals as goal

pub returns : goal.returns
returns c = events_keep_ends
