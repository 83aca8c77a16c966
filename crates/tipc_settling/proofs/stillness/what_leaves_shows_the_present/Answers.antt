use Rattle.tipc_settling.proofs.Sending.{sends_under_present}
use Rattle.tipc_settling.proofs.stillness.what_leaves_shows_the_present.Goals as goal

pub returns : goal.returns
returns c = sends_under_present
