use Rattle.tipc_settling.proofs.Bearers.{sends_on_mended}
use Rattle.tipc_settling.proofs.stillness.what_leaves_is_on_mended_bearers.Goals as goal

pub returns : goal.returns
returns c = sends_on_mended
