use Rattle.tipc_send_window.proofs.WindowLaws.{acknowledged-position}
use Rattle.tipc_send_window.proofs.laws.acknowledges_by_position.Goals as goal

pub returns : goal.returns
returns c = acknowledged-position
