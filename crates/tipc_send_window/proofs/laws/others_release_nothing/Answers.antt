use Rattle.tipc_send_window.proofs.WindowLaws.{acknowledged-other}
use Rattle.tipc_send_window.proofs.laws.others_release_nothing.Goals as goal

pub returns : goal.returns
returns c = acknowledged-other
