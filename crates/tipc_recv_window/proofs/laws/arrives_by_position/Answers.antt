use Rattle.tipc_recv_window.proofs.ArrivalLaws.{arrives}
use Rattle.tipc_recv_window.proofs.laws.arrives_by_position.Goals as goal

pub returns : goal.returns
returns c = arrives
