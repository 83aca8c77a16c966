use Rattle.tipc_recv_window.proofs.ArrivalLaws.{answers}
use Rattle.tipc_recv_window.proofs.laws.answers_by_position.Goals as goal

pub returns : goal.returns
returns c = answers
