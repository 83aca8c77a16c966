use Rattle.tipc_broadcast_law.proofs.Lining.{leave_lines}
use Rattle.tipc_broadcast_law.proofs.laws.leaving_keeps_the_lines.Goals as goal

pub returns : goal.returns
returns c = leave_lines
