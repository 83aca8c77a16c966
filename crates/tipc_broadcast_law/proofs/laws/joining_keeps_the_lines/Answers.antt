use Rattle.tipc_broadcast_law.proofs.Lining.{join_lines}
use Rattle.tipc_broadcast_law.proofs.laws.joining_keeps_the_lines.Goals as goal

pub returns : goal.returns
returns c = join_lines
