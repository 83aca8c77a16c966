use Rattle.tipc_broadcast_law.proofs.Lining.{state_lines}
use Rattle.tipc_broadcast_law.proofs.laws.a_state_keeps_the_lines.Goals as goal

pub returns : goal.returns
returns c = state_lines
