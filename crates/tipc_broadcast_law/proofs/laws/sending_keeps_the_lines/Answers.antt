use Rattle.tipc_broadcast_law.proofs.Lining.{send_lines}
use Rattle.tipc_broadcast_law.proofs.laws.sending_keeps_the_lines.Goals as goal

pub returns : goal.returns
returns c = send_lines
