use Rattle.tipc_dissect.proofs.Inside.{passes, passes_only}
use Rattle.tipc_dissect.proofs.laws.inner_packets_are_unwrapped.Goals as goal

pub returns : goal.returns
returns c = λ number bytes are. (passes_only number bytes are, passes number bytes)
