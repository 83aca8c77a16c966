use Rattle.tipc_bundle.proofs.Bundling.{joined_several, length-joined, several_fit}
use Rattle.tipc_bundle.proofs.laws.joined_packets_are_a_packet.Goals as goal

pub returns : goal.returns
returns c = record { spelled = joined_several; size = length-joined; fits = several_fit }
