use Rattle.tipc_header.proofs.RoundTrip.{one_packet}
use Rattle.tipc_header.proofs.laws.one_packet_a_spelling.Goals as goal

pub returns : goal.returns
returns c = one_packet
