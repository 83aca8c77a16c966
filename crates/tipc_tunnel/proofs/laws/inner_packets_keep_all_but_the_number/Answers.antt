use Rattle.tipc_tunnel.proofs.InnerLaws.{length-numbered, numbered-spelling, numbered_inside, numbered_same}
use Rattle.tipc_tunnel.proofs.laws.inner_packets_keep_all_but_the_number.Goals as goal

pub returns : goal.returns
returns c = record { packet = numbered-spelling; inside = numbered_inside; same = numbered_same; size = length-numbered }
