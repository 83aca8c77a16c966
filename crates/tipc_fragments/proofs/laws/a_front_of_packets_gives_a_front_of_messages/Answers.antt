use Rattle.tipc_fragments.proofs.ItemLaws.{gives_front}
use Rattle.tipc_fragments.proofs.laws.a_front_of_packets_gives_a_front_of_messages.Goals as goal

pub returns : goal.returns
returns c = gives_front
