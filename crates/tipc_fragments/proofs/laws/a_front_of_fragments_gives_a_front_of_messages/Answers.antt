use Rattle.tipc_fragments.proofs.StreamLaws.{joins_front}
use Rattle.tipc_fragments.proofs.laws.a_front_of_fragments_gives_a_front_of_messages.Goals as goal

pub returns : goal.returns
returns c = joins_front
