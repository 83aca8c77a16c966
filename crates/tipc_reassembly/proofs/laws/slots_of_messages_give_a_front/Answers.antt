use Rattle.tipc_reassembly.proofs.FrontLaws.{opens_front}
use Rattle.tipc_reassembly.proofs.laws.slots_of_messages_give_a_front.Goals as goal

pub returns : goal.returns
returns c = opens_front
