use Rattle.tipc_casters.proofs.Messages.{gives_messages}
use Rattle.tipc_casters.proofs.laws.each_member_is_given_a_front_of_the_messages.Goals as goal

pub returns : goal.returns
returns c = gives_messages
