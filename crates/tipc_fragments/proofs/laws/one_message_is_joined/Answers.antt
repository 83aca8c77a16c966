use Rattle.tipc_fragments.proofs.RunLaws.{one_front, one_whole}
use Rattle.tipc_fragments.proofs.laws.one_message_is_joined.Goals as goal

pub returns-clause-more : goal.returns-clause-more
returns-clause-more c = one_front

pub returns-clause-whole : goal.returns-clause-whole
returns-clause-whole c = one_whole
