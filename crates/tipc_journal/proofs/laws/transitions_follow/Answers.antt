use Rattle.tipc_journal.proofs.SubscriptionLaws.{transitions_more}
use Rattle.tipc_journal.proofs.laws.transitions_follow.Goals as goal

pub returns : goal.returns
returns c = transitions_more
