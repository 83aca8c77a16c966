use Rattle.tipc_journal.proofs.SubscriptionLaws.{subscriptions_more, watching_more}
use Rattle.tipc_journal.proofs.laws.subscriptions_follow.Goals as goal

pub returns-clause-there : goal.returns-clause-there
returns-clause-there c = subscriptions_more

pub returns-clause-lasting : goal.returns-clause-lasting
returns-clause-lasting c = watching_more
