use Rattle.tipc_journal.proofs.CountLaws.{names_sent_step, names_sent_before_step, names_sent_before_all, events_given_step, sockets_made_step, subscriptions_made_step, subscriptions_made_more}
use Rattle.tipc_journal.proofs.laws.counts_follow.Goals as goal

pub returns-clause-names : goal.returns-clause-names
returns-clause-names c = names_sent_step

pub returns-clause-before : goal.returns-clause-before
returns-clause-before c = names_sent_before_step

pub returns-clause-all : goal.returns-clause-all
returns-clause-all c = names_sent_before_all

pub returns-clause-events : goal.returns-clause-events
returns-clause-events c = events_given_step

pub returns-clause-sockets : goal.returns-clause-sockets
returns-clause-sockets c = sockets_made_step

pub returns-clause-subscriptions : goal.returns-clause-subscriptions
returns-clause-subscriptions c = subscriptions_made_step

pub returns-clause-subscribed : goal.returns-clause-subscribed
returns-clause-subscribed c = subscriptions_made_more
