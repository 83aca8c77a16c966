use Rattle.tipc_journal.proofs.MatchLaws.{names_more, AreAtHome_more, live_at_home, learned_at_home}
use Rattle.tipc_journal.proofs.laws.names_follow.Goals as goal

pub returns-clause-table : goal.returns-clause-table
returns-clause-table c = names_more

pub returns-clause-home : goal.returns-clause-home
returns-clause-home c = AreAtHome_more

pub returns-clause-own : goal.returns-clause-own
returns-clause-own c = live_at_home

pub returns-clause-peers : goal.returns-clause-peers
returns-clause-peers c = learned_at_home
