use Rattle.tipc_journal.proofs.MatchLaws.{filter_arranged, list_any_arranged, arranged_more}
use Rattle.tipc_journal.proofs.laws.look_ups_are_arranged.Goals as goal

pub returns-clause-looked_up : goal.returns-clause-looked_up
returns-clause-looked_up c = filter_arranged

pub returns-clause-found : goal.returns-clause-found
returns-clause-found c = list_any_arranged

pub returns-clause-more : goal.returns-clause-more
returns-clause-more c = arranged_more
