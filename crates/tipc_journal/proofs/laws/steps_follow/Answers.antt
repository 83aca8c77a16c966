use Rattle.tipc_journal.proofs.StepLaws.{steps_more, IsWhole_more}
use Rattle.tipc_journal.proofs.laws.steps_follow.Goals as goal

pub returns-clause-last : goal.returns-clause-last
returns-clause-last c = steps_more

pub returns-clause-whole : goal.returns-clause-whole
returns-clause-whole c = IsWhole_more
