use Rattle.tipc_journal.proofs.DueLaws.{queue_inside_nil, queue_inside_more, due_behind_more}
use Rattle.tipc_journal.proofs.laws.queues_follow_inside.Goals as goal

pub returns-clause-begin : goal.returns-clause-begin
returns-clause-begin c = queue_inside_nil

pub returns-clause-more : goal.returns-clause-more
returns-clause-more c = queue_inside_more

pub returns-clause-due : goal.returns-clause-due
returns-clause-due c = due_behind_more
