use Rattle.tipc_journal.proofs.FateLaws.{delivered_next, due_next, fate_due}
use Rattle.tipc_journal.proofs.laws.what_is_due_stands_next.Goals as goal

pub returns-clause-next : goal.returns-clause-next
returns-clause-next c = due_next

pub returns-clause-delivered : goal.returns-clause-delivered
returns-clause-delivered c = delivered_next

pub returns-clause-fates : goal.returns-clause-fates
returns-clause-fates c = fate_due
