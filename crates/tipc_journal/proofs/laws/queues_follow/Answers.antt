use Rattle.tipc_journal.proofs.QueueLaws.{ever_queued_step, taken_count_step, sockets_step, queue_step, IsFed_step}
use Rattle.tipc_journal.proofs.laws.queues_follow.Goals as goal

pub returns-clause-queued : goal.returns-clause-queued
returns-clause-queued c = ever_queued_step

pub returns-clause-taken : goal.returns-clause-taken
returns-clause-taken c = taken_count_step

pub returns-clause-sockets : goal.returns-clause-sockets
returns-clause-sockets c = sockets_step

pub returns-clause-queue : goal.returns-clause-queue
returns-clause-queue c = queue_step

pub returns-clause-fed : goal.returns-clause-fed
returns-clause-fed c = IsFed_step
