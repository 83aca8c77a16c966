use Rattle.tipc_changeover.specs.Reached.{at_begin, begun}
use Rattle.tipc_changeover.specs.Stories.{failover_story}
use Rattle.tipc_changeover.proofs.Telling.{failover_delivered, failover_may, failover_slots, reach}
use Rattle.tipc_changeover.proofs.laws.a_failover_with_placeholders.Goals as goal

pub returns-clause-reached : goal.returns-clause-reached
returns-clause-reached c = reach begun failover_story at_begin failover_may

pub returns-clause-carried : goal.returns-clause-carried
returns-clause-carried c = failover_slots

pub returns-clause-delivered : goal.returns-clause-delivered
returns-clause-delivered c = failover_delivered
