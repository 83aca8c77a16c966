use Rattle.tipc_reassembly.proofs.FrontLaws.{opened_every, opened_front, opened_more, opened_none}
use Rattle.tipc_reassembly.proofs.laws.messages_are_given_step_by_step.Goals as goal

pub returns-clause-none : goal.returns-clause-none
returns-clause-none c = opened_none

pub returns-clause-more : goal.returns-clause-more
returns-clause-more c = opened_more

pub returns-clause-front : goal.returns-clause-front
returns-clause-front c = opened_front

pub returns-clause-every : goal.returns-clause-every
returns-clause-every c = opened_every
