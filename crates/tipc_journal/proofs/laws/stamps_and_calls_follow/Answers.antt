use Rattle.tipc_journal.proofs.CountLaws.{stamps_step, StampsRise_step, calls_of_step, CallsCount_step, AllAnsweredToCallers_step}
use Rattle.tipc_journal.proofs.laws.stamps_and_calls_follow.Goals as goal

pub returns-clause-stamps : goal.returns-clause-stamps
returns-clause-stamps c = stamps_step

pub returns-clause-rise : goal.returns-clause-rise
returns-clause-rise c = StampsRise_step

pub returns-clause-calls : goal.returns-clause-calls
returns-clause-calls c = calls_of_step

pub returns-clause-count : goal.returns-clause-count
returns-clause-count c = CallsCount_step

pub returns-clause-callers : goal.returns-clause-callers
returns-clause-callers c = AllAnsweredToCallers_step
