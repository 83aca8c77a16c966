use Rattle.tipc_journal.proofs.EventLaws.{given_front}
use Rattle.tipc_journal.proofs.LicenceLaws.{AllLicensed_step, IsFed_licensed, sends_in_more}
use Rattle.tipc_journal.proofs.laws.licences_follow.Goals as goal

pub returns-clause-step : goal.returns-clause-step
returns-clause-step c = AllLicensed_step

pub returns-clause-fed : goal.returns-clause-fed
returns-clause-fed c = IsFed_licensed

pub returns-clause-inside : goal.returns-clause-inside
returns-clause-inside c = sends_in_more

pub returns-clause-told : goal.returns-clause-told
returns-clause-told c = given_front
