use Rattle.tipc_journal.proofs.FateLaws.{AllMayStand_more, AllHaveFates_step}
use Rattle.tipc_journal.proofs.laws.fates_follow.Goals as goal

pub returns-clause-inside : goal.returns-clause-inside
returns-clause-inside c = AllMayStand_more

pub returns-clause-step : goal.returns-clause-step
returns-clause-step c = AllHaveFates_step
