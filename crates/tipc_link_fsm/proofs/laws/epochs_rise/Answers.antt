use Rattle.tipc_link_fsm.proofs.Keeping.{highest_rises}
use Rattle.tipc_link_fsm.proofs.Rising.{own_rises}
use Rattle.tipc_link_fsm.proofs.laws.epochs_rise.Goals as goal

pub returns-clause-own : goal.returns-clause-own
returns-clause-own c = own_rises

pub returns-clause-highest : goal.returns-clause-highest
returns-clause-highest c = highest_rises
