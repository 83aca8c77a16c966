use Rattle.tipc_header.proofs.Again.{no_fault, again}
use Rattle.tipc_header.proofs.laws.spellings_are_read_again.Goals as goal

pub returns-clause-no_fault : goal.returns-clause-no_fault
returns-clause-no_fault c = no_fault

pub returns-clause-again : goal.returns-clause-again
returns-clause-again c = again
