use Rattle.tipc_name_dist.proofs.Agreed.{begins, ends, goes_on, goes_unseen}
use Rattle.tipc_name_dist.proofs.laws.items_make_tables_agree.Goals as goal

pub returns-clause-begin : goal.returns-clause-begin
returns-clause-begin c = begins

pub returns-clause-published : goal.returns-clause-published
returns-clause-published c = goes_on

pub returns-clause-withdrawn : goal.returns-clause-withdrawn
returns-clause-withdrawn c = ends

pub returns-clause-unseen_withdrawn : goal.returns-clause-unseen_withdrawn
returns-clause-unseen_withdrawn c = goes_unseen
