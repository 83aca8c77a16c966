use Rattle.tipc_paired.proofs.Facts.{heard_taken, rises_of_peer, up_on_record}
use Rattle.tipc_paired.proofs.laws.what_is_heard_is_so.Goals as goal

pub returns-clause-acknowledged : goal.returns-clause-acknowledged
returns-clause-acknowledged c = heard_taken

pub returns-clause-risen : goal.returns-clause-risen
returns-clause-risen c = rises_of_peer

pub returns-clause-recorded : goal.returns-clause-recorded
returns-clause-recorded c = up_on_record
