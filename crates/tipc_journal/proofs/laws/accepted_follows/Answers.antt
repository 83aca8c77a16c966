use Rattle.tipc_journal.proofs.StreamLaws.{accepted_more}
use Rattle.tipc_journal.proofs.laws.accepted_follows.Goals as goal

pub returns : goal.returns
returns c = accepted_more
