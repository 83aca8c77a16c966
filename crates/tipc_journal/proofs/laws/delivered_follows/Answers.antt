use Rattle.tipc_journal.proofs.StreamLaws.{delivered_more}
use Rattle.tipc_journal.proofs.laws.delivered_follows.Goals as goal

pub returns : goal.returns
returns c = delivered_more
