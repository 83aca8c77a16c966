use Rattle.tipc_journal.proofs.NameLaws.{live_more}
use Rattle.tipc_journal.proofs.laws.live_follows.Goals as goal

pub returns : goal.returns
returns c = live_more
