use Rattle.tipc_journal.proofs.NameLaws.{learned_more}
use Rattle.tipc_journal.proofs.laws.learned_follows.Goals as goal

pub returns : goal.returns
returns c = learned_more
