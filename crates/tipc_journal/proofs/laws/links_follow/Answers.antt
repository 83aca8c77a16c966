use Rattle.tipc_journal.proofs.ContactLaws.{up_epochs_more}
use Rattle.tipc_journal.proofs.laws.links_follow.Goals as goal

pub returns : goal.returns
returns c = up_epochs_more
