use Rattle.tipc_journal.proofs.ContactLaws.{contact_more}
use Rattle.tipc_journal.proofs.laws.contact_follows.Goals as goal

pub returns : goal.returns
returns c = contact_more
