use Rattle.tipc_journal.proofs.Insides.{live_inside, learned_inside, names_inside, contact_inside, up_epochs_inside}
use Rattle.tipc_journal.proofs.laws.readings_follow_inside.Goals as goal

pub returns-clause-live : goal.returns-clause-live
returns-clause-live c = live_inside

pub returns-clause-learned : goal.returns-clause-learned
returns-clause-learned c = learned_inside

pub returns-clause-names : goal.returns-clause-names
returns-clause-names c = names_inside

pub returns-clause-contact : goal.returns-clause-contact
returns-clause-contact c = contact_inside

pub returns-clause-links : goal.returns-clause-links
returns-clause-links c = up_epochs_inside
