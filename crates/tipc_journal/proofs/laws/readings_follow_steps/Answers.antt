use Rattle.tipc_journal.proofs.StreamLaws.{accepted_step, delivered_step}
use Rattle.tipc_journal.proofs.SubscriptionLaws.{subscriptions_step, transitions_step, watching_step}
use Rattle.tipc_journal.proofs.WholeSteps.{live_step, learned_step, table_step, names_step, contact_step, up_epochs_step}
use Rattle.tipc_journal.proofs.laws.readings_follow_steps.Goals as goal

pub returns-clause-live : goal.returns-clause-live
returns-clause-live c = live_step

pub returns-clause-learned : goal.returns-clause-learned
returns-clause-learned c = learned_step

pub returns-clause-table : goal.returns-clause-table
returns-clause-table c = table_step

pub returns-clause-names : goal.returns-clause-names
returns-clause-names c = names_step

pub returns-clause-contact : goal.returns-clause-contact
returns-clause-contact c = contact_step

pub returns-clause-links : goal.returns-clause-links
returns-clause-links c = up_epochs_step

pub returns-clause-subscriptions : goal.returns-clause-subscriptions
returns-clause-subscriptions c = subscriptions_step

pub returns-clause-watching : goal.returns-clause-watching
returns-clause-watching c = watching_step

pub returns-clause-transitions : goal.returns-clause-transitions
returns-clause-transitions c = transitions_step

pub returns-clause-accepted : goal.returns-clause-accepted
returns-clause-accepted c = accepted_step

pub returns-clause-delivered : goal.returns-clause-delivered
returns-clause-delivered c = delivered_step
