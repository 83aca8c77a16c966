use Rattle.tipc_settling.proofs.Beginnings.{begins_still, shows_present_contact}
use Rattle.tipc_settling.proofs.stillness.stillness_begins_at_any_moment.Goals as goal

pub returns-clause-begins : goal.returns-clause-begins
returns-clause-begins c = begins_still

pub returns-clause-shows : goal.returns-clause-shows
returns-clause-shows c = shows_present_contact
