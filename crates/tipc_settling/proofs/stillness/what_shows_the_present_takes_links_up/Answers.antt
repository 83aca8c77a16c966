use Rattle.tipc_settling.proofs.ContactSeen.{notices_tell_contact}
use Rattle.tipc_settling.proofs.Noticing.{ticks_say_notice}
use Rattle.tipc_settling.proofs.Rising.{activates_take_up, resets_make_answer, states_take_up}
use Rattle.tipc_settling.proofs.stillness.what_shows_the_present_takes_links_up.Goals as goal

pub returns-clause-resets : goal.returns-clause-resets
returns-clause-resets c = resets_make_answer

pub returns-clause-activates : goal.returns-clause-activates
returns-clause-activates c = activates_take_up

pub returns-clause-states : goal.returns-clause-states
returns-clause-states c = states_take_up

pub returns-clause-contact : goal.returns-clause-contact
returns-clause-contact c = notices_tell_contact

pub returns-clause-ticks : goal.returns-clause-ticks
returns-clause-ticks c = ticks_say_notice
