use Rattle.tipc_settling.proofs.NoticesTold.{nodes_say_notice}
use Rattle.tipc_settling.proofs.Waking.{arrivals_make_answer, arrivals_take_up, arrivals_take_up_answering, arrivals_tell_contact}
use Rattle.tipc_settling.proofs.stillness.links_come_up_at_a_node.Goals as goal

pub returns-clause-resets : goal.returns-clause-resets
returns-clause-resets c = arrivals_make_answer

pub returns-clause-activates : goal.returns-clause-activates
returns-clause-activates c = arrivals_take_up

pub returns-clause-states : goal.returns-clause-states
returns-clause-states c = arrivals_take_up_answering

pub returns-clause-contact : goal.returns-clause-contact
returns-clause-contact c = arrivals_tell_contact

pub returns-clause-ticks : goal.returns-clause-ticks
returns-clause-ticks c = nodes_say_notice
