use Rattle.tipc_settling.proofs.AnswersTold.{events_hear_ups}
use Rattle.tipc_settling.proofs.AnswerTurns.{ups_were_heard}
use Rattle.tipc_settling.proofs.stillness.links_go_up_by_what_they_hear.Goals as goal

pub returns-clause-turns : goal.returns-clause-turns
returns-clause-turns c = ups_were_heard

pub returns-clause-events : goal.returns-clause-events
returns-clause-events c = events_hear_ups
