use Rattle.tipc_settling.proofs.AnswerTurns.{turns_tell_answer}
use Rattle.tipc_settling.proofs.AnswersTold.{arrivals_tell_answer, events_tell_answer}
use Rattle.tipc_settling.proofs.stillness.activates_leave_ends_that_answer.Goals as goal

pub returns-clause-turns : goal.returns-clause-turns
returns-clause-turns c = turns_tell_answer

pub returns-clause-events : goal.returns-clause-events
returns-clause-events c = events_tell_answer

pub returns-clause-arrivals : goal.returns-clause-arrivals
returns-clause-arrivals c = arrivals_tell_answer
