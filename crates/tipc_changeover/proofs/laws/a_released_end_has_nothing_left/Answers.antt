use Rattle.tipc_changeover.proofs.Using.{ended_session_past, reset_delivered, taken_is_delivered}
use Rattle.tipc_changeover.proofs.laws.a_released_end_has_nothing_left.Goals as goal

pub returns-clause-ended : goal.returns-clause-ended
returns-clause-ended c = ended_session_past

pub returns-clause-taken : goal.returns-clause-taken
returns-clause-taken c = taken_is_delivered

pub returns-clause-reset : goal.returns-clause-reset
returns-clause-reset c = reset_delivered
