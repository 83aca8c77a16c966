use Rattle.tipc_changeover.proofs.Staying.{front_of_sent, reached_front}
use Rattle.tipc_changeover.proofs.laws.what_is_taken_is_a_front_of_what_was_put.Goals as goal

pub returns-clause-reached : goal.returns-clause-reached
returns-clause-reached c = reached_front

pub returns-clause-sound : goal.returns-clause-sound
returns-clause-sound c = front_of_sent
