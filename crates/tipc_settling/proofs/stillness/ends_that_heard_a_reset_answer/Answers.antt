use Rattle.tipc_settling.proofs.HeardEnds.{heard_ends_answer}
use Rattle.tipc_settling.proofs.stillness.ends_that_heard_a_reset_answer.Goals as goal

pub returns : goal.returns
returns c = heard_ends_answer
