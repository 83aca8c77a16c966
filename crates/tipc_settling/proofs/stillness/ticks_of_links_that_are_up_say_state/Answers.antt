use Rattle.tipc_settling.proofs.Saying.{ticks_say_state}
use Rattle.tipc_settling.proofs.stillness.ticks_of_links_that_are_up_say_state.Goals as goal

pub returns : goal.returns
returns c = ticks_say_state
