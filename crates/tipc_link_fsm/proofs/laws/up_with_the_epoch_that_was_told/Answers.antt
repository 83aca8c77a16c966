use Rattle.tipc_link_fsm.proofs.Rising.{goes_up}
use Rattle.tipc_link_fsm.proofs.laws.up_with_the_epoch_that_was_told.Goals as goal

pub returns : goal.returns
returns c = goes_up
