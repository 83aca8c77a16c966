use Rattle.tipc_link_fsm.proofs.Keeping.{sound_after}
use Rattle.tipc_link_fsm.proofs.Rising.{epochs_up_once}
use Rattle.tipc_link_fsm.proofs.laws.each_epoch_is_up_at_most_once.Goals as goal

pub returns-clause-sound : goal.returns-clause-sound
returns-clause-sound c = sound_after

pub returns-clause-once : goal.returns-clause-once
returns-clause-once c = epochs_up_once
