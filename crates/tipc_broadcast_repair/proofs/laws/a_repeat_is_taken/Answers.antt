use Rattle.tipc_broadcast_repair.proofs.Mending.{repeats_are_taken}
use Rattle.tipc_broadcast_repair.proofs.laws.a_repeat_is_taken.Goals as goal

pub returns : goal.returns
returns c = repeats_are_taken
