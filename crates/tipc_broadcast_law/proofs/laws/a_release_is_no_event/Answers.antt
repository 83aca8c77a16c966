use Rattle.tipc_broadcast_law.proofs.calls.Numbering.{release_is_silent}
use Rattle.tipc_broadcast_law.proofs.laws.a_release_is_no_event.Goals as goal

pub returns : goal.returns
returns c = release_is_silent
