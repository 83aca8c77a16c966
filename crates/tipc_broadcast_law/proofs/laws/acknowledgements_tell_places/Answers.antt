use Rattle.tipc_broadcast_law.proofs.calls.Numbering.{tells_place}
use Rattle.tipc_broadcast_law.proofs.laws.acknowledgements_tell_places.Goals as goal

pub returns : goal.returns
returns c = tells_place
