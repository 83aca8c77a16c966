use Rattle.tipc_dissect.proofs.Spelled.{spelled}
use Rattle.tipc_dissect.proofs.laws.frames_are_spelled.Goals as goal

pub returns : goal.returns
returns c = spelled
