use Rattle.tipc_casters.proofs.Reading.{frames_are_read}
use Rattle.tipc_casters.proofs.laws.frames_are_read_as_they_were_cast.Goals as goal

pub returns : goal.returns
returns c = frames_are_read
