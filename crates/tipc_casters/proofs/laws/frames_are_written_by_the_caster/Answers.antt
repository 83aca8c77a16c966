use Rattle.tipc_casters.proofs.Reading.{frames_are_written}
use Rattle.tipc_casters.proofs.laws.frames_are_written_by_the_caster.Goals as goal

pub returns : goal.returns
returns c = frames_are_written
