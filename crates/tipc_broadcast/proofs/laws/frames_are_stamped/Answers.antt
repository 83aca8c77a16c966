use Rattle.tipc_broadcast.proofs.FrameLaws.{frames_are_stamped}
use Rattle.tipc_broadcast.proofs.laws.frames_are_stamped.Goals as goal

pub returns : goal.returns
returns c = frames_are_stamped
