use Rattle.tipc_broadcast.proofs.SetLaws.{sets_tell_members}
use Rattle.tipc_broadcast.proofs.laws.sets_tell_members.Goals as goal

pub returns : goal.returns
returns c = sets_tell_members
