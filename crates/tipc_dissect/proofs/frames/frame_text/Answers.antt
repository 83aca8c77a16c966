use Rattle.std.proofs.Common.{ap}
use Rattle.tipc_dissect.specs.Packets.{whole_text}
use Rattle.tipc_dissect.proofs.Appending.{third_put}
use Rattle.tipc_dissect.proofs.frames.frame_text.Goals as goal

pub returns : goal.returns
returns c = third_put _ _ _ _ _ _ _ c.in_ok-text.ensures c.in_ok-put_envelope.ensures c.in_ok-put_whole.ensures (ap whole_text c.requires.packet)
