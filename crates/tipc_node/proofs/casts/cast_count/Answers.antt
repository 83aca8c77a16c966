use Rattle.std.proofs.Common.{subst}
use Rattle.tipc_broadcast.specs.Casting.{TakesFew}
use Rattle.tipc_node.proofs.casts.cast_count.Goals as goal

pub packet_count-requires : goal.packet_count-requires
packet_count-requires c = subst TakesFew c.in-Took.is c.requires.few
