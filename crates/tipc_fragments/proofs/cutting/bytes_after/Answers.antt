use Rattle.std.proofs.Common.{◌*◌, arith}
use Rattle.tipc_fragments.proofs.CutLaws.{take_within}
use Rattle.tipc_fragments.proofs.cutting.bytes_after.Goals as goal

pub returns : goal.returns
returns c = rw c.min-end.ensures (take_within c.args.message.now (1412 * c.args.before) (omega arith))
