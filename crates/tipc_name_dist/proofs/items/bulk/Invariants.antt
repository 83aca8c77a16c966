use Rattle.std.proofs.Common.{take}
use Rattle.tipc_name_dist.proofs.Bulks.{IsGathering}
use Rattle.tipc_name_dist.proofs.items.bulk.Given as goal

abbrev pub invariant-loop-p : goal.invariant-loop-p
invariant-loop-p l = IsGathering (take l.p-index l.live) l.messages.items l.items
