use Rattle.tipc_name_dist.proofs.Applied.{left_by, taken_back}
use Rattle.tipc_name_dist.proofs.applying.take_back.Goals as goal

pub loop-p-preserved : goal.loop-p-preserved
loop-p-preserved g c =
    taken_back _ _ _ _ _ _ c.in-Some.p c.loop-p.invariant c.in-Some.ensures.items (left_by _ _ _ _ c.withdraw.result c.withdraw.ensures.after c.withdraw.ensures.unknown c.withdraw.ensures.err)
