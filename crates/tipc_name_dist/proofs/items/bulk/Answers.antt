use Rattle.std.proofs.Common.{sym}
use Rattle.tipc_name_dist.proofs.Bulks.{gathered_all, gathered_last, gathering_next, gathering_past, is_none, is_some_left}
use Rattle.tipc_name_dist.proofs.items.bulk.Goals as goal

pub loop-p-preserved : goal.loop-p-preserved
loop-p-preserved c =
    gathering_next c.args.live.now c.loop-p.p-index _ _ _ _ _ c.p-item.result c.loop-p.invariant (sym c.p-item.is) c.loop-p-test.true c.in_ok-add.ensures c.in_ok-close.ensures.full c.in_ok-close.ensures.more

pub returns-then-is_empty : goal.returns-then-is_empty
returns-then-is_empty c =
    gathered_all _ _ _ (gathering_past c.args.live.now c.loop-p.p-index _ _ c.loop-p.invariant c.loop-p-test.false) (is_none c.loop-p.items _ c.is_empty.ensures c.if-is_empty.true)

pub returns : goal.returns
returns c =
    gathered_last _ _ _ _ _ (gathering_past c.args.live.now c.loop-p.p-index _ _ c.loop-p.invariant c.loop-p-test.false) (is_some_left c.loop-p.items _ c.is_empty.ensures c.if-is_empty.false) c.telling.ensures c.in_ok-push.ensures.items
