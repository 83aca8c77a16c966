use Rattle.std.specs.List.{All}
use Rattle.std.proofs.Common.{subst}
use Rattle.std.proofs.lemmas.List.{take_all}
use Rattle.std.proofs.lemmas.List.Elements.{All-more}
use Rattle.tipc_node_lock.specs.Locked.{IsWellKept}
use Rattle.tipc_live.proofs.nodes.tell_all.Goals as goal

pub loop-locked-preserved : goal.loop-locked-preserved
loop-locked-preserved g c =
    All-more IsWellKept c.args.nodes.now c.loop-locked.locked-index c.locked-item.result c.loop-locked-test.true c.loop-locked.invariant
    (subst IsWellKept c.locked-item.is c.told.ensures)

pub returns : goal.returns
returns g c = subst (All IsWellKept) (take_all c.loop-locked.locked-index c.args.nodes.now c.loop-locked-test.false) c.loop-locked.invariant
