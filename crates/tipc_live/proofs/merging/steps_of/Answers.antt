use Rattle.std.proofs.Common.{◌≡◌, ◌++◌, subst}
use Rattle.tipc_live.specs.Keeping.{kept_in}
use Rattle.tipc_live.proofs.Stamped.{kept_from_next}
use Rattle.tipc_live.proofs.merging.steps_of.Goals as goal

pub loop-node-preserved : goal.loop-node-preserved
loop-node-preserved g c =
    kept_from_next c.args.nodes.now c.loop-node.node c.index-nodes-node.result c.loop-node.steps.items c.add_steps.new.steps.items c.loop-node-test.true
    c.index-nodes-node.is c.loop-node.invariant
    (subst (λ J. c.add_steps.new.steps.items ≡ c.loop-node.steps.items ++ kept_in c.loop-node.node J) c.journal_of.ensures.journal c.in_ok-add_steps.ensures)
