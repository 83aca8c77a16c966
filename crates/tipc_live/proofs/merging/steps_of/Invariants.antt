use Rattle.std.proofs.Common.{◌≡◌, take}
use Rattle.tipc_live.specs.Stamping.{kept_from}
use Rattle.tipc_live.proofs.merging.steps_of.Given as goal

abbrev pub invariant-loop-node : goal.invariant-loop-node
invariant-loop-node g l = l.steps.items ≡ kept_from 0 (take l.node l.nodes)
