use Rattle.std.proofs.Common.{◌≡◌, take}
use Rattle.tipc_name_dist.specs.Items.{tellings}
use Rattle.tipc_node.proofs.tellings.tellings.Given as goal

abbrev pub invariant-loop-p : goal.invariant-loop-p
invariant-loop-p l = l.messages.items ≡ tellings l.withdrawal (take l.p-index l.publications)
