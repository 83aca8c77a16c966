use Rattle.std.proofs.Common.{◌≡◌, take, true}
use Rattle.tipc_node.specs.Sure.{all_wait}
use Rattle.tipc_node.proofs.sure.all_wait.Given as goal

-- those so far wait
abbrev pub invariant-loop-delivery : goal.invariant-loop-delivery
invariant-loop-delivery l = all_wait l.sockets l.count (take l.delivery-index l.deliveries) ≡ true
