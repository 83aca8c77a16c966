use Rattle.std.proofs.Common.{◌≡◌, take, fold}
use Rattle.tipc_topology.specs.Watchers.{removed}
use Rattle.tipc_topology.proofs.watch.Watch.remove_each.Given as goal

-- it was told of those before
abbrev pub invariant-loop-p : goal.invariant-loop-p
invariant-loop-p l = l.self ≡ fold removed l.fn.self (take l.p-index l.ps)
