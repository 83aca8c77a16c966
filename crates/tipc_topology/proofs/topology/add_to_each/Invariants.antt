use Rattle.std.proofs.Common.{◌≡◌}
use Rattle.tipc_topology.specs.Watchers.{added, Watcher}
use Rattle.tipc_topology.proofs.Each.{stepped}
use Rattle.tipc_topology.proofs.topology.add_to_each.Given as goal

abbrev pub invariant-loop-watch : goal.invariant-loop-watch
invariant-loop-watch l = l.kept ≡ stepped (λ (w : Watcher). added w l.p) l.watch-index l.fn.kept
