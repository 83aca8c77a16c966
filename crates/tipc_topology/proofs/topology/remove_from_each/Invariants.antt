use Rattle.std.proofs.Common.{◌≡◌, fold}
use Rattle.tipc_topology.specs.Watchers.{removed, Watcher}
use Rattle.tipc_topology.proofs.Each.{stepped}
use Rattle.tipc_topology.proofs.topology.remove_from_each.Given as goal

abbrev pub invariant-loop-watch : goal.invariant-loop-watch
invariant-loop-watch l = l.kept ≡ stepped (λ (w : Watcher). fold removed w l.ps) l.watch-index l.fn.kept
