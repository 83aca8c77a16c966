use Rattle.std.proofs.Common.{◌≡◌}
use Rattle.tipc_topology.specs.Watchers.{ticked}
use Rattle.tipc_topology.proofs.Each.{stepped}
use Rattle.tipc_topology.proofs.topology.tick_each.Given as goal

abbrev pub invariant-loop-watch : goal.invariant-loop-watch
invariant-loop-watch l = l.kept ≡ stepped ticked l.watch-index l.fn.kept
