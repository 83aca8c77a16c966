use Rattle.std.proofs.Common.{◌≡◌}
use Rattle.tipc_topology.specs.Watchers.{with_room}
use Rattle.tipc_topology.proofs.Each.{stepped}
use Rattle.tipc_topology.proofs.topology.make_room_in_each.Given as goal

abbrev pub invariant-loop-watch : goal.invariant-loop-watch
invariant-loop-watch l = l.kept ≡ stepped (with_room l.additions) l.watch-index l.fn.kept
