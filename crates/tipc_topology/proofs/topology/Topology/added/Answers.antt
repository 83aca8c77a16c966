use Rattle.std.proofs.Common.{◌≤◌, sym, subst}
use Rattle.tipc_topology.specs.Changing.{Watchers}
use Rattle.tipc_topology.proofs.Kept.{room_for}
use Rattle.tipc_topology.proofs.topology.Topology.added.Goals as goal

pub add-requires : goal.add-requires
add-requires c = subst (λ (t : Watchers). 1 ≤ t.room) (sym c.in_ok-make_room.ensures.ok) (room_for 1 c.args.self.now)
