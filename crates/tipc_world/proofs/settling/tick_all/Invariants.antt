use Rattle.std.proofs.Common.{ℕ}
use Rattle.tipc_world.specs.Courses.{Continues, Goes}
use Rattle.tipc_world.specs.Settling.{tick_asked}
use Rattle.tipc_world.proofs.settling.tick_all.Given as goal

abbrev pub invariant-loop-node : goal.invariant-loop-node
invariant-loop-node g l = record {
  goes : (count : ℕ) × Goes tick_asked 1 l.fn.world.state l.node count l.world.state;
  continues : Continues g.P.Pick.gives l.fn.world l.world;
}
