use Rattle.std.proofs.Common.{◌+◌, ◌*◌, ◌≤◌}
use Rattle.tipc_world.specs.Courses.{numbers, Continues, Goes}
use Rattle.tipc_world.specs.Settling.{arrival_asked}
use Rattle.tipc_world.proofs.worlds.World.reach_each.Given as goal

abbrev pub invariant-loop-node : goal.invariant-loop-node
invariant-loop-node g l = record {
  goes : Goes (arrival_asked l.among l.bearer) (numbers * l.place) l.fn.self.state (numbers * l.place + l.node) l.count l.self.state;
  few : l.count ≤ l.node;
  continues : Continues g.P.Pick.gives l.fn.self l.self;
}
