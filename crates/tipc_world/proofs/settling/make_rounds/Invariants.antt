use Rattle.tipc_world.specs.Courses.{Continues}
use Rattle.tipc_world.specs.Ends.{ends_of, AreBefore}
use Rattle.tipc_world.specs.Settling.{Rounds}
use Rattle.tipc_world.proofs.settling.make_rounds.Given as goal

abbrev pub invariant-loop : goal.invariant-loop
invariant-loop g l = record {
  made : Rounds l.fn.world.state l.counter l.places l.world.state;
  continues : Continues g.P.Pick.gives l.fn.world l.world;
  within : AreBefore l.places (ends_of l.world.state.air);
}
