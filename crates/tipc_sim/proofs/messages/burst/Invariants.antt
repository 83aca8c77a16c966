use Rattle.std.proofs.Common.{◌≡◌}
use Rattle.tipc_types.specs.declared.node_calls.EventNote.TheVariants as call
use Rattle.tipc_replay.specs.declared.events.WorldEvent.TheVariants as event
use Rattle.tipc_world.specs.Courses.{Continues}
use Rattle.tipc_sim.specs.Messages.{MakesTurns}
use Rattle.tipc_sim.proofs.messages.burst.Given as goal

abbrev pub invariant-loop : goal.invariant-loop
invariant-loop g l = record {
  counted : l.moved ≡ l.counter;
  made : MakesTurns l.message (event.Call l.at.node (call.Receive l.at.port)) l.fn.first l.fn.world.state l.counter l.places l.world.state;
  continues : Continues g.P.Pick.gives l.fn.world l.world;
}
