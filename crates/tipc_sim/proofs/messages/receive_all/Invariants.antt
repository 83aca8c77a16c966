use Rattle.std.proofs.Common.{◌≤◌, ◌-◌}
use Rattle.tipc_types.specs.declared.node_calls.EventNote.TheVariants as call
use Rattle.tipc_replay.specs.declared.events.WorldEvent.TheVariants as event
use Rattle.tipc_world.specs.Courses.{Continues}
use Rattle.tipc_sim.specs.Messages.{is_message, Repeats}
use Rattle.tipc_sim.proofs.messages.receive_all.Given as goal

abbrev pub decreases-loop-answer : goal.decreases-loop-answer
decreases-loop-answer g l = 300000 - l.world.state.events

abbrev pub invariant-loop-answer : goal.invariant-loop-answer
invariant-loop-answer g l = record {
  passed : Repeats (event.Call l.at.node (call.Receive l.at.port)) is_message l.fn.world.state l.count l.world.state;
  continues : Continues g.P.Pick.gives l.fn.world l.world;
  fewer : l.count ≤ l.world.state.events;
}
