use Rattle.std.proofs.Common.{◌<◌, ◌-◌}
use Rattle.tipc_world.specs.Courses.{Continues}
use Rattle.tipc_sim.specs.Messages.{is_sent, Repeats}
use Rattle.tipc_sim.proofs.messages.repeat.Given as goal

abbrev pub decreases-loop-last : goal.decreases-loop-last
decreases-loop-last g l = l.times - l.sent

abbrev pub invariant-loop-last : goal.invariant-loop-last
invariant-loop-last g l = record {
  passed : Repeats l.message is_sent l.fn.world.state l.sent l.world.state;
  continues : Continues g.P.Pick.gives l.fn.world l.world;
  fewer : l.sent < l.times;
}
