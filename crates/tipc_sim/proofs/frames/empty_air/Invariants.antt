use Rattle.std.proofs.Common.{◌-◌, ◌*◌, ◌≤◌, max, length}
use Rattle.tipc_replay.specs.Skies.{air_on}
use Rattle.tipc_world.specs.Courses.{numbers, Continues, Goes}
use Rattle.tipc_world.specs.Settling.{arrival_asked}
use Rattle.tipc_sim.proofs.frames.empty_air.Given as goal

abbrev pub decreases-loop-place : goal.decreases-loop-place
decreases-loop-place g l = max 100000 (length (air_on l.bearer l.fn.world.state.air)) - l.place

abbrev pub invariant-loop-place : goal.invariant-loop-place
invariant-loop-place g l = record {
  goes : Goes (arrival_asked l.among l.bearer) (numbers * l.first) l.fn.world.state (numbers * l.place) l.count l.world.state;
  continues : Continues g.P.Pick.gives l.fn.world l.world;
  fewer : l.count ≤ numbers * l.place;
  few : length (air_on l.bearer l.world.state.air) ≤ max 100000 (length (air_on l.bearer l.fn.world.state.air));
}
