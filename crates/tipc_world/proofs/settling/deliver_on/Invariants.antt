use Rattle.std.proofs.Common.{ℕ, ◌*◌}
use Rattle.tipc_world.specs.declared.settling.Receivers.TheVariants.{Any}
use Rattle.tipc_world.specs.Courses.{numbers, Continues, Goes}
use Rattle.tipc_world.specs.Settling.{arrival_asked}
use Rattle.tipc_world.proofs.settling.deliver_on.Given as goal

abbrev pub invariant-loop-place : goal.invariant-loop-place
invariant-loop-place g l = record {
  goes : (count : ℕ) × Goes (arrival_asked Any l.bearer) (numbers * l.first) l.fn.world.state (numbers * l.place) count l.world.state;
  continues : Continues g.P.Pick.gives l.fn.world l.world;
}
