use Rattle.tipc_live.specs.Following.{AreTurned}
use Rattle.tipc_live.proofs.Course.{IsOnCourse}
use Rattle.tipc_live.proofs.following.follow_all.Given as goal

abbrev pub invariant-loop-step : goal.invariant-loop-step
invariant-loop-step g l =
    IsOnCourse g.P.Pick.gives l.nodes l.steps l.replay l.step-index × AreTurned (λ p. p.now) l.nodes l.replay l.choosers
