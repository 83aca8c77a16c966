use Rattle.std.proofs.Common.{subst, sym}
use Rattle.tipc_replay.specs.States.{ReplayState}
use Rattle.tipc_world.specs.Answered.{AreOrderly}
use Rattle.tipc_world.specs.Steady.{IsSteady}
use Rattle.tipc_world.proofs.Boots.{steady_start}
use Rattle.tipc_world.proofs.calls.Quiet.{start_orderly}
use Rattle.tipc_world.proofs.worlds.World.new.Goals as goal

pub invariant_of-world : goal.invariant_of-world
invariant_of-world g c =
    subst (λ (r : ReplayState). IsSteady r.members 0 0 × AreOrderly g.P.Pick.gives r.members 0 c.args.chooser) (sym c.new.ensures.empty)
    (steady_start, start_orderly g.P.Pick.gives c.args.chooser c.requires.start)
