use Rattle.std.proofs.Common.{subst}
use Rattle.tipc_world.specs.Good.{IsGood}
use Rattle.tipc_world.specs.States.{WorldView}
use Rattle.tipc_world.proofs.Advancing.{world_of}
use Rattle.tipc_world.proofs.Promise.{is_good}
use Rattle.tipc_world.proofs.worlds.World.good.Goals as goal

pub returns : goal.returns
returns g c =
    let w = c.self.inside in
    let now : WorldView _ = record { state = world_of w.replay w.events w.stamps; chooser = w.chooser } in
    subst (IsGood g.P.Pick.gives) c.self.view_is (is_good g.P.Pick.gives now c.good.ensures c.self.invariant.1)
