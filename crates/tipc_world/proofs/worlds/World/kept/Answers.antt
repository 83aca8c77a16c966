use Rattle.std.proofs.Common.{subst}
use Rattle.tipc_world.specs.RoundParts.{IsKept}
use Rattle.tipc_world.specs.States.{WorldView}
use Rattle.tipc_world.proofs.Advancing.{world_of}
use Rattle.tipc_world.proofs.worlds.World.kept.Goals as goal

pub returns : goal.returns
returns g c =
    let w = c.self.inside in
    let now : WorldView _ = record { state = world_of w.replay w.events w.stamps; chooser = w.chooser } in
    subst (λ (v : WorldView _). IsKept v.state) c.self.view_is (record { nodes = c.steady.ensures; counts = c.self.invariant.0 })
