use Rattle.std.proofs.Common.{◌≡◌, false, subst, sym}
use Rattle.tipc_replay.specs.States.{ReplayState}
use Rattle.tipc_world.specs.Answered.{AreOrderly}
use Rattle.tipc_world.specs.States.{WorldView, is_there}
use Rattle.tipc_world.specs.Steady.{IsSteady}
use Rattle.tipc_world.proofs.Advancing.{world_of}
use Rattle.tipc_world.proofs.Boots.{steady_joined}
use Rattle.tipc_world.proofs.calls.Quiet.{joined_orderly}
use Rattle.tipc_world.proofs.Staying.{absent_at}
use Rattle.tipc_world.proofs.worlds.World.join.Goals as goal

pub invariant_of-self-2 : goal.invariant_of-self-2
invariant_of-self-2 g c =
    let w = c.self.inside in
    let joins = c.in_ok-add_node.ensures.joins.joins in
    let absent = absent_at (world_of w.replay w.events w.stamps) c.args.n (subst (λ (o : WorldView _). is_there o.state c.args.n ≡ false) (sym c.self.view_is) c.requires.absent) in (
      steady_joined _ _ c.args.n _ _ joins c.self.invariant.0,
      joined_orderly g.P.Pick.gives _ _ c.args.n _ _ absent joins c.self.invariant.1,
    )

pub invariant_of-self : goal.invariant_of-self
invariant_of-self g c =
    let w = c.self.inside in
    subst (λ (r : ReplayState). IsSteady r.members w.events w.stamps × AreOrderly g.P.Pick.gives r.members w.stamps w.chooser) (sym c.in_err-add_node.ensures.err) c.self.invariant
