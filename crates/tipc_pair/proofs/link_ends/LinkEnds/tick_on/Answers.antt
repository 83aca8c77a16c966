use Rattle.std.proofs.Common.{◌∙◌, ap}
use Rattle.tipc_pair.specs.Facing.{PairEnds, facing}
use Rattle.tipc_pair.specs.PairCalls.{tick_near}
use Rattle.tipc_pair.proofs.Steppings.{at_bearer_adds, at_bearer_after}
use Rattle.tipc_pair.proofs.link_ends.LinkEnds.tick_on.Goals as goal

pub returns-clause-after : goal.returns-clause-after
returns-clause-after c =
    at_bearer_after c.args.bearer c.args.self.now c.face.new.self c.tick_near.new.self c.face-2.new.self (tick_near c.args.shown) c.face.ensures.after c.in_ok-tick_near.ensures.after
    (c.face-2.ensures.after ∙ ap (λ (v : PairEnds). facing v.bearer c.tick_near.new.self) c.self.view_is)

pub returns-clause-adds : goal.returns-clause-adds
returns-clause-adds c =
    at_bearer_adds c.args.bearer c.args.event.now c.tick_near.new.event c.args.self.now c.face.new.self (tick_near c.args.shown) c.face.ensures.after c.in_ok-tick_near.ensures.adds
