use Rattle.std.proofs.Common.{◌∙◌, subst, ap}
use Rattle.tipc_pair.specs.Courses.{AddsCourse}
use Rattle.tipc_pair.specs.Facing.{PairEnds, turned}
use Rattle.tipc_pair.specs.PairArrivals.{tunnelled_at}
use Rattle.tipc_pair.proofs.link_ends.LinkEnds.take_original.Goals as goal

pub returns-clause-after : goal.returns-clause-after
returns-clause-after c =
    c.turn-2.ensures ∙ (ap turned c.in_ok-take_down.ensures.after ∙ ap (λ (y : PairEnds). turned (tunnelled_at c.args.epoch y y.near).pair) c.turn.ensures)

pub returns-clause-adds : goal.returns-clause-adds
returns-clause-adds c =
    let k = subst (λ (y : PairEnds). AddsCourse c.args.event.now c.take_down.new.event (tunnelled_at c.args.epoch y y.near)) c.turn.ensures c.in_ok-take_down.ensures.adds in
    record { changes = k.changes; made = k.made }
