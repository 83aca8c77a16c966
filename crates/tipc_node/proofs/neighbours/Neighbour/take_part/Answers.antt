use Rattle.std.proofs.Common.{ap, ◌∙◌}
use Rattle.std.specs.Prelude.{List}
use Rattle.tipc_pair.specs.declared.transitions.Transition.{Transition}
use Rattle.tipc_node.specs.declared.neighbours.Neighbour.{Neighbour}
use Rattle.tipc_node.specs.Neighbours.{casts_after, course_of, with_casts, with_pair}
use Rattle.tipc_node.proofs.neighbours.Neighbour.take_part.Goals as goal

pub returns-clause-after : goal.returns-clause-after
returns-clause-after c =
    let x = c.args.self.now in
    let course = course_of c.args.upkeep c.args.shown x in
    c.begin_anew.ensures
    ∙ ap (λ (y : Neighbour). with_casts y (casts_after y.casts c.as_slice.result.now)) c.in_ok-changes.ensures.after
    ∙ ap (λ (cs : List Transition). with_casts (with_pair x course.pair) (casts_after x.casts cs)) (c.as_slice.ensures ∙ c.in_ok-changes.ensures.changes)
