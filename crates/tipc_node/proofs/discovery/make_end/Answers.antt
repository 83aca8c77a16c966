use Rattle.std.proofs.Common.{◌≡◌, None, Some, ap, sym, subst, ◌∙◌}
use Rattle.std.proofs.lemmas.List.{set-set}
use Rattle.std.specs.Prelude.{slice_set, unwrap_or}
use Rattle.tipc_outside.specs.Frames.{AddsFirst}
use Rattle.tipc_pair.specs.Facing.{facing}
use Rattle.tipc_node.specs.declared.neighbours.Neighbour.{Neighbour}
use Rattle.tipc_node.specs.Drafts.{DraftState, with_neighbours_in}
use Rattle.tipc_node.specs.Neighbours.{making, with_pair, stranger}
use Rattle.tipc_node.specs.Nodes.{end_with}
use Rattle.tipc_node.proofs.pairs.Acquainting.{none_there}
use Rattle.tipc_node.proofs.discovery.make_end.Goals as goal

pub make-requires-clause-none : goal.make-requires-clause-none
make-requires-clause-none c =
    let a = c.args in
    let d = a.due.now in
    let alone = ap (end_with d.bearer) c.take_place-place.ensures.place ∙ c.requires.alone in
    subst (λ (x : Neighbour). (facing d.bearer x.pair).near ≡ None) (sym c.acquaintance-neighbour.ensures) (none_there a.own.word d.peer a.boot d.bearer c.take_place-place.result alone)

pub returns-clause-after : goal.returns-clause-after
returns-clause-after c =
    let a = c.args in
    let d = a.due.now in
    let xs = a.draft.now.work.neighbours in
    let met = c.acquaintance-neighbour.ensures ∙ ap (λ o. unwrap_or o (stranger a.own.word d.peer a.boot)) c.take_place-place.ensures.place in
    let made = c.make.ensures.after ∙ ap (λ (x : Neighbour). with_pair x (making d.bearer x).pair) met in
    let set : DraftState → DraftState = λ z. with_neighbours_in z (slice_set z.work.neighbours d.peer (Some c.make.new.self)) in
    c.set_place.ensures ∙ ap set c.take_place-place.ensures.after
    ∙ ap (with_neighbours_in a.draft.now) (set-set xs d.peer None (Some c.make.new.self) ∙ ap (λ y. slice_set xs d.peer (Some y)) made)

pub returns-clause-frames : goal.returns-clause-frames
returns-clause-frames c =
    let a = c.args in
    let d = a.due.now in
    let met = c.acquaintance-neighbour.ensures ∙ ap (λ o. unwrap_or o (stranger a.own.word d.peer a.boot)) c.take_place-place.ensures.place in
    subst (λ (x : Neighbour). AddsFirst a.event.now c.make.new.out (making d.bearer x).states) met c.make.ensures.frames
