use Rattle.std.proofs.Common.{◌≡◌, ◌≤◌, ◌∙◌, ap, subst, sym}
use Rattle.tipc_pair.specs.Changeovers.{at_far, release_near, released}
use Rattle.tipc_pair.specs.Courses.{AddsCourse, Course}
use Rattle.tipc_pair.specs.Facing.{PairEnds, is_held_at, turned}
use Rattle.tipc_pair.proofs.CourseLaws.{adds_course}
use Rattle.tipc_pair.proofs.Followings.{adds_rests}
use Rattle.tipc_pair.proofs.Unheld.{released_rests}
use Rattle.tipc_pair.proofs.link_ends.LinkEnds.release.Goals as goal

pub returns-clause-adds : goal.returns-clause-adds
unfolding released
returns-clause-adds c =
    let x = c.args.self.now in
    let one = c.release_near.new.event in
    let two = c.release_near-2.new.event in
    let far : c.turn.new.self ≡ turned (release_near x).pair = c.turn.ensures ∙ ap turned c.release_near.ensures.after in
    let k : AddsCourse one two (release_near (turned (release_near x).pair)) = subst (λ (y : PairEnds). AddsCourse one two (release_near y)) far c.release_near-2.ensures.adds in
    let second : AddsCourse one two (at_far release_near (release_near x).pair) = record { changes = k.changes; made = k.made } in
    adds_course c.args.event.now one two (release_near x) (at_far release_near) c.release_near.ensures.adds second

pub returns-then-not-is_held-2-clause-after : goal.returns-then-not-is_held-2-clause-after
returns-then-not-is_held-2-clause-after c =
    let is = c.self.view_is in
    let near = ap (λ (y : PairEnds). is_held_at y.near) (sym is) ∙ (sym c.is_held.ensures ∙ c.if-not-is_held.true) in
    let far = ap (λ (y : PairEnds). is_held_at y.far) (sym is) ∙ (sym c.is_held-then-not-is_held.ensures ∙ c.if-not-is_held-2.true) in
    let two = subst (λ (y : PairEnds). y.bearer ≤ 1) is c.self.invariant.two_bearers in
    sym (ap (λ (r : Course). r.pair) (released_rests c.args.self.now two near far))

pub returns-then-not-is_held-2-clause-adds : goal.returns-then-not-is_held-2-clause-adds
returns-then-not-is_held-2-clause-adds c =
    let x = c.args.self.now in
    let is = c.self.view_is in
    let near = ap (λ (y : PairEnds). is_held_at y.near) (sym is) ∙ (sym c.is_held.ensures ∙ c.if-not-is_held.true) in
    let far = ap (λ (y : PairEnds). is_held_at y.far) (sym is) ∙ (sym c.is_held-then-not-is_held.ensures ∙ c.if-not-is_held-2.true) in
    let two = subst (λ (y : PairEnds). y.bearer ≤ 1) is c.self.invariant.two_bearers in
    subst (AddsCourse c.args.event.now c.args.event.now) (sym (released_rests x two near far)) (adds_rests c.args.event.now x)
