use Rattle.std.proofs.Common.{◌∙◌, sym, subst, ap}
use Rattle.tipc_pair.specs.Courses.{IsToldOf}
use Rattle.tipc_pair.specs.Facing.{facing}
use Rattle.tipc_pair.specs.PairCalls.{cut_near}
use Rattle.tipc_pair.proofs.Sendings.{told_alone}
use Rattle.tipc_pair.specs.PairFacts.{AreHeldRightly}
use Rattle.tipc_pair.proofs.HeldLaws.{GoesQuietly, HeldUp, cut_goes, cut_held, facing_quietly, held_facing, held_up, quietly_facing, rightly_facing}
use Rattle.tipc_pair.proofs.pair.Pair.cut_ends.Goals as goal

pub invariant_of-self : goal.invariant_of-self
invariant_of-self c =
    let x = c.self.inside.ends in
    let there = c.face.ensures.after ∙ ap (facing c.args.bearer) c.in_ok-next.ensures in (
      c.face-2.ensures.bearer,
      subst AreHeldRightly (sym (c.face-2.ensures.after ∙ ap (facing 0) c.in_ok-cut.ensures.after))
          (rightly_facing 0 (cut_near c.face.new.self).pair (cut_held c.face.new.self (subst HeldUp (sym there) (held_facing c.args.bearer x (held_up x c.self.invariant.1))))),
    )

pub returns-clause-told : goal.returns-clause-told
returns-clause-told c =
    let begun = c.new-event.ensures in
    let event = c.cut.new.event in
    let told = told_alone c.new-event.result event (cut_near c.face.new.self) begun.changes begun.out c.in_ok-cut.ensures.adds in
    let there = subst (λ y. IsToldOf (cut_near y) event) (c.face.ensures.after ∙ ap (facing c.args.bearer) (c.in_ok-next.ensures ∙ c.self.view_is)) told in
    record { changes = there.changes; made = there.made }

pub returns-clause-goes_on : goal.returns-clause-goes_on
returns-clause-goes_on c = λ was there.
    let x = c.args.self.now in
    let first = c.face.ensures.after ∙ ap (facing c.args.bearer) (c.in_ok-next.ensures ∙ c.self.view_is) in
    let goes : GoesQuietly x c.face-2.new.self = subst (GoesQuietly x) (sym (c.face-2.ensures.after ∙ ap (facing 0) c.in_ok-cut.ensures.after))
    (quietly_facing 0 x (cut_near c.face.new.self).pair (facing_quietly c.args.bearer x (cut_near c.face.new.self).pair
    (subst (λ y. GoesQuietly y (cut_near c.face.new.self).pair) first (cut_goes c.face.new.self)))) in
    goes.goes.contact there
