use Rattle.std.proofs.Common.{◌∙◌, sym, subst, ap}
use Rattle.tipc_pair.specs.Courses.{IsToldOf}
use Rattle.tipc_pair.specs.Facing.{PairEnds}
use Rattle.tipc_pair.specs.PairCalls.{ticked}
use Rattle.tipc_pair.proofs.Sendings.{told_alone}
use Rattle.tipc_pair.specs.PairFacts.{AreHeldRightly}
use Rattle.tipc_pair.proofs.HeldLaws.{GoesQuietly, held_up, ticked_goes, ticked_held}
use Rattle.tipc_pair.proofs.pair.Pair.tick_ends.Goals as goal

pub invariant_of-self : goal.invariant_of-self
invariant_of-self c =
    let x = c.self.inside.ends in (
      c.in_ok-tick.ensures.bearer (ap (λ (v : PairEnds). v.bearer) c.in_ok-next.ensures ∙ c.self.invariant.0),
      subst AreHeldRightly (sym (c.in_ok-tick.ensures.after ∙ ap (λ y. (ticked c.args.shown y).pair) c.in_ok-next.ensures)) (ticked_held c.args.shown x (held_up x c.self.invariant.1)),
    )

pub returns-clause-told : goal.returns-clause-told
returns-clause-told c =
    let begun = c.new-event.ensures in
    let event = c.tick.new.event in
    subst (λ y. IsToldOf (ticked c.args.shown y) event) (c.in_ok-next.ensures ∙ c.self.view_is)
    (told_alone c.new-event.result event (ticked c.args.shown c.in_ok-next.next) begun.changes begun.out c.in_ok-tick.ensures.adds)

pub returns-clause-goes_on : goal.returns-clause-goes_on
returns-clause-goes_on c = λ was there.
    let x = c.args.self.now in
    let goes : GoesQuietly x c.tick.new.self =
    subst (GoesQuietly x) (sym (c.in_ok-tick.ensures.after ∙ ap (λ y. (ticked c.args.shown y).pair) (c.in_ok-next.ensures ∙ c.self.view_is))) (ticked_goes c.args.shown x) in
    goes.goes.contact there
