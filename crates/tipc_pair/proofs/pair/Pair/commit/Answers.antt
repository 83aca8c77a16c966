use Rattle.std.proofs.Common.{◌∙◌, sym, subst, ap}
use Rattle.tipc_header.specs.Spelling.{view}
use Rattle.tipc_pair.specs.Courses.{made_in}
use Rattle.tipc_pair.specs.Facing.{facing}
use Rattle.tipc_pair.specs.PairArrivals.{Arrives}
use Rattle.tipc_pair.specs.PairFacts.{AreHeldRightly}
use Rattle.tipc_pair.specs.Preparing.{IsPrepared, Prepared}
use Rattle.tipc_pair.proofs.ArrivalLaws.{GoesFar, arrival_far, arrival_held, facing_far_from, far_facing}
use Rattle.tipc_pair.proofs.HeldLaws.{held_facing, held_up, rightly_facing}
use Rattle.tipc_pair.proofs.pair.Pair.commit.Goals as goal

pub invariant_of-self : goal.invariant_of-self
invariant_of-self c =
    let q = c.requires in
    let a = c.arriving.inside in
    let x = c.self.inside.ends in
    let p = view c.args.packet.now in
    let told = subst (λ (v : Prepared). IsPrepared (facing v.bearer c.args.self.now) q.0 q.1 p q.2 c.args.shown v.way v.outcome) (sym c.arriving.view_is) q.3.told in
    let prepared = subst (λ y. IsPrepared (facing a.bearer y) q.0 q.1 p q.2 c.args.shown a.way a.outcome) (sym c.self.view_is) told in
    let h = c.commit-event.ensures.told q.0 q.1 q.2 a.outcome prepared in (
      c.commit-event.ensures.bearer ∙ c.self.invariant.0,
      subst AreHeldRightly (sym h.2)
          (rightly_facing x.bearer h.0.pair (arrival_held (facing a.bearer x) q.0 q.1 p q.2 c.args.shown h.0 a.outcome h.1 (held_facing a.bearer x (held_up x c.self.invariant.1)))),
    )

pub returns-clause-goes_on : goal.returns-clause-goes_on
returns-clause-goes_on c = λ was now same.
    let q = c.requires in
    let a = c.arriving.inside in
    let x = c.args.self.now in
    let p = view c.args.packet.now in
    let told = subst (λ (v : Prepared). IsPrepared (facing v.bearer x) q.0 q.1 p q.2 c.args.shown v.way v.outcome) (sym c.arriving.view_is) q.3.told in
    let prepared = subst (λ y. IsPrepared (facing a.bearer y) q.0 q.1 p q.2 c.args.shown a.way a.outcome) (sym c.self.view_is) told in
    let h = c.commit-event.ensures.told q.0 q.1 q.2 a.outcome prepared in
    let arrives = subst (λ y. Arrives (facing a.bearer y) q.0 q.1 p q.2 c.args.shown h.0 a.outcome) c.self.view_is h.1 in
    let far : GoesFar x c.commit-event.new.self = subst (GoesFar x) (sym (h.2 ∙ ap (λ n. facing n h.0.pair) c.self.invariant.0))
    (far_facing 0 x h.0.pair (facing_far_from a.bearer x h.0.pair (arrival_far (facing a.bearer x) q.0 q.1 p q.2 c.args.shown h.0 a.outcome arrives))) in
    far.contact same now

pub returns-clause-arrives : goal.returns-clause-arrives
returns-clause-arrives c = λ es er by told.
    let a = c.arriving.inside in
    let x = c.args.self.now in
    let p = view c.args.packet.now in
    let whole = subst (λ (v : Prepared). IsPrepared (facing v.bearer x) es er p by c.args.shown v.way v.outcome) (sym c.arriving.view_is) told.told in
    let prepared = subst (λ y. IsPrepared (facing a.bearer y) es er p by c.args.shown a.way a.outcome) (sym c.self.view_is) whole in
    let h = c.commit-event.ensures.told es er by a.outcome prepared in
    let arrives = subst (λ y. Arrives (facing a.bearer y) es er p by c.args.shown h.0 a.outcome) c.self.view_is h.1 in (
      h.0,
      subst (λ b. Arrives (facing b x) es er p by c.args.shown h.0 a.outcome) (ap (λ (v : Prepared). v.bearer) c.arriving.view_is) arrives,
      h.2 ∙ ap (λ n. facing n h.0.pair) c.self.invariant.0,
      c.leave-changes.ensures.changes ∙ h.3.changes,
      c.leave-changes.ensures.frames (made_in h.0) h.3.made,
    )
