use Rattle.std.proofs.Common.{◌∙◌, sym, subst, ap}
use Rattle.tipc_header.specs.Spelling.{view}
use Rattle.tipc_pair.specs.Courses.{made_in}
use Rattle.tipc_pair.specs.Facing.{facing}
use Rattle.tipc_pair.specs.PairArrivals.{Arrives}
use Rattle.tipc_pair.specs.PairFacts.{AreHeldRightly}
use Rattle.tipc_pair.proofs.ArrivalLaws.{GoesFar, arrival_far, arrival_held, facing_far_from, far_facing}
use Rattle.tipc_pair.proofs.HeldLaws.{held_facing, held_up, rightly_facing}
use Rattle.tipc_pair.proofs.pair.Pair.arrive.Goals as goal

pub returns-clause-ok : goal.returns-clause-ok
returns-clause-ok c =
    let h = c.commit-event.ensures.told c.args.incoming.now.sender_epoch c.args.incoming.now.receiver_epoch c.args.incoming.now.by c.in_ok-way.outcome c.in_ok-way.ensures.prepared in
    let course = h.0 in (
      course,
      subst (λ y. Arrives y c.args.incoming.now.sender_epoch c.args.incoming.now.receiver_epoch (view c.args.incoming.now.packet) c.args.incoming.now.by c.args.incoming.now.shown course c.in_ok-way.outcome) (ap (facing c.args.bearer) c.self.view_is) h.1,
      h.2 ∙ ap (λ n. facing n course.pair) c.self.invariant.0,
      c.leave-changes.ensures.changes ∙ h.3.changes,
      c.leave-changes.ensures.frames (made_in course) h.3.made,
    )

pub invariant_of-self : goal.invariant_of-self
invariant_of-self c =
    let i = c.args.incoming.now in
    let x = c.self.inside.ends in
    let h = c.commit-event.ensures.told i.sender_epoch i.receiver_epoch i.by c.in_ok-way.outcome c.in_ok-way.ensures.prepared in (
      c.commit-event.ensures.bearer ∙ c.self.invariant.0,
      subst AreHeldRightly (sym h.2)
          (rightly_facing x.bearer h.0.pair (arrival_held (facing c.args.bearer x) i.sender_epoch i.receiver_epoch (view i.packet) i.by i.shown h.0 c.in_ok-way.outcome h.1 (held_facing c.args.bearer x (held_up x c.self.invariant.1)))),
    )

pub returns-clause-goes_on : goal.returns-clause-goes_on
returns-clause-goes_on c = λ was now same.
    let h = c.commit-event.ensures.told c.args.incoming.now.sender_epoch c.args.incoming.now.receiver_epoch c.args.incoming.now.by c.in_ok-way.outcome c.in_ok-way.ensures.prepared in
    let x = c.args.self.now in
    let y = facing c.args.bearer x in
    let arrives = subst (λ z. Arrives z c.args.incoming.now.sender_epoch c.args.incoming.now.receiver_epoch (view c.args.incoming.now.packet) c.args.incoming.now.by c.args.incoming.now.shown h.0 c.in_ok-way.outcome) (ap (facing c.args.bearer) c.self.view_is) h.1 in
    let far : GoesFar x c.commit-event.new.self = subst (GoesFar x) (sym (h.2 ∙ ap (λ n. facing n h.0.pair) c.self.invariant.0))
    (far_facing 0 x h.0.pair (facing_far_from c.args.bearer x h.0.pair (arrival_far y c.args.incoming.now.sender_epoch c.args.incoming.now.receiver_epoch (view c.args.incoming.now.packet) c.args.incoming.now.by c.args.incoming.now.shown h.0 c.in_ok-way.outcome arrives))) in
    far.contact same now
