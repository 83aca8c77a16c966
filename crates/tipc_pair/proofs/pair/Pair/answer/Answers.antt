use Rattle.std.proofs.Common.{refl, subst, sym}
use Rattle.tipc_pair.proofs.HeldCalls.{answered_right}
use Rattle.tipc_pair.proofs.HeldLaws.{rightly_facing}
use Rattle.tipc_pair.specs.PairFacts.{AreHeldRightly}
use Rattle.tipc_pair.proofs.pair.Pair.answer.Goals as goal

pub invariant_of-self : goal.invariant_of-self
invariant_of-self c =
    let faced = subst AreHeldRightly (sym c.face.ensures.after) (rightly_facing c.args.bearer c.self.inside.ends c.self.invariant.1) in
    let answered = subst AreHeldRightly (sym c.answer.ensures.after) (answered_right c.face.new.self c.face.new.self.near c.args.broadcast c.args.due c.args.shown refl faced) in
    (c.face-2.ensures.bearer, subst AreHeldRightly (sym c.face-2.ensures.after) (rightly_facing 0 c.answer.new.self answered))
