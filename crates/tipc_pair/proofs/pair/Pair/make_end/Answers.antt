use Rattle.std.proofs.Common.{◌≡◌, ◌∙◌, None, ap, subst, sym}
use Rattle.tipc_pair.proofs.HeldCalls.{made_right}
use Rattle.tipc_pair.proofs.HeldLaws.{rightly_facing}
use Rattle.tipc_pair.specs.Facing.{PairEnds, facing}
use Rattle.tipc_pair.specs.PairFacts.{AreHeldRightly}
use Rattle.tipc_pair.proofs.pair.Pair.make_end.Goals as goal

pub invariant_of-self : goal.invariant_of-self
invariant_of-self c =
    let faced = subst AreHeldRightly (sym c.face.ensures.after) (rightly_facing c.args.bearer c.self.inside.ends c.self.invariant.1) in
    let none : c.face.new.self.near ≡ None = ap (λ (x : PairEnds). x.near) (c.face.ensures.after ∙ ap (facing c.args.bearer) c.self.view_is) ∙ c.requires.none in
    let made = subst AreHeldRightly (sym c.make.ensures) (made_right c.face.new.self none faced) in
    (c.face-2.ensures.bearer, subst AreHeldRightly (sym c.face-2.ensures.after) (rightly_facing 0 c.make.new.self made))
