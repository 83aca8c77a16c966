use Rattle.std.proofs.Common.{◌∙◌, sym, subst, ap}
use Rattle.tipc_pair.specs.Facing.{PairEnds, other, with_far}
use Rattle.tipc_pair.specs.PairOpenings.{Frees, told_by}
use Rattle.tipc_pair.proofs.Openings.{far_taken, frees_none, frees_some}
use Rattle.tipc_pair.proofs.link_ends.LinkEnds.take_carried.Goals as goal

pub returns-in_default : goal.returns-in_default
returns-in_default c =
    let x = c.args.self.now in
    let t = told_by (other x.bearer) c.args.carried in
    let b = c.take_far_down.new.event in
    subst (λ (y : PairEnds). Frees x t c.args.carried.by c.new.result y c.args.event.now b) (sym c.self.view_is)
    (frees_none x c.take_far_down.new.self t c.args.carried.by c.new.result c.args.event.now b c.in_ok-take_far_down.ensures.after c.in_ok-take_far_down.ensures.adds
    (sym (ap (λ (v : PairEnds). v.far) c.self.view_is) ∙ c.in_default.is) c.new.ensures)

pub invariant_of-self-2 : goal.invariant_of-self-2
invariant_of-self-2 c =
    let bearer = other c.args.self.now.bearer in
    far_taken c.take_inner.result _ c.in-Some.link c.take_inner.new.link (told_by bearer c.args.carried) c.args.carried.by c.self.invariant c.in-Some.is (c.take_inner.ensures.after bearer) c.take_inner.ensures.err

pub returns : goal.returns
returns c =
    let x = c.args.self.now in
    let bearer = other x.bearer in
    frees_some x c.take_far_down.new.self _ c.in-Some.link c.take_inner.new.link (told_by bearer c.args.carried) c.args.carried.by c.in_ok-freed.freed c.args.event.now c.take_far_down.new.event
    c.in_ok-take_far_down.ensures.after c.in_ok-take_far_down.ensures.adds (sym (ap (λ (v : PairEnds). v.far) c.self.view_is) ∙ c.in-Some.is) (c.in_ok-freed.ensures.freed bearer)
    (c.in_ok-freed.ensures.after bearer) (ap (λ (v : PairEnds). with_far v c.take_inner.new.link) c.self.view_is)
