use Rattle.std.proofs.Common.{◌≡◌, ◌∙◌, true, None, is_some, sym, subst, ap}
use Rattle.tipc_link_fsm.specs.Table.{on_cut}
use Rattle.tipc_link_fsm.proofs.Moves.{on_cut_moves}
use Rattle.tipc_link.specs.Links.{LinkEnd, cut_end}
use Rattle.tipc_pair.specs.Facing.{PairEnds, with_near}
use Rattle.tipc_pair.specs.PairCalls.{cut_at}
use Rattle.tipc_pair.proofs.EndFacts.{near_changed}
use Rattle.tipc_pair.proofs.EndSteps.{end_cut, has_changed}
use Rattle.tipc_pair.proofs.Falls.{on_cut_falls}
use Rattle.tipc_pair.proofs.Steppings.{course_adds, course_after, cut_is}
use Rattle.tipc_pair.proofs.link_ends.LinkEnds.cut_link.Goals as goal

pub invariant_of-self-2 : goal.invariant_of-self-2
invariant_of-self-2 c =
    let e = c.in-Some.link in
    let held = c.far_is_up-held.result in
    near_changed _ e c.cut-change.new.self (cut_end e held) c.self.invariant c.in-Some.is c.cut-change.ensures.after
    (λ own peer contact seen bearer h. end_cut own peer contact seen bearer e held h)

pub follow-requires : goal.follow-requires
follow-requires c =
    let e = c.in-Some.link in
    let held = c.far_is_up-held.result in
    has_changed _ e c.cut-change.new.self None (on_cut e.fsm held) c.cut-change.result c.self.invariant c.in-Some.is (on_cut_moves e.fsm held None) (on_cut_falls e.fsm held)
    c.cut-change.ensures.change (ap (λ (d : LinkEnd). d.fsm) c.cut-change.ensures.after) (λ some. subst (λ (d : LinkEnd). is_some d.session ≡ true) (sym c.cut-change.ensures.after) some)

pub returns-clause-after : goal.returns-clause-after
returns-clause-after c =
    let x = c.args.self.now in
    let e = c.in-Some.link in
    course_after c.follow.result c.follow.new.self _ (cut_at x x.near)
    (cut_is x _ e c.cut-change.new.self c.far_is_up-held.result c.cut-change.result (sym (ap (λ (v : PairEnds). v.near) c.self.view_is) ∙ c.in-Some.is) c.far_is_up-held.ensures
    (ap (λ (v : PairEnds). with_near v c.cut-change.new.self) c.self.view_is) c.cut-change.ensures.after c.cut-change.ensures.change) c.follow.ensures.after

pub returns-clause-adds : goal.returns-clause-adds
returns-clause-adds c =
    let x = c.args.self.now in
    let e = c.in-Some.link in
    course_adds c.follow.result c.args.event.now c.follow.new.event _ (cut_at x x.near)
    (cut_is x _ e c.cut-change.new.self c.far_is_up-held.result c.cut-change.result (sym (ap (λ (v : PairEnds). v.near) c.self.view_is) ∙ c.in-Some.is) c.far_is_up-held.ensures
    (ap (λ (v : PairEnds). with_near v c.cut-change.new.self) c.self.view_is) c.cut-change.ensures.after c.cut-change.ensures.change) c.follow.ensures.adds
