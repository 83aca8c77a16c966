use Rattle.std.proofs.Common.{◌≡◌, ◌∙◌, true, None, is_some, sym, subst, ap}
use Rattle.tipc_outside.specs.Frames.{AddsFirst}
use Rattle.tipc_link_fsm.specs.Table.{on_tick}
use Rattle.tipc_link_fsm.proofs.Moves.{on_tick_moves}
use Rattle.tipc_link.specs.Links.{LinkEnd, after, frames}
use Rattle.tipc_pair.specs.Courses.{LeavingState}
use Rattle.tipc_pair.specs.Facing.{PairEnds, with_near}
use Rattle.tipc_pair.specs.PairCalls.{tick_at}
use Rattle.tipc_pair.proofs.EndFacts.{near_changed}
use Rattle.tipc_pair.proofs.EndSteps.{end_after, fsm_after, has_changed, some_after}
use Rattle.tipc_pair.proofs.Falls.{on_tick_falls}
use Rattle.tipc_pair.proofs.Steppings.{course_adds, course_after, stepped_adds, stepped_after, ticked_is}
use Rattle.tipc_pair.proofs.link_ends.LinkEnds.tick_near.Goals as goal

pub invariant_of-self-2 : goal.invariant_of-self-2
invariant_of-self-2 c =
    let e = c.in-Some.link in
    let o = on_tick e.fsm c.far_is_up-held.result in
    near_changed _ e c.tick-change.new.self (after e o) c.self.invariant c.in-Some.is c.tick-change.ensures.after
    (λ own peer contact seen bearer h. end_after own peer contact seen bearer e None o h (on_tick_moves e.fsm c.far_is_up-held.result None))

pub follow-requires : goal.follow-requires
follow-requires c =
    let e = c.in-Some.link in
    let held = c.far_is_up-held.result in
    let o = on_tick e.fsm held in
    has_changed _ e c.tick-change.new.self None o c.tick-change.result c.self.invariant c.in-Some.is (on_tick_moves e.fsm held None) (on_tick_falls e.fsm held)
    c.tick-change.ensures.change (ap (λ (d : LinkEnd). d.fsm) c.tick-change.ensures.after ∙ fsm_after e o)
    (λ some. subst (λ (d : LinkEnd). is_some d.session ≡ true) (sym c.tick-change.ensures.after) (some_after e o some))

pub returns-clause-after : goal.returns-clause-after
returns-clause-after c =
    let x = c.args.self.now in
    let e = c.in-Some.link in
    let held = c.far_is_up-held.result in
    course_after c.follow.result c.follow.new.self _ (tick_at c.args.shown x x.near)
    (ticked_is x e held c.args.shown (sym (ap (λ (v : PairEnds). v.near) c.self.view_is) ∙ c.in-Some.is) c.far_is_up-held.ensures)
    (stepped_after c.follow.result x _ c.follow.new.self e c.tick-change.new.self (on_tick e.fsm held) c.tick-change.result 0 c.args.shown
    (ap (λ (v : PairEnds). with_near v c.tick-change.new.self) c.self.view_is) c.tick-change.ensures.after c.tick-change.ensures.change c.follow.ensures.after)

pub returns-clause-adds : goal.returns-clause-adds
returns-clause-adds c =
    let x = c.args.self.now in
    let e = c.in-Some.link in
    let held = c.far_is_up-held.result in
    course_adds c.follow.result c.args.event.now c.follow.new.event _ (tick_at c.args.shown x x.near)
    (ticked_is x e held c.args.shown (sym (ap (λ (v : PairEnds). v.near) c.self.view_is) ∙ c.in-Some.is) c.far_is_up-held.ensures)
    (stepped_adds c.follow.result c.args.event.now _ c.follow.new.event x _ e c.tick-change.new.self (on_tick e.fsm held) c.tick-change.result 0 c.args.shown
    (ap (λ (v : PairEnds). with_near v c.tick-change.new.self) c.self.view_is) c.tick-change.ensures.after c.tick-change.ensures.change c.follow.ensures.adds
    (ap (λ (l : LeavingState). l.changes) c.event.view_is) (subst (λ (l : LeavingState). AddsFirst l.out c.tick-change.new.out (frames e (on_tick e.fsm held) c.args.shown)) c.event.view_is c.tick-change.ensures.frames))
