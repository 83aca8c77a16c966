use Rattle.std.proofs.Common.{◌≡◌, ◌∙◌, true, None, is_some, sym, subst, ap}
use Rattle.tipc_outside.specs.Frames.{AddsFirst}
use Rattle.tipc_link_fsm.specs.Table.{on_reset}
use Rattle.tipc_link_fsm.proofs.Moves.{on_reset_moves}
use Rattle.tipc_link.specs.Links.{LinkEnd, after, frames}
use Rattle.tipc_pair.specs.Courses.{LeavingState}
use Rattle.tipc_pair.specs.Facing.{PairEnds, with_near}
use Rattle.tipc_pair.proofs.Arrivings.{reset_does}
use Rattle.tipc_pair.proofs.EndFacts.{near_changed}
use Rattle.tipc_pair.proofs.EndSteps.{end_after, fsm_after, has_changed, some_after}
use Rattle.tipc_pair.proofs.Falls.{on_reset_falls}
use Rattle.tipc_pair.proofs.link_ends.LinkEnds.give_reset.Goals as goal

pub invariant_of-self-2 : goal.invariant_of-self-2
invariant_of-self-2 c =
    let e = c.in-Some.link in
    let o = on_reset e.fsm c.args.sender_epoch c.args.held in
    near_changed _ e c.reset-arrival.new.self (after e o) c.self.invariant c.in-Some.is c.reset-arrival.ensures.after
    (λ own peer contact seen bearer h. end_after own peer contact seen bearer e None o h (on_reset_moves e.fsm c.args.sender_epoch c.args.held None))

pub follow-requires : goal.follow-requires
follow-requires c =
    let e = c.in-Some.link in
    let o = on_reset e.fsm c.args.sender_epoch c.args.held in
    has_changed _ e c.reset-arrival.new.self None o c.reset-arrival.result.change c.self.invariant c.in-Some.is (on_reset_moves e.fsm c.args.sender_epoch c.args.held None)
    (on_reset_falls e.fsm c.args.sender_epoch c.args.held) c.reset-arrival.ensures.change (ap (λ (d : LinkEnd). d.fsm) c.reset-arrival.ensures.after ∙ fsm_after e o)
    (λ some. subst (λ (d : LinkEnd). is_some d.session ≡ true) (sym c.reset-arrival.ensures.after) (some_after e o some))

pub returns-clause-does : goal.returns-clause-does
returns-clause-does c =
    let x = c.args.self.now in
    let e = c.in-Some.link in
    reset_does x _ c.follow.new.self e c.reset-arrival.new.self c.args.sender_epoch c.args.held c.args.shown c.reset-arrival.result.change c.reset-arrival.result.outcome c.args.event.now _ c.follow.new.event
    (sym (ap (λ (v : PairEnds). v.near) c.self.view_is) ∙ c.in-Some.is) (ap (λ (v : PairEnds). with_near v c.reset-arrival.new.self) c.self.view_is) c.reset-arrival.ensures.after
    c.reset-arrival.ensures.change c.reset-arrival.ensures.outcome c.in_ok-follow.ensures.after c.in_ok-follow.ensures.adds (ap (λ (l : LeavingState). l.changes) c.event.view_is)
    (subst (λ (l : LeavingState). AddsFirst l.out c.reset-arrival.new.out (frames e (on_reset e.fsm c.args.sender_epoch c.args.held) c.args.shown)) c.event.view_is c.reset-arrival.ensures.frames)
