use Rattle.std.proofs.Common.{◌≡◌, ◌∙◌, true, Some, is_some, sym, subst, ap}
use Rattle.tipc_outside.specs.Frames.{Gains}
use Rattle.tipc_header.specs.Spelling.{view}
use Rattle.tipc_link.specs.Links.{LinkEnd, arrival_end, link_frames, outcome_of}
use Rattle.tipc_pair.specs.Courses.{LeavingState}
use Rattle.tipc_pair.specs.Facing.{PairEnds, with_near}
use Rattle.tipc_pair.specs.PairArrivals.{IsHeardAs, Heard}
use Rattle.tipc_pair.proofs.Arrivings.{met_does, met_near_is}
use Rattle.tipc_pair.proofs.EndFacts.{near_changed}
use Rattle.tipc_pair.proofs.EndSteps.{end_arrived, fsm_arrived, has_changed, outcome_falls, outcome_moves, some_arrived}
use Rattle.tipc_pair.proofs.link_ends.LinkEnds.meet.Goals as goal

pub invariant_of-self-2 : goal.invariant_of-self-2
invariant_of-self-2 c =
    let e = c.in-Some.link in
    let p = view c.args.incoming.now.packet in
    let held = c.far_is_up-held.result in
    near_changed _ e c.arrive.new.self (arrival_end e (outcome_of e.fsm p.header c.args.incoming.now.sender_epoch c.args.incoming.now.receiver_epoch held) p c.args.incoming.now.by) c.self.invariant c.in-Some.is c.in_ok-arrival.ensures.after
    (λ own peer contact seen bearer h. end_arrived own peer contact seen bearer e p c.args.incoming.now.sender_epoch c.args.incoming.now.receiver_epoch held c.args.incoming.now.by h)

pub follow-requires : goal.follow-requires
follow-requires c =
    let e = c.in-Some.link in
    let p = view c.args.incoming.now.packet in
    let held = c.far_is_up-held.result in
    let o = outcome_of e.fsm p.header c.args.incoming.now.sender_epoch c.args.incoming.now.receiver_epoch held in
    has_changed _ e c.arrive.new.self (Some (c.args.incoming.now.sender_epoch, c.args.incoming.now.receiver_epoch)) o c.in_ok-arrival.arrival.change c.self.invariant c.in-Some.is (outcome_moves e.fsm p.header c.args.incoming.now.sender_epoch c.args.incoming.now.receiver_epoch held)
    (outcome_falls e.fsm p.header c.args.incoming.now.sender_epoch c.args.incoming.now.receiver_epoch held) c.in_ok-arrival.ensures.change (ap (λ (d : LinkEnd). d.fsm) c.in_ok-arrival.ensures.after ∙ fsm_arrived e o p c.args.incoming.now.by)
    (λ some. subst (λ (d : LinkEnd). is_some d.session ≡ true) (sym c.in_ok-arrival.ensures.after) (some_arrived e o p c.args.incoming.now.by some))

pub returns : goal.returns
returns c =
    let x = c.args.self.now in
    let e = c.in-Some.link in
    let p = view c.args.incoming.now.packet in
    let held = c.far_is_up-held.result in
    let by = c.args.incoming.now.by in
    let o = outcome_of e.fsm p.header c.args.incoming.now.sender_epoch c.args.incoming.now.receiver_epoch held in
    let arrival = c.in_ok-arrival.arrival in
    subst (λ (h : Heard). IsHeardAs h c.follow.new.self c.args.event.now c.follow.new.event arrival.outcome)
    (met_near_is c.args.incoming.now.sender_epoch c.args.incoming.now.receiver_epoch p by c.args.incoming.now.shown x e held (sym (ap (λ (v : PairEnds). v.near) c.self.view_is) ∙ c.in-Some.is) c.far_is_up-held.ensures)
    (met_does x _ c.follow.new.self e c.arrive.new.self o p c.args.incoming.now.sender_epoch by c.args.incoming.now.shown arrival.change arrival.outcome c.args.event.now _ c.follow.new.event
    (ap (λ (v : PairEnds). with_near v c.arrive.new.self) c.self.view_is) c.in_ok-arrival.ensures.after c.in_ok-arrival.ensures.change c.in_ok-arrival.ensures.outcome (ap (λ (l : LeavingState). l.changes) c.event.view_is)
    (subst (λ (l : LeavingState). Gains l.out c.arrive.new.out (link_frames e o p by c.args.incoming.now.shown)) c.event.view_is c.in_ok-arrival.ensures.frames)
    c.in_ok-follow.ensures.after c.in_ok-follow.ensures.adds)
