use Rattle.std.proofs.Common.{◌≡◌, ◌∙◌, true, None, is_some, sym, subst, ap}
use Rattle.tipc_link_fsm.specs.Table.{on_peer_tunnel}
use Rattle.tipc_link_fsm.proofs.Moves.{on_peer_tunnel_moves}
use Rattle.tipc_link.specs.Links.{LinkEnd, tunnelled_down}
use Rattle.tipc_pair.specs.Facing.{PairEnds, with_near}
use Rattle.tipc_pair.specs.PairArrivals.{tunnelled_at}
use Rattle.tipc_pair.proofs.EndFacts.{near_changed}
use Rattle.tipc_pair.proofs.EndSteps.{end_tunnelled, has_changed, peer_tunnel_falls}
use Rattle.tipc_pair.proofs.Steppings.{course_adds, course_after, tunnelled_is}
use Rattle.tipc_pair.proofs.link_ends.LinkEnds.take_down.Goals as goal

pub invariant_of-self-2 : goal.invariant_of-self-2
invariant_of-self-2 c =
    let e = c.in-Some.link in
    near_changed _ e c.peer_tunnel-change.new.self (tunnelled_down e c.args.epoch) c.self.invariant c.in-Some.is c.peer_tunnel-change.ensures.after
    (λ own peer contact seen bearer h. end_tunnelled own peer contact seen bearer e c.args.epoch h)

pub follow-requires : goal.follow-requires
follow-requires c =
    let e = c.in-Some.link in
    let epoch = c.args.epoch in
    has_changed _ e c.peer_tunnel-change.new.self None (on_peer_tunnel e.fsm epoch) c.peer_tunnel-change.result c.self.invariant c.in-Some.is (on_peer_tunnel_moves e.fsm epoch None)
    (peer_tunnel_falls e.fsm epoch) c.peer_tunnel-change.ensures.change (ap (λ (d : LinkEnd). d.fsm) c.peer_tunnel-change.ensures.after)
    (λ some. subst (λ (d : LinkEnd). is_some d.session ≡ true) (sym c.peer_tunnel-change.ensures.after) some)

pub returns-clause-after : goal.returns-clause-after
returns-clause-after c =
    let x = c.args.self.now in
    let e = c.in-Some.link in
    course_after c.follow.result c.follow.new.self _ (tunnelled_at c.args.epoch x x.near)
    (tunnelled_is x _ e c.peer_tunnel-change.new.self c.args.epoch c.peer_tunnel-change.result (sym (ap (λ (v : PairEnds). v.near) c.self.view_is) ∙ c.in-Some.is)
    (ap (λ (v : PairEnds). with_near v c.peer_tunnel-change.new.self) c.self.view_is) c.peer_tunnel-change.ensures.after c.peer_tunnel-change.ensures.change) c.follow.ensures.after

pub returns-clause-adds : goal.returns-clause-adds
returns-clause-adds c =
    let x = c.args.self.now in
    let e = c.in-Some.link in
    course_adds c.follow.result c.args.event.now c.follow.new.event _ (tunnelled_at c.args.epoch x x.near)
    (tunnelled_is x _ e c.peer_tunnel-change.new.self c.args.epoch c.peer_tunnel-change.result (sym (ap (λ (v : PairEnds). v.near) c.self.view_is) ∙ c.in-Some.is)
    (ap (λ (v : PairEnds). with_near v c.peer_tunnel-change.new.self) c.self.view_is) c.peer_tunnel-change.ensures.after c.peer_tunnel-change.ensures.change) c.follow.ensures.adds
