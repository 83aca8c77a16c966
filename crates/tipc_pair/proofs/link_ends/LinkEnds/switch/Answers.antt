use Rattle.std.proofs.Common.{◌≡◌, ◌∙◌, true, Some, sym, subst, ap}
use Rattle.std.specs.Prelude.{OnOk}
use Rattle.tipc_types.specs.LinkStates.{is_up}
use Rattle.tipc_outside.specs.Frames.{Adds}
use Rattle.tipc_link.specs.Sessions.{flush_frames, put}
use Rattle.tipc_pair.specs.Courses.{LeavingState}
use Rattle.tipc_pair.specs.Facing.{PairEnds, is_up_at, other}
use Rattle.tipc_pair.specs.PairFacts.{IsEndOf}
use Rattle.tipc_pair.proofs.EndSteps.{both_kept, end_given, end_loaded, far_of, near_of}
use Rattle.tipc_pair.proofs.Followings.{switched, switched_adds}
use Rattle.tipc_pair.proofs.SessionFacts.{all_wait}
use Rattle.tipc_pair.proofs.link_ends.LinkEnds.switch.Goals as goal

pub load-requires-clause-pieces : goal.load-requires-clause-pieces
load-requires-clause-pieces c = all_wait c.in_ok-pieces.pieces c.in_ok-pieces.ensures.listed

pub invariant_of-self-2 : goal.invariant_of-self-2
invariant_of-self-2 c =
    let x = c.self.inside in
    let e = c.in-Some-near.near in
    let f = c.in-Some.far in
    let up : is_up e.fsm.state ≡ true = subst (λ o. is_up_at o ≡ true) c.in-Some-near.is (subst (λ (v : PairEnds). is_up_at v.near ≡ true) (sym c.self.view_is) c.requires.near) in
    both_kept _ c.load.new.link c.taken_over.new.link c.self.invariant
    (end_loaded x.own.word x.peer.word x.numbers.own x.numbers.seen x.bearer e c.load.new.link c.in_ok-pieces.pieces c.load.result (near_of _ e c.self.invariant c.in-Some-near.is) up
    c.in_ok-pieces.ensures.listed c.load.ensures.after c.load.ensures.err)
    (subst (IsEndOf x.own.word x.peer.word x.numbers.own x.numbers.seen (other x.bearer)) (sym c.taken_over.ensures.after)
    (end_given x.own.word x.peer.word x.numbers.own x.numbers.seen (other x.bearer) f (far_of _ f c.self.invariant c.in-Some.is)))

pub returns-clause-after : goal.returns-clause-after
returns-clause-after c =
    let x = c.args.self.now in
    let e = c.in-Some-near.near in
    let f = c.in-Some.far in
    let near_is : x.near ≡ Some e = sym (ap (λ (v : PairEnds). v.near) c.self.view_is) ∙ c.in-Some-near.is in
    let far_is : x.far ≡ Some f = sym (ap (λ (v : PairEnds). v.far) c.self.view_is) ∙ c.in-Some.is in
    let near_up : is_up e.fsm.state ≡ true = subst (λ o. is_up_at o ≡ true) near_is c.requires.near in
    let far_up : is_up f.fsm.state ≡ true = subst (λ o. is_up_at o ≡ true) far_is c.requires.far in
    switched c.load.result x _ e f c.load.new.link c.taken_over.new.link c.in_ok-pieces.pieces near_is far_is ((near_of _ e c.self.invariant c.in-Some-near.is).begun near_up)
    ((far_of _ f c.self.invariant c.in-Some.is).begun far_up) c.taken_over.ensures.after c.in_ok-pieces.ensures.pieces c.load.ensures.after
    (ap (λ (v : PairEnds). record v { near = Some c.load.new.link; far = Some c.taken_over.new.link }) c.self.view_is)

pub returns-clause-adds : goal.returns-clause-adds
returns-clause-adds c =
    let x = c.args.self.now in
    let e = c.in-Some-near.near in
    let f = c.in-Some.far in
    let near_is : x.near ≡ Some e = sym (ap (λ (v : PairEnds). v.near) c.self.view_is) ∙ c.in-Some-near.is in
    let far_is : x.far ≡ Some f = sym (ap (λ (v : PairEnds). v.far) c.self.view_is) ∙ c.in-Some.is in
    let near_up : is_up e.fsm.state ≡ true = subst (λ o. is_up_at o ≡ true) near_is c.requires.near in
    let far_up : is_up f.fsm.state ≡ true = subst (λ o. is_up_at o ≡ true) far_is c.requires.far in
    switched_adds c.load.result x e f c.in_ok-pieces.pieces c.args.event.now _ near_is far_is ((near_of _ e c.self.invariant c.in-Some-near.is).begun near_up)
    ((far_of _ f c.self.invariant c.in-Some.is).begun far_up) c.in_ok-pieces.ensures.pieces
    (λ s is. subst (λ (l : LeavingState). OnOk c.load.result (Adds l.out c.load.new.out (flush_frames (put s c.in_ok-pieces.pieces)))) c.event.view_is (c.load.ensures.frames s is))
    (ap (λ (l : LeavingState). l.changes) c.event.view_is)
