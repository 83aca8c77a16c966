use Rattle.std.proofs.Common.{◌≡◌, ◌∙◌, true, Some, sym, subst, ap}
use Rattle.std.specs.Prelude.{IfSome, OnOk, is_some}
use Rattle.tipc_types.specs.LinkStates.{is_up}
use Rattle.tipc_outside.specs.Frames.{Adds}
use Rattle.tipc_link.specs.Links.{LinkEnd}
use Rattle.tipc_link.specs.Sessions.{flush_frames, put}
use Rattle.tipc_pair.specs.Courses.{LeavingState}
use Rattle.tipc_pair.specs.Facing.{PairEnds, is_up_at, other}
use Rattle.tipc_pair.specs.PairFacts.{IsEndOf}
use Rattle.tipc_pair.proofs.EndSteps.{both_kept, end_handed, end_loaded, far_of, near_of}
use Rattle.tipc_pair.proofs.Followings.{failed_adds, failed_over}
use Rattle.tipc_pair.proofs.SessionFacts.{all_wait}
use Rattle.tipc_pair.proofs.link_ends.LinkEnds.fail_over.Goals as goal

pub load-requires-clause-pieces : goal.load-requires-clause-pieces
load-requires-clause-pieces c = all_wait c.in_ok-pieces.pieces c.in_ok-pieces.ensures.listed

pub invariant_of-self-2 : goal.invariant_of-self-2
invariant_of-self-2 c =
    let x = c.self.inside in
    let e = c.in-Some.near in
    let f = c.in-Some-far.far in
    let up : is_up f.fsm.state ≡ true = subst (λ o. is_up_at o ≡ true) c.in-Some-far.is (subst (λ (v : PairEnds). is_up_at v.far ≡ true) (sym c.self.view_is) c.requires.far) in
    both_kept _ c.left_by.new.link c.load.new.link c.self.invariant
    (subst (IsEndOf x.own.word x.peer.word x.numbers.own x.numbers.seen x.bearer) (sym c.left_by.ensures.after)
    (end_handed x.own.word x.peer.word x.numbers.own x.numbers.seen x.bearer e (near_of _ e c.self.invariant c.in-Some.is)))
    (end_loaded x.own.word x.peer.word x.numbers.own x.numbers.seen (other x.bearer) f c.load.new.link c.in_ok-pieces.pieces c.load.result (far_of _ f c.self.invariant c.in-Some-far.is) up
    c.in_ok-pieces.ensures.listed c.load.ensures.after c.load.ensures.err)

pub returns-clause-after : goal.returns-clause-after
returns-clause-after c =
    let x = c.args.self.now in
    let e = c.in-Some.near in
    let f = c.in-Some-far.far in
    let near_is : x.near ≡ Some e = sym (ap (λ (v : PairEnds). v.near) c.self.view_is) ∙ c.in-Some.is in
    let far_is : x.far ≡ Some f = sym (ap (λ (v : PairEnds). v.far) c.self.view_is) ∙ c.in-Some-far.is in
    let up : is_up f.fsm.state ≡ true = subst (λ o. is_up_at o ≡ true) far_is c.requires.far in
    failed_over c.load.result x _ e f c.left_by.new.link c.load.new.link c.in_ok-pieces.pieces near_is far_is
    (subst (λ o. IfSome o (λ (d : LinkEnd). is_some d.session ≡ true)) near_is c.requires.session) ((far_of _ f c.self.invariant c.in-Some-far.is).begun up) c.left_by.ensures.after
    c.in_ok-pieces.ensures.pieces c.load.ensures.after (ap (λ (v : PairEnds). record v { near = Some c.left_by.new.link; far = Some c.load.new.link }) c.self.view_is)

pub returns-clause-adds : goal.returns-clause-adds
returns-clause-adds c =
    let x = c.args.self.now in
    let e = c.in-Some.near in
    let f = c.in-Some-far.far in
    let near_is : x.near ≡ Some e = sym (ap (λ (v : PairEnds). v.near) c.self.view_is) ∙ c.in-Some.is in
    let far_is : x.far ≡ Some f = sym (ap (λ (v : PairEnds). v.far) c.self.view_is) ∙ c.in-Some-far.is in
    let up : is_up f.fsm.state ≡ true = subst (λ o. is_up_at o ≡ true) far_is c.requires.far in
    failed_adds c.load.result x e f c.in_ok-pieces.pieces c.args.event.now _ near_is far_is
    (subst (λ o. IfSome o (λ (d : LinkEnd). is_some d.session ≡ true)) near_is c.requires.session) ((far_of _ f c.self.invariant c.in-Some-far.is).begun up) c.in_ok-pieces.ensures.pieces
    (λ s is. subst (λ (l : LeavingState). OnOk c.load.result (Adds l.out c.load.new.out (flush_frames (put s c.in_ok-pieces.pieces)))) c.event.view_is (c.load.ensures.frames s is))
    (ap (λ (l : LeavingState). l.changes) c.event.view_is)
