use Rattle.std.proofs.Common.{◌≡◌, ◌∙◌, true, sym, subst, ap}
use Rattle.tipc_types.specs.LinkStates.{is_up}
use Rattle.tipc_pair.specs.Facing.{PairEnds, is_up_at, with_near}
use Rattle.tipc_pair.proofs.EndFacts.{near_kept}
use Rattle.tipc_pair.proofs.EndSteps.{end_sent, near_of}
use Rattle.tipc_pair.proofs.PairSends.{put_near}
use Rattle.tipc_pair.proofs.SessionFacts.{all_wait}
use Rattle.tipc_pair.proofs.link_ends.LinkEnds.send.Goals as goal

pub send-requires-clause-pieces : goal.send-requires-clause-pieces
send-requires-clause-pieces c = all_wait c.args.pieces c.requires.pieces

pub invariant_of-self : goal.invariant_of-self
invariant_of-self c =
    let x = c.self.inside in
    let e = c.in-Some.link in
    let up : is_up e.fsm.state ≡ true = subst (λ o. is_up_at o ≡ true) c.in-Some.is (subst (λ (v : PairEnds). is_up_at v.near ≡ true) (sym c.self.view_is) c.requires.up) in
    near_kept _ c.send.new.self c.self.invariant
    (end_sent _ _ _ x.own.word x.peer.word x.numbers.own x.numbers.seen x.bearer e c.send.new.self c.args.pieces c.send.result (near_of _ e c.self.invariant c.in-Some.is) up c.requires.pieces
    c.send.ensures.ok c.send.ensures.err)

pub returns-clause-ok : goal.returns-clause-ok
returns-clause-ok c =
    let e = c.in-Some.link in
    let up : is_up e.fsm.state ≡ true = subst (λ o. is_up_at o ≡ true) c.in-Some.is (subst (λ (v : PairEnds). is_up_at v.near ≡ true) (sym c.self.view_is) c.requires.up) in
    put_near c.send.result c.args.self.now _ e c.send.new.self c.args.pieces c.args.limit c.args.out.now c.send.new.out
    (sym (ap (λ (v : PairEnds). v.near) c.self.view_is) ∙ c.in-Some.is) ((near_of _ e c.self.invariant c.in-Some.is).begun up) c.send.ensures.ok
    (ap (λ (v : PairEnds). with_near v c.send.new.self) c.self.view_is)
