use Rattle.std.proofs.Common.{◌≡◌, ◌∙◌, ◌-◌, ℕ, arith, false, true, sym, subst, ap}
use Rattle.std.specs.Prelude.{OnOk}
use Rattle.tipc_pair.specs.Facing.{PairEnds, in_contact, is_up_at}
use Rattle.tipc_pair.specs.PairCalls.{active_session, session_at}
use Rattle.tipc_pair.specs.PairFacts.{AreHeldRightly}
use Rattle.tipc_pair.proofs.HeldCalls.{put_right, turned_right}
use Rattle.tipc_pair.proofs.PairSends.{PutActive, other_is_up, put_first, put_second, session_first, session_second}
use Rattle.tipc_pair.proofs.pair.Pair.send.Goals as goal

turned_twice : (first then last : ℕ) → first ≡ 0 → then ≡ 1 - first → last ≡ 1 - then → last ≡ 0
turned_twice first then last zero other back = omega arith

pub invariant_of-self : goal.invariant_of-self
invariant_of-self c =
    let x = c.self.inside.ends in
    let put = put_right c.send.result x c.send.new.self c.args.pieces c.args.limit c.args.out.now c.send.new.out c.send.ensures.ok c.send.ensures.err c.self.invariant.1 in
    (put.0 ∙ c.self.invariant.0, put.1)

pub invariant_of-self-2 : goal.invariant_of-self-2
invariant_of-self-2 c =
    let x = c.self.inside.ends in
    let far = c.turn.new.self in
    let right = subst AreHeldRightly (sym c.turn.ensures) (turned_right x c.self.invariant.1) in
    let put = put_right c.send-answer.result far c.send-answer.new.self c.args.pieces c.args.limit c.args.out.now c.send-answer.new.out c.send-answer.ensures.ok c.send-answer.ensures.err right in
    let bearer : c.send-answer.new.self.bearer ≡ 1 - x.bearer = put.0 ∙ ap (λ (y : PairEnds). y.bearer) c.turn.ensures in
    (turned_twice x.bearer _ _ c.self.invariant.0 bearer (ap (λ (y : PairEnds). y.bearer) c.turn-2.ensures), subst AreHeldRightly (sym c.turn-2.ensures) (turned_right c.send-answer.new.self put.1))

pub returns-then-near_is_up-clause-ok : goal.returns-then-near_is_up-clause-ok
returns-then-near_is_up-clause-ok c =
    let x = c.self.inside.ends in
    subst (λ (v : PairEnds). OnOk c.send.result (PutActive v c.args.pieces c.args.limit c.send.new.self c.args.out.now c.send.new.out)) c.self.view_is
    (put_first c.send.result x c.send.new.self c.args.pieces c.args.limit c.args.out.now c.send.new.out c.self.invariant.0 (sym c.near_is_up.ensures ∙ c.if-near_is_up.true) c.send.ensures.ok)

pub returns-then-near_is_up-clause-congested : goal.returns-then-near_is_up-clause-congested
returns-then-near_is_up-clause-congested c = λ s is many.
    let x = c.self.inside.ends in
    c.send.ensures.congested s (sym (session_first x c.self.invariant.0 (sym c.near_is_up.ensures ∙ c.if-near_is_up.true)) ∙ (ap active_session c.self.view_is ∙ is)) many

pub returns-then-near_is_up-clause-congested_only : goal.returns-then-near_is_up-clause-congested_only
returns-then-near_is_up-clause-congested_only c = λ s in_flight waiting is full.
    let x = c.self.inside.ends in
    c.send.ensures.congested_only s in_flight waiting (sym (session_first x c.self.invariant.0 (sym c.near_is_up.ensures ∙ c.if-near_is_up.true)) ∙ (ap active_session c.self.view_is ∙ is)) full

pub returns-clause-ok : goal.returns-clause-ok
returns-clause-ok c =
    let x = c.self.inside.ends in
    let down : is_up_at x.near ≡ false = sym c.near_is_up.ensures ∙ c.if-near_is_up.false in
    let contact : in_contact x ≡ true = subst (λ (v : PairEnds). in_contact v ≡ true) (sym c.self.view_is) c.requires.contact in
    subst (λ (v : PairEnds). OnOk c.send-answer.result (PutActive v c.args.pieces c.args.limit c.turn-2.new.self c.args.out.now c.send-answer.new.out)) c.self.view_is
    (put_second c.send-answer.result x c.turn.new.self c.send-answer.new.self c.turn-2.new.self c.args.pieces c.args.limit c.args.out.now c.send-answer.new.out c.self.invariant.0 down
    (other_is_up x contact down) c.turn.ensures c.turn-2.ensures c.send-answer.ensures.ok)

pub returns-clause-congested : goal.returns-clause-congested
returns-clause-congested c = λ s is many.
    let x = c.self.inside.ends in
    let down : is_up_at x.near ≡ false = sym c.near_is_up.ensures ∙ c.if-near_is_up.false in
    c.send-answer.ensures.congested s (ap (λ (y : PairEnds). session_at y.near) c.turn.ensures ∙ (sym (session_second x c.self.invariant.0 down) ∙ (ap active_session c.self.view_is ∙ is))) many

pub returns-clause-congested_only : goal.returns-clause-congested_only
returns-clause-congested_only c = λ s in_flight waiting is full.
    let x = c.self.inside.ends in
    let down : is_up_at x.near ≡ false = sym c.near_is_up.ensures ∙ c.if-near_is_up.false in
    c.send-answer.ensures.congested_only s in_flight waiting (ap (λ (y : PairEnds). session_at y.near) c.turn.ensures ∙ (sym (session_second x c.self.invariant.0 down) ∙ (ap active_session c.self.view_is ∙ is))) full
