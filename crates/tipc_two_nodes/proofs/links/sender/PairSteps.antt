-- What changeover does with a pair, as events: the packets that a link leaves or takes over go on the other link and move up, and an end is
-- released.
use Rattle.std.proofs.Common.{◌≡◌, ℕ, ◌+◌, ◌-◌, ◌≤◌, true, Option, Some, length, take, refl, sym, ap, ◌∙◌, subst, arith}
use Rattle.tipc_types.specs.LinkStates.{is_up}
use Rattle.tipc_types.specs.declared.link_words.OldSession.{OldSession}
use Rattle.tipc_header.specs.declared.packet.ChangeoverType.TheVariants.{Duplicate, Original}
use Rattle.tipc_send_window.specs.Sending.{Sending, emptied, fresh, offered, without_waiting, advanced, room}
use Rattle.tipc_link.specs.Links.{LinkEnd}
use Rattle.tipc_link.specs.Sessions.{SessionEnd, flushed, put}
use Rattle.tipc_pair.specs.Changeovers.{fail_over, switch}
use Rattle.tipc_pair.specs.Facing.{PairEnds, with_near}
use Rattle.tipc_pair.specs.Runs.{left_by, old_of, taken_over}
use Rattle.tipc_changeover.specs.Links.{other, turned_state, Bearer, EndState, First, Held, Reset, State, Up}
use Rattle.tipc_changeover.specs.Sound.{Sound}
use Rattle.tipc_two_nodes.specs.links.Traffic.{Traffic, turned_traffic as turned_traffic}
use Rattle.tipc_two_nodes.specs.links.Sending.{SendingEnd, SendingEnds, StandFor, beside, end_seen, ends_seen, state_as, window_in, turned_sending as turned_ends}
use Rattle.tipc_two_nodes.specs.links.Following.{Become}
use Rattle.tipc_two_nodes.specs.links.Steps.{CanTravel, failed, far_session, left, near_more, near_session, near_window, switched, taken_from}
use Rattle.tipc_two_nodes.specs.links.Ends.{IsFallen, IsRisen, IsUpAt, far_more, far_window, gets, session_by}
use Rattle.tipc_two_nodes.proofs.links.sender.Changing.{fails, switches}
use Rattle.tipc_two_nodes.proofs.links.sender.Happening.{follows_then}
use Rattle.tipc_two_nodes.proofs.links.sender.Numbering.{numbers}
use Rattle.tipc_two_nodes.proofs.links.sender.Turning.{become_turned, stand_turned}

-- ---- packets that wait move up

room_within : (w : Sending) → length w.unacked ≤ 50 → (room w ≤ length w.waiting) × (length w.unacked + room w ≤ 50)
room_within w few = (omega arith, omega arith)

-- the near link's
pub flushes : (b : Bearer) (x : SendingEnds) (t : Traffic) (s : State) → Become b x t s → x.near.state ≡ Up → length x.near.window.unacked ≤ 50
    → Become b (near_window x (advanced (room x.near.window) x.near.window)) (near_more t (session_by t.near x.near) (take (room x.near.window) x.near.window.waiting)) s
flushes b x t s h up few =
    let within = room_within x.near.window few in
    let epoch = h.stand.near.epoch in
    let session : h.state.near.session ≡ session_by t.near x.near = omega arith in
    let n = numbers (room x.near.window) b x t h.state h.stand up within.0 within.1 in
    record {
      state = n.state;
      follows = follows_then b s h.state n.state h.follows n.follows;
      stand = subst (λ e. StandFor b (near_window x (advanced (room x.near.window) x.near.window)) (near_more t e (take (room x.near.window) x.near.window.waiting)) n.state) session n.stand;
    }

pub far_flushes : (b : Bearer) (x : SendingEnds) (t : Traffic) (s : State) → Become b x t s → x.far.state ≡ Up → length x.far.window.unacked ≤ 50
    → Become b (far_window x (advanced (room x.far.window) x.far.window)) (far_more t (session_by t.far x.far) (take (room x.far.window) x.far.window.waiting)) s
far_flushes b x t s h up few =
    let within = room_within x.far.window few in
    let epoch = h.stand.far.epoch in
    let session : h.state.far.session ≡ session_by t.far x.far = omega arith in
    let n = numbers (room x.far.window) (other b) (turned_ends x) (turned_traffic t) (turned_state h.state) (stand_turned b x t h.state h.stand) up within.0 within.1 in
    let back = become_turned b (far_window x (advanced (room x.far.window) x.far.window)) (far_more t h.state.far.session (take (room x.far.window) x.far.window.waiting)) h.state n h.stand.bearer in
    record {
      state = back.state;
      follows = follows_then b s h.state back.state h.follows back.follows;
      stand = subst (λ e. StandFor b (far_window x (advanced (room x.far.window) x.far.window)) (far_more t e (take (room x.far.window) x.far.window.waiting)) back.state) session back.stand;
    }

-- ---- an end as it is seen

pub seen_some : (contact : ℕ) (o : Option LinkEnd) (e : LinkEnd) (s : SessionEnd) (state : EndState) → o ≡ Some e → e.session ≡ Some s → state_as e.fsm.state ≡ state
    → end_seen contact o ≡ record { epoch = e.fsm.own; state = state; window = s.sending }
seen_some contact o e s state is session_is state_is = ap (end_seen contact) is ∙ (ap (λ o'. record { epoch = e.fsm.own; state = state_as e.fsm.state; window = window_in o' }) session_is ∙ ap (λ z. record { epoch = e.fsm.own; state = z; window = s.sending }) state_is)

pub up_state : (e : LinkEnd) → is_up e.fsm.state ≡ true → state_as e.fsm.state ≡ Up
up_state e up = rw up refl

-- ---- a link goes down while the other is up

-- both ends, as they are seen
pub both_seen : (x : PairEnds) (bearer bearer' : ℕ) (e f : LinkEnd) (s u : SessionEnd) → IsUpAt bearer x.near e s → IsUpAt bearer' x.far f u
    → ends_seen x ≡ record { bearer = x.bearer; near = record { epoch = e.fsm.own; state = Up; window = s.sending }; far = record { epoch = f.fsm.own; state = Up; window = u.sending } }
both_seen x bearer bearer' e f s u h k =
    ap (λ z. record { bearer = x.bearer; near = z; far = end_seen x.contact x.far }) (seen_some x.contact x.near e s Up h.end_is h.session_is (up_state e h.up))
    ∙ ap (λ z. record { bearer = x.bearer; near = record { epoch = e.fsm.own; state = Up; window = s.sending }; far = z }) (seen_some x.contact x.far f u Up k.end_is k.session_is (up_state f k.up))

-- what the pair is after it
pub fallen_pair : (x : PairEnds) (e e' f : LinkEnd) (s u : SessionEnd) → e'.session ≡ Some s → x.far ≡ Some f → f.session ≡ Some u
    → (fail_over (with_near x e')).pair ≡ record x { near = Some (record e' { session = Some (record s { sending = emptied s.sending }) }); far = Some (record f { session = Some (flushed (put u (left_by s))) }) }
fallen_pair x e e' f s u own_session far_is far_session = rw (far_is, own_session, far_session) refl

-- the ends after it, as they are seen
pub fallen_seen : (x : PairEnds) (e e' f : LinkEnd) (s u : SessionEnd) (bearer' : ℕ) → IsUpAt x.bearer x.near e s → IsUpAt bearer' x.far f u → IsFallen e e'
    → ends_seen (fail_over (with_near x e')).pair ≡ record { bearer = x.bearer; near = record { epoch = e.fsm.own + 1; state = Held; window = emptied s.sending }; far = record { epoch = f.fsm.own; state = Up; window = advanced (room (put u (left_by s)).sending) (put u (left_by s)).sending } }
unfolding flushed
fallen_seen x e e' f s u bearer' h k fall =
    let far_seen : SendingEnd = record { epoch = f.fsm.own; state = state_as f.fsm.state; window = (flushed (put u (left_by s))).sending } in
    ap ends_seen (fallen_pair x e e' f s u (fall.session ∙ h.session_is) k.end_is k.session_is)
    ∙ (ap (λ n. record { bearer = x.bearer; near = record { epoch = n; state = state_as e'.fsm.state; window = emptied s.sending }; far = far_seen }) fall.own
    ∙ (ap (λ z. record { bearer = x.bearer; near = record { epoch = e.fsm.own + 1; state = z; window = emptied s.sending }; far = far_seen }) fall.held
    ∙ ap (λ z. record { bearer = x.bearer; near = record { epoch = e.fsm.own + 1; state = Held; window = emptied s.sending }; far = record { epoch = f.fsm.own; state = z; window = (flushed (put u (left_by s))).sending } }) (up_state f k.up)))

same_old : (bearer epoch : ℕ) (s : SessionEnd) → s.bearer ≡ bearer → s.epoch ≡ epoch → ◌≡◌ {A = OldSession} (old_of s) (record { bearer = bearer; epoch = epoch })
same_old bearer epoch s is epoch_is = ap (λ n. record { bearer = n; epoch = s.epoch }) is ∙ ap (λ n. record { bearer = bearer; epoch = n }) epoch_is

pub fails_over : (b : Bearer) (x : PairEnds) (e e' f : LinkEnd) (s u : SessionEnd) (bearer' : ℕ) (t : Traffic) (z : State) → IsUpAt x.bearer x.near e s → IsUpAt bearer' x.far f u → IsFallen e e' → StandFor b (ends_seen x) t z → Sound b z
    → CanTravel Original (old_of s) s.sending.unacked → Become b (ends_seen (fail_over (with_near x e')).pair) (far_more t (f.fsm.own + 1 - t.far.first) (gets u (left_by s))) z
fails_over b x e e' f s u bearer' t z h k fall stand sound can =
    let E : SendingEnds = record { bearer = x.bearer; near = record { epoch = e.fsm.own; state = Up; window = s.sending }; far = record { epoch = f.fsm.own; state = Up; window = u.sending } } in
    let stand' = subst (λ y. StandFor b y t z) (both_seen x x.bearer bearer' e f s u h k) stand in
    let old = same_old x.bearer e.fsm.own s h.bearer_is h.epoch_is in
    let down = fails b s.own E t z (emptied s.sending) stand' sound refl refl (subst (λ (o : OldSession). CanTravel Original o s.sending.unacked) old can) in
    let left_is : left (near_session E) s.own s.sending ≡ left_by s = ap (λ (o : OldSession). left o s.own s.sending) (sym old) in
    let up = far_flushes b (failed s.own E (emptied s.sending)) t z down refl k.few in
    subst (λ y. Become b y (far_more t (f.fsm.own + 1 - t.far.first) (gets u (left_by s))) z) (sym (fallen_seen x e e' f s u bearer' h k fall))
    (subst (λ ps. Become b (far_window (failed s.own E (emptied s.sending)) (advanced (room (offered u.sending ps)) (offered u.sending ps))) (far_more t (f.fsm.own + 1 - t.far.first) (take (room (offered u.sending ps)) (offered u.sending ps).waiting)) z) left_is up)

-- ---- a link goes up

pub risen_pair : (x : PairEnds) (e' f : LinkEnd) (s u : SessionEnd) → e'.session ≡ Some s → x.far ≡ Some f → f.session ≡ Some u
    → (switch (with_near x e')).pair ≡ record x { near = Some (record e' { session = Some (flushed (put s (taken_over u))) }); far = Some (record f { session = Some (record u { sending = without_waiting u.sending }) }) }
risen_pair x e' f s u own_session far_is far_session = rw (far_is, own_session, far_session) refl

pub risen_seen : (x : PairEnds) (e e' f : LinkEnd) (s u : SessionEnd) (bearer' : ℕ) → IsRisen e e' s → IsUpAt bearer' x.far f u
    → ends_seen (switch (with_near x e')).pair ≡ record { bearer = x.bearer; near = record { epoch = e.fsm.own; state = Up; window = advanced (room (offered fresh (taken_over u))) (offered fresh (taken_over u)) }; far = record { epoch = f.fsm.own; state = Up; window = without_waiting u.sending } }
unfolding flushed
risen_seen x e e' f s u bearer' h k =
    let far_seen : SendingEnd = record { epoch = f.fsm.own; state = state_as f.fsm.state; window = without_waiting u.sending } in
    ap ends_seen (risen_pair x e' f s u h.session_is k.end_is k.session_is)
    ∙ (ap (λ n. record { bearer = x.bearer; near = record { epoch = n; state = state_as e'.fsm.state; window = (flushed (put s (taken_over u))).sending }; far = far_seen }) h.own
    ∙ (ap (λ z. record { bearer = x.bearer; near = record { epoch = e.fsm.own; state = z; window = (flushed (put s (taken_over u))).sending }; far = far_seen }) h.up
    ∙ (ap (λ w. record { bearer = x.bearer; near = record { epoch = e.fsm.own; state = Up; window = advanced (room (offered w (taken_over u))) (offered w (taken_over u)) }; far = far_seen }) h.fresh_is
    ∙ ap (λ z. record { bearer = x.bearer; near = record { epoch = e.fsm.own; state = Up; window = advanced (room (offered fresh (taken_over u))) (offered fresh (taken_over u)) }; far = record { epoch = f.fsm.own; state = z; window = without_waiting u.sending } }) (up_state f k.up))))

-- an end in reset beside one that is up, as they are seen
pub beside_seen : (x : PairEnds) (bearer' : ℕ) (e f : LinkEnd) (u : SessionEnd) → x.near ≡ Some e → state_as e.fsm.state ≡ Reset → IsUpAt bearer' x.far f u
    → ends_seen x ≡ record { bearer = x.bearer; near = record { epoch = e.fsm.own; state = Reset; window = window_in e.session }; far = record { epoch = f.fsm.own; state = Up; window = u.sending } }
beside_seen x bearer' e f u is reset k =
    ap (λ z. record { bearer = x.bearer; near = z; far = end_seen x.contact x.far }) (ap (end_seen x.contact) is ∙ ap (λ z. record { epoch = e.fsm.own; state = z; window = window_in e.session }) reset)
    ∙ ap (λ z. record { bearer = x.bearer; near = record { epoch = e.fsm.own; state = Reset; window = window_in e.session }; far = z }) (seen_some x.contact x.far f u Up k.end_is k.session_is (up_state f k.up))

pub switches_over : (b : Bearer) (x : PairEnds) (e e' f : LinkEnd) (s u : SessionEnd) (t : Traffic) (z : State) → b ≡ First → x.near ≡ Some e → IsRisen e e' s → IsUpAt (beside x.bearer) x.far f u → StandFor b (ends_seen x) t z → Sound b z
    → CanTravel Duplicate (old_of u) u.sending.unacked → Become b (ends_seen (switch (with_near x e')).pair) (near_more t (e.fsm.own + 1 - t.near.first) (take (room (offered fresh (taken_over u))) (taken_over u))) z
switches_over b x e e' f s u t z first is h k stand sound can =
    let E : SendingEnds = record { bearer = x.bearer; near = record { epoch = e.fsm.own; state = Reset; window = window_in e.session }; far = record { epoch = f.fsm.own; state = Up; window = u.sending } } in
    let stand' = subst (λ y. StandFor b y t z) (beside_seen x (beside x.bearer) e f u is h.reset k) stand in
    let old = same_old (beside x.bearer) f.fsm.own u k.bearer_is k.epoch_is in
    let up = switches b u.own E t z stand' sound first refl refl (subst (λ (o : OldSession). CanTravel Duplicate o u.sending.unacked) old can) in
    let taken_is : taken_from (far_session E) u.own u.sending ≡ taken_over u = ap (λ (o : OldSession). taken_from o u.own u.sending) (sym old) in
    let moved = flushes b (switched u.own E) t z up refl (omega arith) in
    subst (λ y. Become b y (near_more t (e.fsm.own + 1 - t.near.first) (take (room (offered fresh (taken_over u))) (taken_over u))) z) (sym (risen_seen x e e' f s u (beside x.bearer) h k))
    (subst (λ ps. Become b (record { bearer = x.bearer; near = record { epoch = e.fsm.own; state = Up; window = advanced (room (offered fresh ps)) (offered fresh ps) }; far = record { epoch = f.fsm.own; state = Up; window = without_waiting u.sending } }) (near_more t (e.fsm.own + 1 - t.near.first) (take (room (offered fresh ps)) ps)) z) taken_is moved)
