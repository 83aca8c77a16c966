-- What one link of a pair does as a sender, as events: it goes up beside the other one or alone, hears an acknowledgement, has packets put
-- on it, and is held no longer.
use Rattle.std.proofs.Common.{◌≡◌, ◌≢◌, ℕ, ◌+◌, ◌-◌, ◌≤◌, ◌==◌, Bool, true, false, List, [], ◌∷◌, Some, length, cond, refl, sym, ap, ◌∙◌, subst, inl, inr, arith}
use Rattle.std.specs.Prelude.{count_by, min}
use Rattle.std.proofs.lemmas.Bool.{cases_Bool}
use Rattle.std.proofs.lemmas.Bool.Decides.{nat_tests}
use Rattle.std.proofs.lemmas.List.{length-drop}
use Rattle.std.proofs.lemmas.List.Sums.{sum_by-cons}
use Rattle.tipc_send_window.specs.Sending.{Sending, acknowledged, offered, release_count, swapped, advanced, room}
use Rattle.tipc_link_fsm.specs.Table.{is_held, release}
use Rattle.tipc_link.specs.Links.{LinkEnd, tunnels_of, with_fsm, with_session}
use Rattle.tipc_link.specs.Records.{is_tunnel}
use Rattle.tipc_link.specs.Sessions.{with_last as with_last_packet, Carries, Content, Nothing, SessionEnd, Shows, arrived, flushed, last_of, moving, put, after_acknowledgement, repeated, spoke}
use Rattle.tipc_pair.specs.Changeovers.{is_clear, release_near}
use Rattle.tipc_pair.specs.Facing.{PairEnds, with_near}
use Rattle.tipc_changeover.specs.Links.{leads, Bearer, First, Held, Reset, State, Up}
use Rattle.tipc_changeover.specs.Sound.{Sound}
use Rattle.tipc_two_nodes.specs.links.Traffic.{Traffic}
use Rattle.tipc_two_nodes.specs.links.Sending.{SendingEnds, StandFor, end_seen, ends_seen, state_as, window_in}
use Rattle.tipc_two_nodes.specs.links.Following.{Become, stays}
use Rattle.tipc_two_nodes.specs.links.Steps.{ArePlain, AreTaken, let_go, near_more, near_up, near_window, with_last_put, with_put}
use Rattle.tipc_two_nodes.proofs.links.sender.Calls.{acknowledges, goes_up, puts}
use Rattle.tipc_two_nodes.proofs.links.sender.Changing.{releases}
use Rattle.tipc_two_nodes.proofs.links.sender.Joining.{joins as joined}
use Rattle.tipc_two_nodes.specs.links.Ends.{IsRisen, IsUpAt, StaysUp, heard_window, up_beside}
use Rattle.tipc_two_nodes.proofs.links.sender.PairSteps.{flushes, seen_some, up_state}

pub near_seen : (x : PairEnds) (e : LinkEnd) (s : SessionEnd) → IsUpAt x.bearer x.near e s → ends_seen x ≡ up_beside x e s
near_seen x e s h = ap (λ z. record { bearer = x.bearer; near = z; far = end_seen x.contact x.far }) (seen_some x.contact x.near e s Up h.end_is h.session_is (up_state e h.up))

pub after_seen : (x : PairEnds) (e e' : LinkEnd) (s : SessionEnd) (w : Sending) → StaysUp e e' w → ends_seen (with_near x e') ≡ near_window (up_beside x e s) w
after_seen x e e' s w h =
    ap (λ z. record { bearer = x.bearer; near = z; far = end_seen x.contact x.far }) (seen_some x.contact (Some e') e' h.session Up refl h.session_is (up_state e' h.up)
    ∙ (ap (λ n. record { epoch = n; state = Up; window = h.session.sending }) h.own ∙ ap (λ v. record { epoch = e.fsm.own; state = Up; window = v }) h.window_is))

-- ---- an acknowledgement, and packets that move up

pub count_within : (w : Sending) (number : ℕ) → release_count w number ≤ length w.unacked
unfolding release_count
count_within w number = grind (arith, nat_tests)

pub spoke_same : {A : Type 0} (s : SessionEnd) (xs : List A) → (spoke s xs).sending ≡ s.sending
spoke_same s [] = refl
spoke_same s (x ∷ xs) = refl

-- what a STATE or a numbered packet makes of a session's window
pub arrived_window : (s : SessionEnd) (by acknowledgement : ℕ) (c : Content) → c ≢ Nothing → (arrived s by acknowledgement c).sending ≡ heard_window s.sending acknowledgement
unfolding flushed
arrived_window s by acknowledgement (Shows next gap probe) some =
    ap (λ (w : Sending). advanced (room w) w) (spoke_same (after_acknowledgement s acknowledgement) (repeated (after_acknowledgement s acknowledgement) acknowledgement gap))
arrived_window s by acknowledgement (Carries number packet) some = refl
arrived_window s by acknowledgement Nothing some = absurd (some refl)

pub hears : (b : Bearer) (x : PairEnds) (e e' : LinkEnd) (s : SessionEnd) (t : Traffic) (z : State) (acknowledgement : ℕ) → IsUpAt x.bearer x.near e s → StaysUp e e' (heard_window s.sending acknowledgement) → StandFor b (ends_seen x) t z
    → (1 ≤ release_count s.sending acknowledgement → AreTaken z (release_count s.sending acknowledgement))
    → Become b (ends_seen (with_near x e')) (near_more t (e.fsm.own + 1 - t.near.first) (moving (record s { sending = acknowledged s.sending acknowledgement }))) z
hears b x e e' s t z acknowledgement h up stand taken =
    let E = up_beside x e s in
    let stand' = subst (λ y. StandFor b y t z) (near_seen x e s h) stand in
    let few = h.few in
    let count = release_count s.sending acknowledgement in
    let acked = acknowledges count b E t z stand' refl (count_within s.sending acknowledgement) taken in
    let fewer = length-drop count s.sending.unacked in
    let moved = flushes b (near_window E (acknowledged s.sending acknowledgement)) t z acked refl (omega arith) in
    subst (λ y. Become b y (near_more t (e.fsm.own + 1 - t.near.first) (moving (record s { sending = acknowledged s.sending acknowledgement }))) z) (sym (after_seen x e e' s (heard_window s.sending acknowledgement) up)) moved

-- ---- a link goes up, and takes nothing over

pub rises : (b : Bearer) (x : PairEnds) (e e' : LinkEnd) (s : SessionEnd) (t : Traffic) (z : State) → x.near ≡ Some e → IsRisen e e' s → (b ≡ First → (end_seen x.contact x.far).state ≢ Up) → StandFor b (ends_seen x) t z → Sound b z
    → Become b (ends_seen (with_near x e')) t z
rises b x e e' s t z is h alone stand sound =
    let E : SendingEnds = record { bearer = x.bearer; near = record { epoch = e.fsm.own; state = Reset; window = window_in e.session }; far = end_seen x.contact x.far } in
    let seen : ends_seen x ≡ E = ap (λ y. record { bearer = x.bearer; near = y; far = end_seen x.contact x.far }) (ap (end_seen x.contact) is ∙ ap (λ y. record { epoch = e.fsm.own; state = y; window = window_in e.session }) h.reset) in
    let after : ends_seen (with_near x e') ≡ near_up E = ap (λ y. record { bearer = x.bearer; near = y; far = end_seen x.contact x.far }) (seen_some x.contact (Some e') e' s Up refl h.session_is h.up
    ∙ (ap (λ n. record { epoch = n; state = Up; window = s.sending }) h.own ∙ ap (λ w. record { epoch = e.fsm.own; state = Up; window = w }) h.fresh_is)) in
    subst (λ y. Become b y t z) (sym after) (goes_up b E t z (subst (λ y. StandFor b y t z) seen stand) sound refl alone)

-- ---- an end is held no longer

one_more : (b : Bool) (n : ℕ) → cond b 1 0 + n ≡ 0 → b ≡ true → ⊥
one_more true n none is = omega arith
one_more false n none is = cc

rest_none : (b : Bool) (n : ℕ) → cond b 1 0 + n ≡ 0 → n ≡ 0
rest_none true n none = absurd (let wrong : ⊥ = omega arith in wrong)
rest_none false n none = omega arith

count_plain : (ps : List (List ℕ)) → count_by is_tunnel ps ≡ 0 → ArePlain ps
count_plain [] none = tt
count_plain (p ∷ ps) none =
    let all = sym (sum_by-cons (λ (q : List ℕ). cond (is_tunnel q) 1 0) p ps) ∙ none in
    elim (cases_Bool (is_tunnel p)) [
      | inl tunnel ↦ absurd (one_more (is_tunnel p) (count_by is_tunnel ps) all tunnel)
      | inr plain ↦ (plain, count_plain ps (rest_none (is_tunnel p) (count_by is_tunnel ps) all))
    ]

clear_counts : (f : LinkEnd) (u : SessionEnd) → f.session ≡ Some u → is_clear (Some f) ≡ true → (count_by is_tunnel u.sending.unacked ≡ 0) × (count_by is_tunnel u.sending.waiting ≡ 0)
clear_counts f u is clear =
    let none : min (count_by is_tunnel u.sending.unacked + count_by is_tunnel u.sending.waiting) 4294967295 ≡ 0 = (let test : (tunnels_of (Some u) == 0) ≡ true = ap (λ o. tunnels_of o == 0) (sym is) ∙ clear in grind (arith, nat_tests)) in
    (omega arith, omega arith)

pub released_state : (e : LinkEnd) → is_held e.fsm.state ≡ true → ((release e.fsm).after.own ≡ e.fsm.own) × (state_as (release e.fsm).after.state ≡ Reset)
unfolding release
released_state e held = (rw held refl, rw held refl)

pub lets_go : (b : Bearer) (x : PairEnds) (e f : LinkEnd) (u : SessionEnd) (bearer' : ℕ) (t : Traffic) (z : State) → x.near ≡ Some e → state_as e.fsm.state ≡ Held → is_held e.fsm.state ≡ true → IsUpAt bearer' x.far f u → is_clear x.far ≡ true
    → StandFor b (ends_seen x) t z → Become b (ends_seen (release_near x).pair) t z
lets_go b x e f u bearer' t z is held so k clear stand =
    let E : SendingEnds = record { bearer = x.bearer; near = record { epoch = e.fsm.own; state = Held; window = window_in e.session }; far = record { epoch = f.fsm.own; state = Up; window = u.sending } } in
    let far_seen = seen_some x.contact x.far f u Up k.end_is k.session_is (up_state f k.up) in
    let seen : ends_seen x ≡ E = ap (λ y. record { bearer = x.bearer; near = y; far = end_seen x.contact x.far }) (ap (end_seen x.contact) is ∙ ap (λ y. record { epoch = e.fsm.own; state = y; window = window_in e.session }) held)
    ∙ ap (λ y. record { bearer = x.bearer; near = record { epoch = e.fsm.own; state = Held; window = window_in e.session }; far = y }) far_seen in
    let e' = with_fsm e (release e.fsm).after in
    let counts = clear_counts f u k.session_is (ap is_clear (sym k.end_is) ∙ clear) in
    let state = released_state e so in
    let pair : (release_near x).pair ≡ record x { near = Some e' } = rw (clear, is) refl in
    let after : ends_seen (release_near x).pair ≡ let_go E (window_in e.session) = ap ends_seen pair
    ∙ (ap (λ n. record { bearer = x.bearer; near = record { epoch = n; state = state_as (release e.fsm).after.state; window = window_in e.session }; far = end_seen x.contact x.far }) state.0
    ∙ (ap (λ y. record { bearer = x.bearer; near = record { epoch = e.fsm.own; state = y; window = window_in e.session }; far = end_seen x.contact x.far }) state.1
    ∙ ap (λ y. record { bearer = x.bearer; near = record { epoch = e.fsm.own; state = Reset; window = window_in e.session }; far = y }) far_seen)) in
    subst (λ y. Become b y t z) (sym after) (releases b E t z (window_in e.session) (subst (λ y. StandFor b y t z) seen stand) refl refl (count_plain u.sending.unacked counts.0) (count_plain u.sending.waiting counts.1))

-- ---- packets are put

-- the packets of a message wait behind all others, and packets that wait move up
pub puts_on : (b : Bearer) (x : PairEnds) (e : LinkEnd) (s : SessionEnd) (pieces : List (List ℕ)) (t : Traffic) (z : State) → IsUpAt x.bearer x.near e s → leads b Up (end_seen x.contact x.far).state ≡ true → ArePlain pieces → StandFor b (ends_seen x) t z
    → Become b (ends_seen (with_near x (with_session e (flushed (put s pieces))))) (near_more (with_put t pieces) (e.fsm.own + 1 - t.near.first) (moving (put s pieces))) z
unfolding flushed
puts_on b x e s pieces t z h leading plain stand =
    let E = up_beside x e s in
    let stand' = subst (λ y. StandFor b y t z) (near_seen x e s h) stand in
    let waiting = puts pieces b E t z stand' leading plain in
    let moved = flushes b (near_window E (offered s.sending pieces)) (with_put t pieces) z waiting refl h.few in
    let w = offered s.sending pieces in
    let stays : StaysUp e (with_session e (flushed (put s pieces))) (advanced (room w) w) = record { own = refl; up = h.up; session = flushed (put s pieces); session_is = refl; window_is = refl } in
    subst (λ y. Become b y (near_more (with_put t pieces) (e.fsm.own + 1 - t.near.first) (moving (put s pieces))) z) (sym (after_seen x e (with_session e (flushed (put s pieces))) s (advanced (room w) w) stays)) moved

-- a packet joins the last one that waits
pub joins_on : (b : Bearer) (x : PairEnds) (e : LinkEnd) (s : SessionEnd) (bundle : List ℕ) (t : Traffic) (z : State) → IsUpAt x.bearer x.near e s → 1 ≤ length s.sending.waiting → is_tunnel (last_of s) ≡ false → is_tunnel bundle ≡ false
    → StandFor b (ends_seen x) t z → Sound b z → Become b (ends_seen (with_near x (with_session e (flushed (with_last_packet s bundle))))) (near_more (with_last_put t bundle) (e.fsm.own + 1 - t.near.first) (moving (with_last_packet s bundle))) z
unfolding flushed
joins_on b x e s bundle t z h some plain plain' stand sound =
    let E = up_beside x e s in
    let stand' = subst (λ y. StandFor b y t z) (near_seen x e s h) stand in
    let joined_stand = joined b E t z bundle stand' sound refl some plain plain' in
    let moved = flushes b (near_window E (swapped s.sending bundle)) (with_last_put t bundle) z (record { state = z; follows = stays; stand = joined_stand }) refl h.few in
    let w = swapped s.sending bundle in
    let stays_up : StaysUp e (with_session e (flushed (with_last_packet s bundle))) (advanced (room w) w) = record { own = refl; up = h.up; session = flushed (with_last_packet s bundle); session_is = refl; window_is = refl } in
    subst (λ y. Become b y (near_more (with_last_put t bundle) (e.fsm.own + 1 - t.near.first) (moving (with_last_packet s bundle))) z) (sym (after_seen x e (with_session e (flushed (with_last_packet s bundle))) s (advanced (room w) w) stays_up)) moved
