-- A link of a pair goes up, goes down or stays in a call: what that makes of both links as senders.
use Rattle.std.proofs.Common.{◌≡◌, ◌≢◌, ◌==◌, ℕ, ◌+◌, ◌≤◌, true, false, if◌then◌else◌, Option, Some, None, option_map, length, take, [], refl, sym, ap, ◌∙◌, subst, inl, inr, arith, length-append}
use Rattle.std.proofs.lemmas.Bool.{cases_Bool}
use Rattle.std.proofs.lemmas.List.{length-take}
use Rattle.tipc_types.specs.LinkStates.{is_up}
use Rattle.tipc_types.specs.declared.link_words.LinkState.{LinkState}
use Rattle.tipc_types.specs.declared.link_words.Reply.TheVariants as reply
use Rattle.tipc_header.specs.declared.packet.ChangeoverType.TheVariants.{Duplicate, Original}
use Rattle.tipc_send_window.specs.Sending.{Sending, emptied, fresh, offered, without_waiting, advanced, room}
use Rattle.tipc_link_fsm.specs.declared.changes.Change.{Change}
use Rattle.tipc_link_fsm.specs.declared.changes.Change.TheVariants.{Answer, Up as GoesUp}
use Rattle.tipc_link_fsm.specs.Table.{Fsm, Outcome, is_held}
use Rattle.tipc_link.specs.Links.{LinkEnd, after, followed, with_fsm}
use Rattle.tipc_link.specs.Sessions.{SessionEnd, flushed, put, after_state}
use Rattle.tipc_pair.specs.Changeovers.{contact_begins, contact_ends, fail_over, gone_up, parted_end, switch}
use Rattle.tipc_pair.specs.Courses.{rests}
use Rattle.tipc_pair.specs.Facing.{PairEnds, in_contact, is_up_at, with_near}
use Rattle.tipc_pair.specs.Runs.{left_by, taken_over}
use Rattle.tipc_pair.proofs.EndSteps.{fsm_after}
use Rattle.tipc_pair.proofs.HeldLaws.{not_in}
use Rattle.tipc_changeover.specs.Links.{Bearer, First, Held, Reset, State, Up}
use Rattle.tipc_changeover.specs.Sound.{Sound}
use Rattle.tipc_two_nodes.specs.links.Traffic.{Traffic}
use Rattle.tipc_two_nodes.specs.links.Sending.{SendingEnd, SendingEnds, StandFor, beside, end_seen, ends_seen, state_as, window_in}
use Rattle.tipc_two_nodes.specs.links.Following.{Become, stays}
use Rattle.tipc_two_nodes.specs.links.Steps.{near_more}
use Rattle.tipc_two_nodes.specs.links.Ends.{IsFallen, IsRisen, IsUpAt, far_more, gets, session_by}
use Rattle.tipc_two_nodes.specs.links.Turning.{IsRunning, RunsWhereUp, is_rise}
use Rattle.tipc_two_nodes.specs.links.Acting.{Acted, IsOver, HasNumbered, had, window_at}
use Rattle.tipc_two_nodes.proofs.links.calls.Acted.{ActedNear, Falls, acted_none, falls_acted, near_acted, near_first, numbers_none, numbers_same}
use Rattle.tipc_two_nodes.proofs.links.calls.FollowingOn.{can_go, far_not_up, first_bearer, held_or_reset, not_first}
use Rattle.tipc_two_nodes.proofs.deeds.Pairs.{up_end as far_end}
use Rattle.tipc_two_nodes.proofs.links.calls.Freeing.{AreUp, UpWhere}
use Rattle.tipc_two_nodes.proofs.links.sender.LinkSteps.{rises}
use Rattle.tipc_two_nodes.proofs.links.sender.Numbering.{traffic_none}
use Rattle.tipc_two_nodes.proofs.links.sender.PairSteps.{beside_seen, both_seen, fails_over, fallen_pair, fallen_seen, risen_pair, risen_seen, seen_some, switches_over}

-- ---- a step

-- What a step of the near link made of a pair: an end may be released then; and where the near link is up, the far one's packets can travel if
-- they could.
pub record Walk (b : Bearer) (x y : PairEnds) (t : Traffic) (z : State) : Type 0 where
  pub contact : y.contact ≡ x.contact
  pub acted : Acted b (ends_seen x) (ends_seen y) t z
  pub up : AreUp y
  pub runs : is_up_at y.near ≡ true → RunsWhereUp (beside x.bearer) x.far → RunsWhereUp (beside x.bearer) y.far

-- the near link went up: packets get numbers on it alone
pub record Rise (b : Bearer) (x y : PairEnds) (t : Traffic) (z : State) : Type 0 where
  pub contact : y.contact ≡ x.contact
  pub near : ActedNear b (ends_seen x) (ends_seen y) t z
  pub up : AreUp y
  pub runs : RunsWhereUp (beside x.bearer) x.far → RunsWhereUp (beside x.bearer) y.far

pub rise_walk : (b : Bearer) (x y : PairEnds) (t : Traffic) (z : State) → Rise b x y t z → Walk b x y t z
rise_walk b x y t z h = record { contact = h.contact; acted = near_acted b (ends_seen x) (ends_seen y) t z h.near; up = h.up; runs = λ up. h.runs }

-- ---- packets that move up

-- an end that is up then numbers packets that wait
pub numbers_moved : (e : SendingEnd) (epoch : ℕ) (w : Sending) → w.numbered ≡ had Up e.state e.window.numbered → HasNumbered e (record { epoch = epoch; state = Up; window = advanced (room w) w }) (take (room w) w.waiting)
numbers_moved e epoch w same =
    let n : ℕ = room w in
    let long = length-take n w.waiting in
    record { count = (let moved : n ≡ length (take n w.waiting) = omega arith in ap (λ k. k + n) same ∙ ap (λ k. had Up e.state e.window.numbered + k) moved); older = w.unacked; unacked = refl }

-- ---- links that are up

pub down_some : (g : LinkEnd) → is_up g.fsm.state ≡ false → UpWhere (Some g)
down_some g down = λ e is up. absurd (let same : g ≡ e = cc in let wrong : true ≡ false = sym up ∙ (ap (λ (d : LinkEnd). is_up d.fsm.state) (sym same) ∙ down) in let no : ⊥ = cc in no)

pub up_some : (g : LinkEnd) (s : SessionEnd) → g.session ≡ Some s → s.epoch ≡ g.fsm.own → length s.sending.unacked ≤ 50 → UpWhere (Some g)
up_some g s session epoch few = λ e is up. (let same : g ≡ e = cc in (
  s,
  record {
    end_is = is;
    up = up;
    session_is = ap (λ (d : LinkEnd). d.session) (sym same) ∙ session;
    epoch_is = epoch ∙ ap (λ (d : LinkEnd). d.fsm.own) same;
    bearer_is = refl;
    few = few;
  },
))

pub few_flushed : (s : SessionEnd) → length s.sending.unacked ≤ 50 → length (flushed s).sending.unacked ≤ 50
unfolding flushed
few_flushed s few = let n : ℕ = room s.sending in omega (arith, length-append s.sending.unacked (take n s.sending.waiting), length-take n s.sending.waiting)

pub epoch_flushed : (s : SessionEnd) → (flushed s).epoch ≡ s.epoch
unfolding flushed
epoch_flushed s = refl

pub not_up_held : (s : LinkState) → state_as s ≡ Held → is_up s ≡ false
not_up_held s so = elim (cases_Bool (is_up s)) [
  | inl up ↦ absurd (let now : state_as s ≡ Up = ap (λ b. if b then Up else (if is_held s then Held else Reset)) up in let wrong : Up ≡ Held = sym now ∙ so in let no : ⊥ = cc in no)
  | inr down ↦ down
]

-- ---- a link goes down while the other one is up

-- the link that went down isn't up
pub falls_down : (x : PairEnds) (e e' f : LinkEnd) (s u : SessionEnd) → IsFallen e e' → e.session ≡ Some s → x.far ≡ Some f → f.session ≡ Some u → is_up_at (fail_over (with_near x e')).pair.near ≡ false
falls_down x e e' f s u fall session far_is far_session = ap (λ (q : PairEnds). is_up_at q.near) (fallen_pair x e e' f s u (fall.session ∙ session) far_is far_session) ∙ not_up_held e'.fsm.state fall.held

-- the far one gets what this one leaves
pub falls_both : (b : Bearer) (x : PairEnds) (e e' f : LinkEnd) (u : SessionEnd) (t : Traffic) (z : State) → x.bearer ≤ 1 → IsRunning x.bearer x.near e → IsUpAt u.bearer x.far f u → IsFallen e e' → StandFor b (ends_seen x) t z → Sound b z
    → Falls b (ends_seen x) (ends_seen (fail_over (with_near x e')).pair) t z
falls_both b x e e' f u t z two r k fall stand sound =
    let s = r.session in
    let y = (fail_over (with_near x e')).pair in
    let seen = fallen_seen x e e' f s u u.bearer r.up_at k fall in
    let X : SendingEnds = record { bearer = x.bearer; near = record { epoch = e.fsm.own; state = Up; window = s.sending }; far = record { epoch = f.fsm.own; state = Up; window = u.sending } } in
    let w = (put u (left_by s)).sending in
    let Y : SendingEnds = record { bearer = x.bearer; near = record { epoch = e.fsm.own + 1; state = Held; window = emptied s.sending }; far = record { epoch = f.fsm.own; state = Up; window = advanced (room w) w } } in
    let B = fails_over b x e e' f s u u.bearer t z r.up_at k fall stand sound (can_go Original x.bearer x.near e two r) in
    let moved = numbers_moved X.far f.fsm.own w refl in
    let falls : Falls b X Y t z = record {
      packets = gets u (left_by s);
      was = refl;
      held = refl;
      count = refl;
      epoch = refl;
      far_was = refl;
      far_is = refl;
      more = moved.count;
      behind = refl;
      become = subst (λ q. Become b q (far_more t (session_by t.far Y.far) (gets u (left_by s))) z) seen B;
    } in
    subst (λ q. Falls b (ends_seen x) q t z) (sym seen) (subst (λ q. Falls b q Y t z) (sym (both_seen x x.bearer u.bearer e f s u r.up_at k)) falls)

pub falls_walk : (b : Bearer) (x : PairEnds) (e e' f : LinkEnd) (u : SessionEnd) (t : Traffic) (z : State) → x.bearer ≤ 1 → IsRunning x.bearer x.near e → IsUpAt u.bearer x.far f u → IsFallen e e' → Falls b (ends_seen x) (ends_seen (fail_over (with_near x e')).pair) t z
    → Walk b x (fail_over (with_near x e')).pair t z
falls_walk b x e e' f u t z two r k fall h =
    let s = r.session in
    let y = (fail_over (with_near x e')).pair in
    let pair = fallen_pair x e e' f s u (fall.session ∙ r.up_at.session_is) k.end_is k.session_is in
    let fallen = record e' { session = Some (record s { sending = emptied s.sending }) } in
    let carrier = record f { session = Some (flushed (put u (left_by s))) } in
    record {
      contact = ap (λ (q : PairEnds). q.contact) pair;
      acted = falls_acted b (ends_seen x) (ends_seen y) t z h;
      up = subst AreUp (sym pair) (record {
        near = down_some fallen (not_up_held e'.fsm.state fall.held);
        far = up_some carrier (flushed (put u (left_by s))) refl (epoch_flushed (put u (left_by s)) ∙ k.epoch_is) (few_flushed (put u (left_by s)) k.few);
      });
      runs = λ up. absurd (let now = falls_down x e e' f s u fall r.up_at.session_is k.end_is k.session_is in let wrong : true ≡ false = sym up ∙ now in let no : ⊥ = cc in no);
    }

-- ---- the last link goes down

parted_window : (contact seen : ℕ) (o : Option LinkEnd) → window_at (option_map (parted_end contact seen) o) ≡ window_at o
parted_window contact seen None = refl
parted_window contact seen (Some e) = refl

pub parts_over : (x w : PairEnds) (after_state : ℕ × ℕ) (shown : ℕ) → in_contact x ≡ true → w.contact ≡ x.contact → window_at w.near ≡ window_at x.near → window_at w.far ≡ window_at x.far → IsOver x (contact_ends w after_state shown).pair
parts_over x w after_state shown there contact near far = record {
  was = there;
  out = not_in w;
  next = ap (λ n. n + 1) contact;
  near = parted_window (w.contact + 1) w.seen w.near ∙ near;
  far = parted_window (w.contact + 1) w.seen w.far ∙ far;
}

-- ---- a link goes up

-- the session of a link that went up has the end's epoch
pub risen_up : (e e' : LinkEnd) (s : SessionEnd) → IsRisen e e' s → s.epoch ≡ e'.fsm.own → UpWhere (Some e')
risen_up e e' s h epoch = up_some e' s h.session_is epoch (let none : length s.sending.unacked ≡ 0 = ap (λ (w : Sending). length w.unacked) h.fresh_is in omega arith)

-- a link whose waiting packets moved to the other one
waiting_runs : (bearer : ℕ) (o : Option LinkEnd) (f : LinkEnd) (r : IsRunning bearer o f) → RunsWhereUp bearer (Some (record f { session = Some (record r.session { sending = without_waiting r.session.sending }) }))
waiting_runs bearer o f r =
    let left = record f { session = Some (record r.session { sending = without_waiting r.session.sending }) } in
    λ e is up. (let same : left ≡ e = cc in subst (λ d. IsRunning bearer (Some left) d) same (record {
      session = record r.session { sending = without_waiting r.session.sending };
      up_at = record { end_is = refl; up = r.up_at.up; session_is = refl; epoch_is = r.up_at.epoch_is; bearer_is = r.up_at.bearer_is; few = r.up_at.few };
      listed = r.listed;
      epoch = r.epoch;
      going_on = r.going_on;
    }))

-- in place of the other link
switches_rise : (b : Bearer) (x : PairEnds) (e e' f : LinkEnd) (s : SessionEnd) (t : Traffic) (z : State) → b ≡ First → beside x.bearer ≤ 1 → x.near ≡ Some e → IsRisen e e' s → s.epoch ≡ e'.fsm.own → (r : IsRunning (beside x.bearer) x.far f)
    → StandFor b (ends_seen x) t z → Sound b z → Rise b x (switch (with_near x e')).pair t z
switches_rise b x e e' f s t z first two is h epoch r stand sound =
    let u = r.session in
    let k = r.up_at in
    let seen = risen_seen x e e' f s u (beside x.bearer) h k in
    let X : SendingEnds = record { bearer = x.bearer; near = record { epoch = e.fsm.own; state = Reset; window = window_in e.session }; far = record { epoch = f.fsm.own; state = Up; window = u.sending } } in
    let w : Sending = offered fresh (taken_over u) in
    let Y : SendingEnds = record { bearer = x.bearer; near = record { epoch = e.fsm.own; state = Up; window = advanced (room w) w }; far = record { epoch = f.fsm.own; state = Up; window = without_waiting u.sending } } in
    let packets = take (room w) (taken_over u) in
    let B = switches_over b x e e' f s u t z first is h k stand sound (can_go Duplicate (beside x.bearer) x.far f two r) in
    let acted : ActedNear b X Y t z = record {
      packets = packets;
      near_is = numbers_moved X.near e.fsm.own w refl;
      count = refl;
      state = refl;
      become = subst (λ q. Become b q (near_more t (session_by t.near Y.near) packets) z) seen B;
    } in
    let pair = risen_pair x e' f s u h.session_is k.end_is k.session_is in
    let none : length s.sending.unacked ≡ 0 = ap (λ (v : Sending). length v.unacked) h.fresh_is in
    let risen = record e' { session = Some (flushed (put s (taken_over u))) } in
    let left = record f { session = Some (record u { sending = without_waiting u.sending }) } in
    record {
      contact = ap (λ (q : PairEnds). q.contact) pair;
      near = near_first b (ends_seen x) X (ends_seen (switch (with_near x e')).pair) Y t z (sym (beside_seen x (beside x.bearer) e f u is h.reset k)) (sym seen) acted;
      up = subst AreUp (sym pair) (record {
        near = up_some risen (flushed (put s (taken_over u))) refl (epoch_flushed (put s (taken_over u)) ∙ epoch) (few_flushed (put s (taken_over u)) (omega arith));
        far = up_some left (record u { sending = without_waiting u.sending }) refl k.epoch_is k.few;
      });
      runs = λ was. subst (λ (q : PairEnds). RunsWhereUp (beside x.bearer) q.far) (sym pair) (waiting_runs (beside x.bearer) x.far f r);
    }

-- the near end as it is seen, alone
near_alone : (x y : PairEnds) (e : SendingEnd) → y.bearer ≡ x.bearer → end_seen y.contact y.near ≡ e → end_seen y.contact y.far ≡ end_seen x.contact x.far → ends_seen y ≡ record { bearer = x.bearer; near = e; far = end_seen x.contact x.far }
near_alone x y e bearer near far =
    ap (λ n. record { bearer = n; near = end_seen y.contact y.near; far = end_seen y.contact y.far }) bearer
    ∙ (ap (λ d. record { bearer = x.bearer; near = d; far = end_seen y.contact y.far }) near ∙ ap (λ d. record { bearer = x.bearer; near = e; far = d }) far)

-- or beside it, or alone
rises_alone : (b : Bearer) (x : PairEnds) (e e' : LinkEnd) (s : SessionEnd) (t : Traffic) (z : State) → x.near ≡ Some e → IsRisen e e' s → s.epoch ≡ e'.fsm.own → UpWhere x.far → (b ≡ First → (end_seen x.contact x.far).state ≢ Up)
    → StandFor b (ends_seen x) t z → Sound b z → Rise b x (with_near x e') t z
rises_alone b x e e' s t z is h epoch far alone stand sound =
    let B = rises b x e e' s t z is h alone stand sound in
    let X : SendingEnds = record { bearer = x.bearer; near = record { epoch = e.fsm.own; state = Reset; window = window_in e.session }; far = end_seen x.contact x.far } in
    let Y : SendingEnds = record { bearer = x.bearer; near = record { epoch = e.fsm.own; state = Up; window = fresh }; far = end_seen x.contact x.far } in
    let was : end_seen x.contact x.near ≡ X.near = ap (end_seen x.contact) is ∙ ap (λ q. record { epoch = e.fsm.own; state = q; window = window_in e.session }) h.reset in
    let now : end_seen x.contact (Some e') ≡ Y.near = seen_some x.contact (Some e') e' s Up refl h.session_is h.up
    ∙ (ap (λ n. record { epoch = n; state = Up; window = s.sending }) h.own ∙ ap (λ w. record { epoch = e.fsm.own; state = Up; window = w }) h.fresh_is) in
    let seen = near_alone x (with_near x e') Y.near refl now refl in
    let acted : ActedNear b X Y t z = record {
      packets = [];
      near_is = numbers_none X.near Y.near refl;
      count = refl;
      state = refl;
      become = subst (λ u. Become b Y u z) (sym (traffic_none t (session_by t.near Y.near))) (subst (λ q. Become b q t z) seen B);
    } in
    record {
      contact = refl;
      near = near_first b (ends_seen x) X (ends_seen (with_near x e')) Y t z (sym (near_alone x x X.near refl was refl)) (sym seen) acted;
      up = record { near = risen_up e e' s h epoch; far = far };
      runs = λ was. was;
    }

pub rise_same : (b : Bearer) (x y y' : PairEnds) (t : Traffic) (z : State) → y ≡ y' → Rise b x y t z → Rise b x y' t z
rise_same b x y y' t z same h = subst (λ q. Rise b x q t z) same h

-- a message that is begun isn't seen of a sender
begun_rise : (b : Bearer) (x y : PairEnds) (t : Traffic) (z : State) → Rise b x y t z → Rise b x (contact_begins y).pair t z
begun_rise b x y t z h = record { contact = h.contact; near = h.near; up = record { near = h.up.near; far = h.up.far }; runs = h.runs }

pub goes_up_rise : (b : Bearer) (x : PairEnds) (e e' : LinkEnd) (s : SessionEnd) (t : Traffic) (z : State) → x.bearer ≤ 1 → x.near ≡ Some e → IsRisen e e' s → s.epoch ≡ e'.fsm.own → UpWhere x.far → RunsWhereUp (beside x.bearer) x.far
    → StandFor b (ends_seen x) t z → Sound b z → Rise b x (gone_up (with_near x e')).pair t z
goes_up_rise b x e e' s t z two is h epoch far runs stand sound =
    let y = with_near x e' in
    elim (cases_Bool (is_up_at x.far)) [
      | inl far_up ↦ elim (cases_Bool (x.bearer == 0)) [
        | inl zero ↦ (
            let f = far_end x.far far_up in
            let pair : (switch y).pair ≡ (gone_up y).pair = ap (λ q. (if q then switch y else rests y).pair) (sym zero) ∙ ap (λ q. (if q then (if x.bearer == 0 then switch y else rests y) else contact_begins y).pair) (sym far_up) in
            rise_same b x (switch y).pair (gone_up y).pair t z pair (switches_rise b x e e' f.0 s t z (first_bearer b x.bearer stand.bearer zero) (omega arith) is h epoch (runs f.0 f.1 f.2) stand sound))
        | inr other ↦ (
            let pair : y ≡ (gone_up y).pair = ap (λ q. (if q then switch y else rests y).pair) (sym other) ∙ ap (λ q. (if q then (if x.bearer == 0 then switch y else rests y) else contact_begins y).pair) (sym far_up) in
            rise_same b x y (gone_up y).pair t z pair (rises_alone b x e e' s t z is h epoch far (λ first. absurd (not_first b x.bearer stand.bearer other first)) stand sound))
      ]
      | inr down ↦ (
          let pair : (contact_begins y).pair ≡ (gone_up y).pair = ap (λ q. (if q then (if x.bearer == 0 then switch y else rests y) else contact_begins y).pair) (sym down) in
          rise_same b x (contact_begins y).pair (gone_up y).pair t z pair (begun_rise b x y t z (rises_alone b x e e' s t z is h epoch far (λ first. far_not_up x.contact x.far down) stand sound)))
    ]

-- ---- a link that stays

pub up_as : (s : LinkState) → state_as s ≡ Up → is_up s ≡ true
up_as s so = elim (cases_Bool (is_up s)) [ inl up ↦ up | inr down ↦ absurd (held_or_reset s down so) ]

-- two ends with the same link states and session
pub record Alike (e e' : LinkEnd) : Type 0 where
  pub fsm : e'.fsm ≡ e.fsm
  pub session : e'.session ≡ e.session

pub seen_alike : (contact : ℕ) (e e' : LinkEnd) → Alike e e' → end_seen contact (Some e') ≡ end_seen contact (Some e)
seen_alike contact e e' h =
    ap (λ (f : Fsm). record { epoch = f.own; state = state_as f.state; window = window_in e'.session }) h.fsm
    ∙ ap (λ o. record { epoch = e.fsm.own; state = state_as e.fsm.state; window = window_in o }) h.session

pub up_alike : (e e' : LinkEnd) → Alike e e' → UpWhere (Some e) → UpWhere (Some e')
up_alike e e' h up = λ d is so.
    (let same : e' ≡ d = cc in
    let k = up e refl (ap (λ (f : Fsm). is_up f.state) (sym h.fsm) ∙ (ap (λ (q : LinkEnd). is_up q.fsm.state) same ∙ so)) in
    up_some e' k.0 (h.session ∙ k.1.session_is) (k.1.epoch_is ∙ ap (λ (f : Fsm). f.own) (sym h.fsm)) k.1.few d is so)

-- the session of an end that doesn't go up stays, but for what was told
followed_session : (e : LinkEnd) (k : Change) (s : SessionEnd) → is_rise k ≡ false → e.session ≡ Some s → (u : SessionEnd) × ((followed e k).session ≡ Some u) × (u.epoch ≡ s.epoch) × (u.sending ≡ s.sending)
followed_session e GoesUp s other is = absurd (let wrong : ⊥ = cc in wrong)
followed_session e (Answer (reply.State probe)) s other is = (after_state s, ap (option_map after_state) is, refl, refl)
followed_session e k s other is = (s, is, refl, refl)

pub up_followed : (e : LinkEnd) (o : Outcome) → UpWhere (Some e) → is_rise o.change ≡ false → o.after.own ≡ e.fsm.own → (is_up o.after.state ≡ true → is_up e.fsm.state ≡ true) → UpWhere (Some (after e o))
up_followed e o up other own was = λ d is so.
    (let same : after e o ≡ d = cc in
    let fsm = fsm_after e o in
    let now : is_up o.after.state ≡ true = ap (λ (f : Fsm). is_up f.state) (sym fsm) ∙ (ap (λ (q : LinkEnd). is_up q.fsm.state) same ∙ so) in
    let k = up e refl (was now) in
    let u = followed_session (with_fsm e o.after) o.change k.0 other k.1.session_is in
    up_some (after e o) u.0 u.1 (u.2 ∙ (k.1.epoch_is ∙ (sym own ∙ ap (λ (f : Fsm). f.own) (sym fsm)))) (subst (λ (w : Sending). length w.unacked ≤ 50) (sym u.3) k.1.few) d is so)

pub ends_same : (x : PairEnds) (e e' : LinkEnd) → x.near ≡ Some e → end_seen x.contact (Some e') ≡ end_seen x.contact (Some e) → ends_seen (with_near x e') ≡ ends_seen x
ends_same x e e' is same = near_alone x (with_near x e') (ends_seen x).near refl (same ∙ ap (end_seen x.contact) (sym is)) refl

pub rests_walk : (b : Bearer) (x : PairEnds) (e e' : LinkEnd) (t : Traffic) (z : State) → x.near ≡ Some e → end_seen x.contact (Some e') ≡ end_seen x.contact (Some e) → UpWhere (Some e') → UpWhere x.far → StandFor b (ends_seen x) t z → Walk b x (with_near x e') t z
rests_walk b x e e' t z is same up far stand =
    let X = ends_seen x in
    let seen = ends_same x e e' is same in
    let acted : Acted b X X t z = acted_none b X X t z (numbers_same X.near) (numbers_same X.far) (record { state = z; follows = stays; stand = stand }) in
    record { contact = refl; acted = subst (λ q. Acted b X q t z) (sym seen) acted; up = record { near = up; far = far }; runs = λ so was. was }
