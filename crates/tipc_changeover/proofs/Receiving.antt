-- What the receiver does: it begins a record, takes a plain packet, and takes a tunnel packet and opens it.
use Rattle.std.proofs.Common.{◌≡◌, ℕ, ◌+◌, ◌<◌, ◌≤◌, nat_lt, Bool, true, false, List, [], ◌∷◌, ◌++◌, Some, length, refl, sym, ap, ◌∙◌, subst, inl, inr, arith}
use Rattle.std.proofs.lemmas.Bool.{cases_eq, cases_lt}
use Rattle.std.proofs.lemmas.Bool.Decides.{nat_tests}
use Rattle.std.proofs.lemmas.List.{append-nil}
use Rattle.tipc_changeover.specs.Slots.{at, counted, Plain, LinkSlot, Tunnel}
use Rattle.tipc_changeover.specs.Links.{other, turned_state, Bearer, Past, Receiver, Sender, State}
use Rattle.tipc_changeover.specs.Events.{acted, after_next, session_told, with_records, IsNext, MayAct, Deferred, Late, Next, Old, Opening, Passed, Record, TakePlain, TakeTunnel}
use Rattle.tipc_changeover.specs.Parts.{Delivered, Effect, Homes, IsTarget}
use Rattle.tipc_changeover.specs.Sound.{Sound}
use Rattle.tipc_changeover.proofs.Lists.{at_within, some_same}
use Rattle.tipc_changeover.proofs.Numbers.{counted-more}
use Rattle.tipc_changeover.proofs.Records.{before_next, ends_next, grows_next, grows_same, moved, next_is_past, next_not_past, next_number, next_past, past_next, turn, turn_back}

-- ---- slots at one place, and packets taken

same_slot : (line : ℕ → List LinkSlot) (e f p q : ℕ) (z w : LinkSlot) → e ≡ f → p ≡ q → at (line e) p ≡ Some z → at (line f) q ≡ Some w → z ≡ w
same_slot line e f p q z w session place here there =
    let moved : at (line e) p ≡ at (line f) q = ap (λ n. at (line n) p) session ∙ ap (λ n. at (line f) n) place in
    some_same (sym here ∙ (moved ∙ there))

not_both : {i f q : ℕ} {full : Bool} → Plain i ≡ Tunnel f q full → ⊥
not_both e = cc

delivered_same : (line : ℕ → List LinkSlot) (t t' : Receiver) (count : ℕ) → Delivered line t count →
    ((e p i : ℕ) → at (line e) p ≡ Some (Plain i) → Past t e p → Past t' e p) → ((e p i : ℕ) → at (line e) p ≡ Some (Plain i) → Past t' e p → Past t e p) → Delivered line t' count
delivered_same line t t' count h forth back = record {
  all = λ e p i there low. forth e p i there (h.all e p i there low);
  only = λ e p i there past. h.only e p i there (back e p i there past);
}

-- the next packet was taken, and stands in no such line
delivered_elsewhere : (line : ℕ → List LinkSlot) (t t' : Receiver) (count : ℕ) → Delivered line t count → ((e p : ℕ) → at (line e) p ≡ Some (Plain (count + 1)) → ⊥) →
    ((e p i : ℕ) → at (line e) p ≡ Some (Plain i) → Past t e p → Past t' e p) → ((e p i : ℕ) → at (line e) p ≡ Some (Plain i) → Past t' e p → Past t e p) → Delivered line t' (count + 1)
delivered_elsewhere line t t' count h absent forth back = record {
  all = λ e p i there low. elim (cases_eq i (count + 1)) [
    | inl same ↦ absurd (absent e p (there ∙ ap (λ n. Some (Plain n)) same))
    | inr differ ↦ forth e p i there (h.all e p i there (omega arith))
  ];
  only = λ e p i there past. (let low = h.only e p i there (back e p i there past) in omega arith);
}

-- the next packet was taken at the next place of a record
delivered_here : (b : Bearer) (x y : Sender) (r : Receiver) (numbered put count : ℕ) → Homes b x y numbered put → Delivered x.line r count → at (x.line r.session) (r.taken + 1) ≡ Some (Plain (count + 1)) → Delivered x.line (after_next r) (count + 1)
delivered_here b x y r numbered put count homes h here = record {
  all = λ e p i there low. elim (cases_eq i (count + 1)) [
    | inl same ↦ (
        let place = homes.once e p r.session (r.taken + 1) i there (here ∙ ap (λ n. Some (Plain n)) (sym same)) in
        inr (sym place.0, (let at_next = place.1 in omega arith)))
    | inr differ ↦ past_next r e p (h.all e p i there (omega arith))
  ];
  only = λ e p i there past. elim (next_past r e p past) [
    | inl old ↦ (let low = h.only e p i there old in omega arith)
    | inr new ↦ (
        let same : Plain i ≡ Plain (count + 1) = same_slot x.line e r.session p (r.taken + 1) (Plain i) (Plain (count + 1)) new.0 new.1 there here in
        let number : i ≡ count + 1 = cc in omega arith)
  ];
}

-- no plain packet stands at the next place, where a tunnel packet stands
next_tunnel_back : (line : ℕ → List LinkSlot) (r : Receiver) (f q : ℕ) (full : Bool) → at (line r.session) (r.taken + 1) ≡ Some (Tunnel f q full) → (e p i : ℕ) → at (line e) p ≡ Some (Plain i) → Past (after_next r) e p → Past r e p
next_tunnel_back line r f q full here e p i there past = elim (next_past r e p past) [
  | inl old ↦ old
  | inr new ↦ absurd (not_both (same_slot line e r.session p (r.taken + 1) (Plain i) (Tunnel f q full) new.0 new.1 there here))
]

-- what tunnel packets have done goes on, and holds of the one at the next place
effect_next : (line : ℕ → List LinkSlot) (r t t' : Receiver) (f q : ℕ) (full : Bool) → Effect line r t → at (line r.session) (r.taken + 1) ≡ Some (Tunnel f q full) → (1 ≤ q → Past t' f q) →
    ((e p : ℕ) → Past t e p → Past t' e p) → Effect line (after_next r) t'
effect_next line r t t' f q full h here done grows = record {
  done = λ e p f' q' full' there low past. elim (next_past r e p past) [
    | inl old ↦ grows f' q' (h.done e p f' q' full' there low old)
    | inr new ↦ (
        let same : Tunnel f' q' full' ≡ Tunnel f q full = same_slot line e r.session p (r.taken + 1) (Tunnel f' q' full') (Tunnel f q full) new.0 new.1 there here in
        let session : f ≡ f' = cc in
        let place : q ≡ q' = cc in
        subst (λ n. Past t' n q') session (subst (λ n. Past t' f n) place (done (subst (λ n. 1 ≤ n) (sym place) low))))
  ];
}

-- a plain packet at the next place asks nothing of the other link
effect_plain : (line : ℕ → List LinkSlot) (r t t' : Receiver) (i : ℕ) → Effect line r t → at (line r.session) (r.taken + 1) ≡ Some (Plain i) → ((e p : ℕ) → Past t e p → Past t' e p) → Effect line (after_next r) t'
effect_plain line r t t' i h here grows = record {
  done = λ e p f q full there low past. elim (next_past r e p past) [
    | inl old ↦ grows f q (h.done e p f q full there low old)
    | inr new ↦ absurd (not_both (sym (same_slot line e r.session p (r.taken + 1) (Tunnel f q full) (Plain i) new.0 new.1 there here)))
  ];
}

effect_grows : (line : ℕ → List LinkSlot) (r t t' : Receiver) → Effect line r t → ((e p : ℕ) → Past t e p → Past t' e p) → Effect line r t'
effect_grows line r t t' h grows = record { done = λ e p f q full there low past. grows f q (h.done e p f q full there low past) }

-- ---- a plain packet is taken

pub take_plain : (b : Bearer) (s : State) (index : ℕ) → Sound b s → MayAct b s (TakePlain index) → Sound b (acted s (TakePlain index))
take_plain b s index h here =
    let r = s.near_record in
    let t = s.far_record in
    let number : index ≡ h.count + 1 = next_number b s r.session (r.taken + 1) index h here (λ q low high. before_next r q high) (next_not_past r) in
    let high : index ≤ s.numbered = (h.near.homes.within r.session (r.taken + 1) index here).1 in
    let here' : at (s.near.line r.session) (r.taken + 1) ≡ Some (Plain (h.count + 1)) = here ∙ ap (λ n. Some (Plain n)) number in
    moved b s (after_next r) t (s.delivered ++ index ∷ []) (h.count + 1) h (record {
      near_grows = grows_next s.near.line r;
      far_grows = grows_same s.far.line t;
      near_ends = ends_next s.near r (Plain index) h.near.ends here;
      far_ends = h.far.ends;
      near_effect = effect_plain s.near.line r t t index h.near.effect here (λ e p past. past);
      far_effect = effect_grows s.far.line t r (after_next r) h.far.effect (past_next r);
      near_delivered = delivered_here b s.near s.far r s.numbered s.put h.count h.near.homes h.near.delivered here';
      far_delivered = delivered_elsewhere s.far.line t t h.count h.far.delivered (λ e p there. h.near.homes.apart r.session (r.taken + 1) e p (h.count + 1) here' there) (λ e p i there past. past) (λ e p i there past. past);
    }) (ap (λ d. d ++ index ∷ []) h.taken ∙ (ap (λ n. counted 0 h.count ++ n ∷ []) (let same : index ≡ 0 + h.count + 1 = omega arith in same) ∙ sym (counted-more 0 h.count))) (omega arith)

-- ---- a record is begun

abbrev pub fresh : ℕ → Receiver
fresh e = record { session = e; taken = 0 }

pub fresh_past : (r : Receiver) (e f q : ℕ) → r.session < e → Past r f q → Past (fresh e) f q
fresh_past r e f q less (inl later) = inl (omega arith)
fresh_past r e f q less (inr here) = inl (let same = here.0 in omega arith)

past_fresh : (b : Bearer) (s : State) (e f q : ℕ) → Sound b s → MayAct b s (Record e) → 1 ≤ q → q ≤ length (s.near.line f) → Past (fresh e) f q → Past s.near_record f q
past_fresh b s e f q h may low high (inl later) = let most = may.1 in elim (h.near.cover.covered f q (omega arith) low high) [
  | inl past ↦ past
  | inr w ↦ absurd (let below = may.2 w.1 in let last = w.0 in omega arith)
]
past_fresh b s e f q h may low high (inr here) = absurd (let none = here.1 in omega arith)

pub begin_record : (b : Bearer) (s : State) (e : ℕ) → Sound b s → MayAct b s (Record e) → Sound b (acted s (Record e))
begin_record b s e h may =
    let r = s.near_record in
    let t = s.far_record in
    let less : r.session < e = may.0 in
    moved b s (fresh e) t s.delivered h.count h (record {
      near_grows = λ f q low high past. fresh_past r e f q less past;
      far_grows = grows_same s.far.line t;
      near_ends = record {
        session_begun = h.near.ends.session_begun;
        record_shown = may.1;
        held = may.2;
        taken = omega arith;
        down = h.near.ends.down;
        later = h.near.ends.later;
        acked = h.near.ends.acked;
        acked_past = λ p low high. absurd (elim (h.near.ends.acked_past p low high) [
          | inl later ↦ (let most = may.1 in omega arith)
          | inr here ↦ (let most = may.1 in let same = here.0 in omega arith)
        ]);
      };
      far_ends = h.far.ends;
      near_effect = record { done = λ f p f' q' full there low past. (let real = at_within (s.near.line f) p (Tunnel f' q' full) there in h.near.effect.done f p f' q' full there low (past_fresh b s e f p h may real.0 real.1 past)) };
      far_effect = record { done = λ f p f' q' full there low past. fresh_past r e f' q' less (h.far.effect.done f p f' q' full there low past) };
      near_delivered = delivered_same s.near.line r (fresh e) h.count h.near.delivered (λ f p i there past. fresh_past r e f p less past)
          (λ f p i there past. (let real = at_within (s.near.line f) p (Plain i) there in past_fresh b s e f p h may real.0 real.1 past));
      far_delivered = h.far.delivered;
    }) h.taken h.within

-- ---- a tunnel packet is taken

-- what it tells of its session
pub told_none : (t : Receiver) (f : ℕ) → f ≤ t.session → session_told t f ≡ t
unfolding session_told
told_none t f low = let test : nat_lt t.session f ≡ false = grind (arith, nat_tests) in rw test refl

pub told_fresh : (t : Receiver) (f : ℕ) → t.session < f → session_told t f ≡ fresh f
unfolding session_told
told_fresh t f less = let test : nat_lt t.session f ≡ true = grind (arith, nat_tests) in rw test refl

pub told_session : (t : Receiver) (f : ℕ) → t.session ≤ f → (session_told t f).session ≡ f
told_session t f low = elim (cases_lt t.session f) [
  | inl less ↦ ap (λ (z : Receiver). z.session) (told_fresh t f less)
  | inr high ↦ ap (λ (z : Receiver). z.session) (told_none t f high) ∙ (let same : t.session ≡ f = omega arith in same)
]

-- a record of a session of which a tunnel packet of the other link speaks may be begun
pub told_sound : (b : Bearer) (s : State) (f q : ℕ) → Sound b s → IsTarget s.far f q → Sound b (with_records s s.near_record (session_told s.far_record f) s.delivered)
told_sound b s f q h target = elim (cases_lt s.far_record.session f) [
  | inl less ↦ subst (λ t. Sound b (with_records s s.near_record t s.delivered)) (sym (told_fresh s.far_record f less))
      (turn_back b (acted (turned_state s) (Record f)) (begin_record (other b) (turned_state s) f (turn b s h) (
        less,
        target.shown,
        (λ held. elim (cases_eq f s.far.session) [
          | inl same ↦ absurd (let up = target.up same in let wrong : ⊥ = cc in wrong)
          | inr differ ↦ (let shown = target.shown in omega arith)
        ]),
      )))
  | inr high ↦ subst (λ t. Sound b (with_records s s.near_record t s.delivered)) (sym (told_none s.far_record f high)) h
]

-- its place was taken before
pub take_old : (b : Bearer) (s : State) (f q : ℕ) (full : Bool) → Sound b s → IsNext s (Tunnel f q full) → (1 ≤ q → Past s.far_record f q) → Sound b (with_records s (after_next s.near_record) s.far_record (s.delivered ++ []))
take_old b s f q full h here done =
    let r = s.near_record in
    let t = s.far_record in
    moved b s (after_next r) t (s.delivered ++ []) h.count h (record {
      near_grows = grows_next s.near.line r;
      far_grows = grows_same s.far.line t;
      near_ends = ends_next s.near r (Tunnel f q full) h.near.ends here;
      far_ends = h.far.ends;
      near_effect = effect_next s.near.line r t t f q full h.near.effect here done (λ e p past. past);
      far_effect = effect_grows s.far.line t r (after_next r) h.far.effect (past_next r);
      near_delivered = delivered_same s.near.line r (after_next r) h.count h.near.delivered (λ e p i there past. past_next r e p past) (next_tunnel_back s.near.line r f q full here);
      far_delivered = h.far.delivered;
    }) (append-nil s.delivered ∙ h.taken) h.within

-- no place before its own is missing
pub in_turn : (b : Bearer) (s : State) (f q : ℕ) (full : Bool) → Sound b s → IsNext s (Tunnel f q full) → s.far_record.session ≡ f → q ≤ s.far_record.taken + 1
in_turn b s f q full h here session = elim (cases_lt (s.far_record.taken + 1) q) [
  | inl missing ↦ absurd (
      let r = s.near_record in
      let t = s.far_record in
      let past : Past t f (t.taken + 1) = elim (h.near.runs.lines r.session (r.taken + 1) f q full (t.taken + 1) here (omega arith) missing) [
        | inl past ↦ past
        | inr w ↦ h.near.effect.done r.session w.where_it_stands f (t.taken + 1) w.full w.there (omega arith) (before_next r w.where_it_stands w.earlier)
      ] in
      next_not_past t (subst (λ e. Past t e (t.taken + 1)) (sym session) past))
  | inr low ↦ low
]

-- a placeholder passes the next place of the other record
pub pass : (b : Bearer) (s : State) → Sound b s → IsNext s (Tunnel s.far_record.session (s.far_record.taken + 1) false) → Sound b (with_records s (after_next s.near_record) (after_next s.far_record) (s.delivered ++ []))
pass b s h here =
    let r = s.near_record in
    let t = s.far_record in
    let held = ((h.near.inner.lines r.session).placeholder (r.taken + 1) t.session (t.taken + 1) here).1 in
    let below = held.earlier in
    moved b s (after_next r) (after_next t) (s.delivered ++ []) h.count h (record {
      near_grows = grows_next s.near.line r;
      far_grows = grows_next s.far.line t;
      near_ends = ends_next s.near r (Tunnel t.session (t.taken + 1) false) h.near.ends here;
      far_ends = ends_next s.far t (Tunnel r.session held.place held.full) h.far.ends held.there;
      near_effect = effect_next s.near.line r t (after_next t) t.session (t.taken + 1) false h.near.effect here (λ low. next_is_past t) (past_next t);
      far_effect = effect_next s.far.line t r (after_next r) r.session held.place held.full h.far.effect held.there (λ low. inr (refl, omega arith)) (past_next r);
      near_delivered = delivered_same s.near.line r (after_next r) h.count h.near.delivered (λ e p i there past. past_next r e p past) (next_tunnel_back s.near.line r t.session (t.taken + 1) false here);
      far_delivered = delivered_same s.far.line t (after_next t) h.count h.far.delivered (λ e p i there past. past_next t e p past) (next_tunnel_back s.far.line t r.session held.place held.full held.there);
    }) (append-nil s.delivered ∙ h.taken) h.within

-- the plain packet inside is taken at the next place of the other record
pub take_inner : (b : Bearer) (s : State) (full : Bool) (index : ℕ) → Sound b s → IsNext s (Tunnel s.far_record.session (s.far_record.taken + 1) full) → at (s.far.line s.far_record.session) (s.far_record.taken + 1) ≡ Some (Plain index) → Sound b (with_records s (after_next s.near_record) (after_next s.far_record) (s.delivered ++ index ∷ []))
take_inner b s full index h here there =
    let r = s.near_record in
    let t = s.far_record in
    let number : index ≡ h.count + 1 = next_number (other b) (turned_state s) t.session (t.taken + 1) index (turn b s h) there (λ q low high. before_next t q high) (next_not_past t) in
    let high : index ≤ s.numbered = (h.far.homes.within t.session (t.taken + 1) index there).1 in
    let there' : at (s.far.line t.session) (t.taken + 1) ≡ Some (Plain (h.count + 1)) = there ∙ ap (λ n. Some (Plain n)) number in
    moved b s (after_next r) (after_next t) (s.delivered ++ index ∷ []) (h.count + 1) h (record {
      near_grows = grows_next s.near.line r;
      far_grows = grows_next s.far.line t;
      near_ends = ends_next s.near r (Tunnel t.session (t.taken + 1) full) h.near.ends here;
      far_ends = ends_next s.far t (Plain index) h.far.ends there;
      near_effect = effect_next s.near.line r t (after_next t) t.session (t.taken + 1) full h.near.effect here (λ low. next_is_past t) (past_next t);
      far_effect = effect_plain s.far.line t r (after_next r) index h.far.effect there (past_next r);
      near_delivered = delivered_elsewhere s.near.line r (after_next r) h.count h.near.delivered (λ e p here'. h.far.homes.apart t.session (t.taken + 1) e p (h.count + 1) there' here') (λ e p i there past. past_next r e p past) (next_tunnel_back s.near.line r t.session (t.taken + 1) full here);
      far_delivered = delivered_here (other b) s.far s.near t s.numbered s.put h.count h.far.homes h.far.delivered there';
    }) (ap (λ d. d ++ index ∷ []) h.taken ∙ (ap (λ n. counted 0 h.count ++ n ∷ []) (let same : index ≡ 0 + h.count + 1 = omega arith in same) ∙ sym (counted-more 0 h.count))) (omega arith)

-- ---- all that may become of it

abbrev after_told : State → ℕ → State
after_told s f = with_records s s.near_record (session_told s.far_record f) s.delivered

tunnel_told : (b : Bearer) (s : State) (f q : ℕ) (full : Bool) → Sound b s → IsNext s (Tunnel f q full) → Sound b (after_told s f)
tunnel_told b s f q full h here = told_sound b s f q h (h.near.target.lines s.near_record.session (s.near_record.taken + 1) f q full here)

pub never_deferred : (b : Bearer) (s : State) (f q : ℕ) (full : Bool) → Sound b s → IsNext s (Tunnel f q full) → s.far_record.session ≤ f → q ≤ (session_told s.far_record f).taken + 1
never_deferred b s f q full h here low = in_turn b (after_told s f) f q full (tunnel_told b s f q full h here) here (told_session s.far_record f low)

pub take_tunnel : (b : Bearer) (s : State) (f q : ℕ) (full : Bool) (opening : Opening) → Sound b s → MayAct b s (TakeTunnel f q full opening) → Sound b (acted s (TakeTunnel f q full opening))
take_tunnel b s f q full Late h may = take_old b (after_told s f) f q full (tunnel_told b s f q full h may.0) may.0
    (λ low. subst (λ t. Past t f q) (sym (told_none s.far_record f (let later : f < s.far_record.session = may.1 in omega arith))) (inl may.1))
take_tunnel b s f q full Old h may = take_old b (after_told s f) f q full (tunnel_told b s f q full h may.0) may.0 (λ low. inr (told_session s.far_record f may.1.0, may.1.1))
take_tunnel b s f q full Passed h may =
    let h' = tunnel_told b s f q full h may.0 in
    let session : f ≡ (session_told s.far_record f).session = sym (told_session s.far_record f may.1.0) in
    let next : Tunnel f q full ≡ Tunnel (session_told s.far_record f).session ((session_told s.far_record f).taken + 1) false =
    ap (λ n. Tunnel n q full) session ∙ (ap (λ n. Tunnel (session_told s.far_record f).session n full) may.1.1 ∙ ap (λ z. Tunnel (session_told s.far_record f).session ((session_told s.far_record f).taken + 1) z) may.1.2) in
    pass b (after_told s f) h' (may.0 ∙ ap (λ (z : LinkSlot). Some z) next)
take_tunnel b s f q full (Next i) h may =
    let h' = tunnel_told b s f q full h may.0 in
    let session : f ≡ (session_told s.far_record f).session = sym (told_session s.far_record f may.1.0) in
    let next : Tunnel f q full ≡ Tunnel (session_told s.far_record f).session ((session_told s.far_record f).taken + 1) full =
    ap (λ n. Tunnel n q full) session ∙ ap (λ n. Tunnel (session_told s.far_record f).session n full) may.1.1 in
    let there : at (s.far.line (session_told s.far_record f).session) ((session_told s.far_record f).taken + 1) ≡ Some (Plain i) =
    ap (λ n. at (s.far.line n) ((session_told s.far_record f).taken + 1)) (sym session) ∙ (ap (λ n. at (s.far.line f) n) (sym may.1.1) ∙ may.1.3) in
    take_inner b (after_told s f) full i h' (may.0 ∙ ap (λ (z : LinkSlot). Some z) next) there
take_tunnel b s f q full Deferred h may = absurd (let low = never_deferred b s f q full h may.0 may.1.0 in let missing = may.1.1 in omega arith)
