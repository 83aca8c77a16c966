-- The calls of a pair as deeds: the bearer is cut, a tick passes, messages are sent, and the STATE that is due.
use Rattle.std.proofs.Common.{◌≡◌, ◌≤◌, ◌⊎◌, ℕ, Bool, true, false, if◌then◌else◌, List, [], ◌∷◌, ◌++◌, Option, Some, None, option_map, refl, sym, ap, ◌∙◌, subst, inl, inr, arith}
use Rattle.tipc_types.specs.LinkStates.{is_up}
use Rattle.tipc_types.specs.declared.link_words.BroadcastState.{BroadcastState}
use Rattle.tipc_types.specs.declared.link_words.Cause.{Cause}
use Rattle.tipc_outside.specs.declared.outgoing.Outgoing.{Outgoing}
use Rattle.tipc_link.specs.Links.{LinkEnd, after, cut_end, follow_frames, followed, frames, session_answer, with_session}
use Rattle.tipc_link.specs.Parts.{IsShowable}
use Rattle.tipc_link.specs.Sessions.{IsPut, SessionEnd, answer_frames, answered, flush_frames, flushed, is_due, joins, moving, state_fields, state_frame, waits, with_broadcast}
use Rattle.tipc_link.proofs.LinkLaw.{Each, Each-none, Each-one}
use Rattle.tipc_link_fsm.specs.declared.changes.Change.TheVariants.{Down, Stay}
use Rattle.tipc_link_fsm.specs.Runs.{BearerIsCut, TickPasses}
use Rattle.tipc_link_fsm.specs.Table.{Fsm, on_cut}
use Rattle.tipc_link_fsm.proofs.Moves.{cases_on}
use Rattle.tipc_pair.specs.Changeovers.{following}
use Rattle.tipc_pair.specs.Courses.{Course, going_on, rests, sent_in}
use Rattle.tipc_pair.specs.Facing.{PairEnds, is_up_at, other, with_near}
use Rattle.tipc_pair.specs.PairCalls.{Puts, answered_at, answered_near, cut_at, cut_link, stepped, tick_at, tick_near}
use Rattle.tipc_pair.specs.PairFacts.{IsEndOf, IsPairOfEnds, IsSessionOn}
use Rattle.tipc_pair.specs.Runs.{left_by, taken_over}
use Rattle.tipc_pair.proofs.EndSteps.{far_of, near_of, session_is}
use Rattle.tipc_paired.proofs.PairedLaw.{all_paired}
use Rattle.tipc_paired.proofs.sessions.SessionDeeds.{epochs_fit}
use Rattle.tipc_paired.proofs.wires.Wires.{same_some, session_of_up}
use Rattle.tipc_paired.specs.Deeds.{DoesDeed, IsUp, MayTell, notes, states, with_going, works}
use Rattle.tipc_paired.specs.Paired.{ArePaired, IsPacket}
use Rattle.tipc_paired.specs.Views.{View, with_wire}
use Rattle.tipc_two_nodes.proofs.deeds.Calling.{of_told, turned_takes}
use Rattle.tipc_two_nodes.proofs.deeds.Chains.{did_as, did_nothing, did_on, did_tell, did_then, told_all}
use Rattle.tipc_two_nodes.proofs.deeds.Loading.{loads, waiting_in}
use Rattle.tipc_two_nodes.proofs.deeds.Pairs.{of_changed, of_near, takes_rest}
use Rattle.tipc_two_nodes.proofs.deeds.Stepping.{CanHand, stepped_takes}
use Rattle.tipc_two_nodes.proofs.deeds.Wrapped.{CanHandOver, left_put, over_put}
use Rattle.tipc_two_nodes.specs.deeds.PairDeeds.{Did, IsOfPair, TakesCourse, Took, called_more, cut_at_more, followed_more, more_at, none_more, tick_more}

-- ---- what a pair can hand over

-- the session of a link that is up, of an end as it is in every pair
hands_over : (v y : View) (b own peer contact seen : ℕ) (e : LinkEnd) (s : SessionEnd) → ArePaired v y → b ≤ 1 → IsUp (v.wires b) e s → IsEndOf own peer contact seen b e → CanHandOver v.node.own s
hands_over v y b own peer contact seen e s h two up is =
    let on : IsSessionOn b s = session_is b e.session s is.session up.session_is in
    let fit = epochs_fit v y b e s h up in
    record {
      two = (let bearer = on.bearer_is in omega arith);
      fits = fit.epoch;
      few = on.few;
      unacked = on.unacked;
      waiting = ((h.here.wires b).going s (session_of_up (v.wires b) e s up)).waiting;
    }

pub can_hand : (v y : View) (x : PairEnds) → ArePaired v y → IsOfPair v x → IsPairOfEnds x → CanHand v x
can_hand v y x h pair ends = record {
  near = λ e s up. left_put v.node.own s (hands_over v y x.bearer x.own x.peer x.contact x.seen e s h pair.two_bearers up (near_of x e ends (sym pair.near ∙ up.end_is)));
  far = λ e s up. over_put v.node.own s (hands_over v y (other x.bearer) x.own x.peer x.contact x.seen e s h (let two = pair.two_bearers in omega arith) up (far_of x e ends (sym pair.far ∙ up.end_is)));
}

-- ---- a tick

tick_takes_at : (v y : View) (x : PairEnds) (o : Option LinkEnd) (shown : BroadcastState) → ArePaired v y → IsOfPair v x → x.near ≡ o → CanHand v x → IsShowable shown → TakesCourse v y (tick_at shown x o) (called_more x o (TickPasses (is_up_at x.far))) none_more
tick_takes_at v y x None shown h pair is can showable = takes_rest v y x pair
tick_takes_at v y x (Some e) shown h pair is can showable = stepped_takes v y x e (TickPasses (is_up_at x.far)) 0 shown h pair is tt can showable

pub tick_takes : (v y : View) (x : PairEnds) (shown : BroadcastState) → ArePaired v y → IsOfPair v x → IsPairOfEnds x → IsShowable shown → TakesCourse v y (tick_near shown x) (tick_more x) none_more
tick_takes v y x shown h pair ends showable = tick_takes_at v y x x.near shown h pair refl (can_hand v y x h pair ends) showable

-- ---- the bearer is cut

cut_change : (f : Fsm) (held : Bool) → ((on_cut f held).change ≡ Stay) ⊎ ((cause : Cause) × ((on_cut f held).change ≡ Down cause))
unfolding on_cut
cut_change f held = cases_on (λ o. (o.change ≡ Stay) ⊎ ((cause : Cause) × (o.change ≡ Down cause))) (is_up f.state) _ _ (λ _. inr (_, refl)) (λ _. inl refl)

-- it says nothing, and keeps its session
pub record IsCut (e : LinkEnd) (held : Bool) (shown : BroadcastState) : Type 0 where
  pub end : after (record e { mended = false }) (on_cut e.fsm held) ≡ cut_end e held
  pub said : frames (record e { mended = false }) (on_cut e.fsm held) shown ≡ []

pub is_cut : (e : LinkEnd) (held : Bool) (shown : BroadcastState) → IsCut e held shown
is_cut e held shown = elim (cut_change e.fsm held) [
  | inl stay ↦ record { end = ap (followed (cut_end e held)) stay; said = ap (λ c. follow_frames (cut_end e held) c shown) stay }
  | inr down ↦ record { end = ap (followed (cut_end e held)) down.1; said = ap (λ c. follow_frames (cut_end e held) c shown) down.1 }
]

pub nothing_shown : BroadcastState
nothing_shown = record { acknowledged = 0; next = 0; start = 0; gap = 0; in_step = false }

pub nothing_showable : IsShowable nothing_shown
unfolding nothing_shown
nothing_showable = record { acknowledged = omega arith; next = omega arith; start = omega arith; gap = omega arith }

-- the end of the bearer that is cut, and then what its link makes of that
abbrev pub unmended : LinkEnd → LinkEnd
unmended e = record e { mended = false }

pub cut_took : (v y mid last : View) (x : PairEnds) (e : LinkEnd) → Took v y mid (rests (with_near x (unmended e))) none_more none_more
    → Took mid y last (stepped (with_near x (unmended e)) (unmended e) (on_cut e.fsm (is_up_at x.far)) 0 nothing_shown) (followed_more (with_near x (after (unmended e) (on_cut e.fsm (is_up_at x.far)))) (on_cut e.fsm (is_up_at x.far)).change) none_more
    → Took v y last (cut_link x e) (followed_more (with_near x (cut_end e (is_up_at x.far))) (on_cut e.fsm (is_up_at x.far)).change) none_more
unfolding going_on
cut_took v y mid last x e t m =
    let held = is_up_at x.far in
    let d = unmended e in
    let o = on_cut e.fsm held in
    let z = with_near x d in
    let cut = is_cut e held nothing_shown in
    let c = following (with_near x (cut_end e held)) o.change 0 in
    let more = followed_more (with_near x (cut_end e held)) o.change in
    let same : following (with_near z (after d o)) o.change 0 ≡ c = ap (λ k. following (with_near x k) o.change 0) cut.end in
    let same_more : followed_more (with_near z (after d o)) o.change ≡ more = ap (λ k. followed_more (with_near x k) o.change) cut.end in
    let whole = did_then v y mid last [] _ none_more (followed_more (with_near z (after d o)) o.change) none_more none_more t.did m.did in
    record {
      did = did_as v y last _ (sent_in c) (followed_more (with_near z (after d o)) o.change) more none_more none_more whole
          (λ P each. subst (λ (k : Course). Each P (sent_in k)) same (subst (λ (fs : List Outgoing). Each P ((fs ++ (following (with_near z (after d o)) o.change 0).states) ++ (following (with_near z (after d o)) o.change 0).numbered)) cut.said each))
          (λ i k. ap (λ (f : ℕ → ℕ → List (List ℕ)). f i k) same_more) (λ i k. refl);
      pair = subst (λ (k : Course). IsOfPair last k.pair) same m.pair;
    }

cut_takes_link : (v y : View) (x : PairEnds) (e : LinkEnd) → ArePaired v y → IsOfPair v x → IsPairOfEnds x → x.near ≡ Some e → TakesCourse v y (cut_link x e) (followed_more (with_near x (cut_end e (is_up_at x.far))) (on_cut e.fsm (is_up_at x.far)).change) none_more
cut_takes_link v y x e h pair ends near =
    let held = is_up_at x.far in
    let d = unmended e in
    let z = with_near x d in
    let t = turned_takes v y x e false pair near in
    let mid = t.0.0 in
    let h' = all_paired v y mid h t.0.1.did.does in
    let hand = can_hand v y x h pair ends in
    let own : v.node.own ≡ mid.node.own = pair.own ∙ sym t.0.1.pair.own in
    let hand' : CanHand mid z = record {
      near = λ k s up. (
          let one : d ≡ k = same_some d k _ t.1 up.end_is in
          subst (λ n. Each (IsPacket n) (left_by s)) own (hand.near e s (record { end_is = pair.near ∙ near; up = ap (λ (u : LinkEnd). is_up u.fsm.state) one ∙ up.up; session_is = ap (λ (u : LinkEnd). u.session) one ∙ up.session_is })));
      far = λ k s up. subst (λ n. Each (IsPacket n) (taken_over s)) own (hand.far k s (record { end_is = pair.far ∙ sym t.0.1.pair.far ∙ up.end_is; up = up.up; session_is = up.session_is }));
    } in
    let m = stepped_takes mid y z d (BearerIsCut held) 0 nothing_shown h' t.0.1.pair refl tt hand' nothing_showable in
    (m.0, cut_took v y mid m.0 x e t.0.1 m.1)

pub cut_takes_at : (v y : View) (x : PairEnds) (o : Option LinkEnd) → ArePaired v y → IsOfPair v x → IsPairOfEnds x → x.near ≡ o → TakesCourse v y (cut_at x o) (cut_at_more x o) none_more
cut_takes_at v y x None h pair ends is = takes_rest v y x pair
cut_takes_at v y x (Some e) h pair ends is = cut_takes_link v y x e h pair ends is

-- ---- messages are sent

-- packets are put on the near link, which is up: all that waits then can be put
pub puts_takes : (v y : View) (x x' : PairEnds) (pieces : List (List ℕ)) (said : List Outgoing) → ArePaired v y → IsOfPair v x → is_up_at x.near ≡ true → (p : Puts x pieces x' said) → Each (IsPacket v.node.own) p.put.sending.waiting
    → (last : View) × Did v y last said (more_at x.bearer p.session.epoch (moving p.put)) none_more × IsOfPair last x'
puts_takes v y x x' pieces said h pair up p packets =
    let b = x.bearer in
    let s = p.session in
    let same : waiting_in s p.put.sending.waiting ≡ p.put = put_as s p.put pieces p.is_put in
    let on : IsUp (v.wires b) p.end s = record { end_is = pair.near ∙ p.end_is; up = ap is_up_at (sym p.end_is) ∙ up; session_is = p.session_is } in
    let m = loads v y b p.end s p.put.sending.waiting h on packets in
    let flushed_is : with_session p.end (flushed (waiting_in s p.put.sending.waiting)) ≡ with_session p.end (flushed p.put) = ap (λ k. with_session p.end (flushed k)) same in (
      m.0,
      did_as v y m.0 (flush_frames (waiting_in s p.put.sending.waiting)) said (more_at b s.epoch (moving (waiting_in s p.put.sending.waiting))) (more_at b s.epoch (moving p.put)) none_more none_more m.1.did
          (λ P each. subst (Each P) (ap flush_frames same ∙ sym p.frames_are) each) (λ i k. ap (λ (q : SessionEnd). more_at b s.epoch (moving q) i k) same) (λ i k. refl),
      subst (IsOfPair m.0) (sym p.after) (of_changed v m.0 x (with_session p.end (flushed p.put)) pair m.1.node (m.1.end ∙ ap Some flushed_is) m.1.others),
    )
  where
    put_as : (s s' : SessionEnd) (pieces : List (List ℕ)) → IsPut s pieces s' → waiting_in s s'.sending.waiting ≡ s'
    put_as s _ _ (joins packets packet may) = refl
    put_as s _ _ (waits pieces apart) = refl

-- ---- the STATE that is due is sent

abbrev read : ℕ → Bool → SessionEnd → SessionEnd
read taken asks s = with_broadcast s taken asks

read_says : (s : SessionEnd) (taken : ℕ) (asks : Bool) (shown : BroadcastState) → state_frame (read taken asks s) shown false ≡ state_frame s shown false
unfolding state_fields
read_says s taken asks shown = refl

answer_takes_up : (v y : View) (x : PairEnds) (e : LinkEnd) (s : SessionEnd) (taken : ℕ) (asks : Bool) (shown : BroadcastState) → ArePaired v y → IsOfPair v x → IsUp (v.wires x.bearer) e s → IsShowable shown
    → TakesCourse v y (record (rests (with_near x (with_session e (answered (read taken asks s))))) { states = answer_frames (read taken asks s) shown }) none_more none_more
answer_takes_up v y x e s taken asks shown h pair up showable =
    let b = x.bearer in
    let said = answer_frames (read taken asks s) shown in
    let on = session_of_up (v.wires b) e s up in
    let bearer : s.bearer ≡ b = ((h.here.ends b e up.end_is).session s up.session_is).2 in
    let each : (P : Outgoing → Type 0) → P (state_frame s shown false) → Each P said = λ P is.
    elim (is_due (read taken asks s)) as (λ t. Each P (if t then state_frame (read taken asks s) shown false ∷ [] else [])) [ true ↦ Each-one P (state_frame (read taken asks s) shown false) (subst P (sym (read_says s taken asks shown)) is) | false ↦ Each-none P ] in
    let mid = told_all v y b said in
    let told = did_tell v y b said (each (MayTell (v.wires b)) (states s shown false on showable)) (each (λ (q : Outgoing). q.bearer ≡ b) bearer) in
    let after_it = answered (read taken asks s) in
    let w' = with_going (mid.wires b) e after_it in
    let going = (h.here.wires b).going s on in
    let one : DoesDeed mid y (with_wire mid b w') = works _ (notes b e s s.shown after_it.unanswered after_it.owes up going.shown) in
    let noted = did_on mid y b w' one (λ k. refl) (λ k. refl) in (
      with_wire mid b w',
      record {
        did = did_then v y mid (with_wire mid b w') said [] none_more none_more none_more none_more told noted;
        pair = of_near mid x w' (with_session e after_it) (of_told v x y b said pair) refl;
      },
    )

answer_takes_at : (v y : View) (x : PairEnds) (o : Option LinkEnd) (taken : ℕ) (asks : Bool) (shown : BroadcastState) → ArePaired v y → IsOfPair v x → x.near ≡ o → IsShowable shown → TakesCourse v y (answered_at x o taken asks shown) none_more none_more
answer_takes_at v y x None taken asks shown h pair is showable = takes_rest v y x pair
answer_takes_at v y x (Some e) taken asks shown h pair is showable =
    elim (is_up e.fsm.state) as (λ t. is_up e.fsm.state ≡ t → TakesCourse v y (record (rests (with_near x (if t then record e { session = option_map (λ s. answered (with_broadcast s taken asks)) e.session } else e))) {
      states = if t then session_answer (option_map (λ s. with_broadcast s taken asks) e.session) shown else [];
    }) none_more none_more) [
      | true ↦ λ up.
          let going = (h.here.ends x.bearer e (pair.near ∙ is)).going up in
          let s = going.0 in
          subst (λ o. TakesCourse v y (record (rests (with_near x (record e { session = option_map (λ s. answered (with_broadcast s taken asks)) o }))) { states = session_answer (option_map (λ s. with_broadcast s taken asks) o) shown }) none_more none_more) (sym going.1)
          (answer_takes_up v y x e s taken asks shown h pair (record { end_is = pair.near ∙ is; up = up; session_is = going.1 }) showable)
      | false ↦ λ _. (
        v,
        record {
          did = did_nothing v y;
          pair = record { own = pair.own; peer = pair.peer; contact = pair.contact; seen = pair.seen; two_bearers = pair.two_bearers; near = pair.near ∙ is; far = pair.far; alone = pair.alone };
        },
      )
    ] refl

pub answer_takes : (v y : View) (x : PairEnds) (taken : ℕ) (asks : Bool) (shown : BroadcastState) → ArePaired v y → IsOfPair v x → IsShowable shown → TakesCourse v y (answered_near taken asks shown x) none_more none_more
answer_takes v y x taken asks shown h pair showable = answer_takes_at v y x x.near taken asks shown h pair refl showable
