-- A STATE or a numbered packet that a pair hears is of the session in which its link is up after it; so it was told in the contact in which the
-- pair is then.
use Rattle.std.specs.Prelude.{◌&&◌, ◌==◌, not, if◌then◌else◌}
use Rattle.std.proofs.Common.{◌≡◌, ◌≤◌, ◌⊎◌, ◌∙◌, ℕ, Bool, true, false, Option, Some, None, refl, sym, subst, ap, eqb-true, inl, inr}
use Rattle.std.proofs.lemmas.Bool.{and_parts}
use Rattle.std.proofs.lemmas.Option.{same_Some}
use Rattle.tipc_types.specs.LinkStates.{is_up}
use Rattle.tipc_types.specs.declared.link_words.BroadcastState.{BroadcastState}
use Rattle.tipc_types.specs.declared.link_words.Why.{Why}
use Rattle.tipc_types.specs.declared.link_words.Why.TheVariants as why
use Rattle.tipc_header.specs.Spelling.{Fields}
use Rattle.tipc_header.specs.declared.packet.Header.{Header}
use Rattle.tipc_header.specs.declared.packet.Header.TheVariants as header
use Rattle.tipc_recv_window.specs.declared.outcomes.LinkOutcome.{LinkOutcome}
use Rattle.tipc_link_fsm.specs.declared.changes.Change.{Change}
use Rattle.tipc_link_fsm.specs.declared.changes.Change.TheVariants.{Ignore, Stay, Up}
use Rattle.tipc_link_fsm.specs.Table.{Fsm, Outcome, heard, is_last, is_peer, is_reset_reset, is_session, on_traffic}
use Rattle.tipc_link_fsm.proofs.Moves.{cases_on}
use Rattle.tipc_link.specs.Links.{LinkEnd, after, arrival_end, change_outcome, heard_outcome, is_heard, is_traffic, link_outcome, outcome_of}
use Rattle.tipc_link.specs.Sessions.{SessionEnd, content_of}
use Rattle.tipc_pair.specs.declared.changes.PairOutcome.{PairOutcome}
use Rattle.tipc_pair.specs.Changeovers.{contact_begins, following, gone_up, switch, switch_from, switching}
use Rattle.tipc_pair.specs.Courses.{Course, rests}
use Rattle.tipc_pair.specs.Facing.{PairEnds, facing, in_contact, is_up_at, with_near}
use Rattle.tipc_pair.specs.PairArrivals.{Arrives, Heard, OpensInto, deferred, hears, ignored, linked, met_at, met_near, opens}
use Rattle.tipc_pair.specs.PairTurns.{Happened, Opening, Outset}
use Rattle.tipc_pair.proofs.CourseLaws.{then_pair}
use Rattle.tipc_pair.proofs.EndSteps.{fsm_arrived}
use Rattle.tipc_pair.proofs.Facings.{facing_back, facing_two}
use Rattle.tipc_pair.proofs.turns.PairKept.{facing_bearer}
use Rattle.tipc_two_nodes.specs.Order.{HeardInContact, WasHeard}
use Rattle.tipc_two_nodes.proofs.arrivals.StayingUp.{arrival_same, arrival_up, states_at}
use Rattle.tipc_two_nodes.proofs.arrivals.Steady.{arrival_steady}
use Rattle.tipc_two_nodes.proofs.arrivals.TrafficArrivals.{traffic_low, traffic_plain}
use Rattle.tipc_two_nodes.proofs.deeds.Pairs.{of_facing}
use Rattle.tipc_two_nodes.proofs.sights.Ordered.{told_in_contact}
use Rattle.tipc_two_nodes.proofs.sights.Sights.{may_begin}
use Rattle.tipc_two_nodes.proofs.sights.StayingIn.{facing_contact}
use Rattle.tipc_two_nodes.proofs.sights.TurnSteps.{opened}

-- ---- a link end

-- the end heard it in its session, or it is of another one
heard_or_apart : (f : Fsm) (es er : ℕ)
    → ((is_session f es er ≡ true) × ((on_traffic f es er).after ≡ heard f) × (((on_traffic f es er).change ≡ Up) ⊎ ((on_traffic f es er).change ≡ Stay))) ⊎ ((on_traffic f es er).change ≡ Ignore why.Epoch)
unfolding on_traffic
heard_or_apart f es er =
    let P : Outcome → Type 0 = λ o. ((is_session f es er ≡ true) × (o.after ≡ heard f) × ((o.change ≡ Up) ⊎ (o.change ≡ Stay))) ⊎ (o.change ≡ Ignore why.Epoch) in
    cases_on P (is_session f es er && (is_reset_reset f.state && not (is_last f.own))) _ _ (λ both. inl ((and_parts (is_session f es er) _ both).0, refl, inl refl))
    (λ _. cases_on P (is_session f es er && is_up f.state) _ _ (λ both. inl ((and_parts (is_session f es er) _ both).0, refl, inr refl)) (λ _. inr refl))

peer_is : (peer : Option ℕ) (es : ℕ) → is_peer peer es ≡ true → peer ≡ Some es
peer_is None es is = absurd (let wrong : ⊥ = cc in wrong)
peer_is (Some n) es is = ap Some (eqb-true n es is)

switching_same : (x : PairEnds) (n f : LinkEnd) (a b : Option SessionEnd) → x.near ≡ Some n → states_at (switching x n f a b).pair.near ≡ states_at x.near
switching_same x n f (Some s) (Some old) near = sym (ap states_at near)
switching_same x n f (Some s) None near = refl
switching_same x n f None b near = refl

switch_same : (x : PairEnds) (o p : Option LinkEnd) → x.near ≡ o → states_at (switch_from x o p).pair.near ≡ states_at x.near
switch_same x (Some n) (Some f) near = switching_same x n f n.session f.session near
switch_same x (Some n) None near = refl
switch_same x None p near = refl

rise_same : (x : PairEnds) → states_at (gone_up x).pair.near ≡ states_at x.near
rise_same x = elim (is_up_at x.far) as (λ b. states_at (if b then (if x.bearer == 0 then switch x else rests x) else contact_begins x).pair.near ≡ states_at x.near) [
  | true ↦ elim (x.bearer == 0) as (λ b. states_at (if b then switch x else rests x).pair.near ≡ states_at x.near) [ true ↦ switch_same x x.near x.far refl | false ↦ refl ]
  | false ↦ refl
]

follows_same : (x : PairEnds) (change : Change) (epoch : ℕ) → (change ≡ Up) ⊎ (change ≡ Stay) → states_at (following x change epoch).pair.near ≡ states_at x.near
follows_same x change epoch taken = elim taken [
  | inl up ↦ subst (λ k. states_at (following x k epoch).pair.near ≡ states_at x.near) (sym up) (rise_same x)
  | inr stay ↦ subst (λ k. states_at (following x k epoch).pair.near ≡ states_at x.near) (sym stay) refl
]

-- ---- a packet of a session arrives

traffic_meets : (h : Header) (es er : ℕ) (p : Fields) (by : ℕ) (shown : BroadcastState) (x : PairEnds) → is_traffic h ≡ true → hears h es er p by shown x ≡ met_near es er p by shown x
traffic_meets (header.Reset said) es er p by shown x traffic = absurd (let wrong : ⊥ = cc in wrong)
traffic_meets (header.Activate said) es er p by shown x traffic = absurd (let wrong : ⊥ = cc in wrong)
traffic_meets other es er p by shown x traffic = refl

traffic_outcome : (h : Header) (f : Fsm) (es er : ℕ) (held : Bool) → is_traffic h ≡ true → outcome_of f h es er held ≡ on_traffic f es er
traffic_outcome (header.Reset said) f es er held traffic = absurd (let wrong : ⊥ = cc in wrong)
traffic_outcome (header.Activate said) f es er held traffic = absurd (let wrong : ⊥ = cc in wrong)
traffic_outcome (header.Discovery said) f es er held traffic = absurd (let wrong : ⊥ = cc in wrong)
traffic_outcome other f es er held traffic = refl

as_given : LinkOutcome → PairOutcome
as_given (LinkOutcome.Ignored reason) = PairOutcome.Ignored reason
as_given other = PairOutcome.Deferred

-- what the link ignores the pair ignores
ignores_so : (y : PairEnds) (o : LinkOutcome) (d : Course) (given : PairOutcome) (reason : Why) → OpensInto y o d given → o ≡ LinkOutcome.Ignored reason → given ≡ PairOutcome.Ignored reason
unfolding as_given
ignores_so y _ _ _ reason (opens unwraps brings) is = absurd (let wrong : ⊥ = cc in wrong)
ignores_so y _ _ _ reason deferred is = absurd (let wrong : ⊥ = cc in wrong)
ignores_so y _ _ _ reason ignored is = ap as_given is

-- The near end, which was in the session of these epochs, heard it, and its link is up in that session then.
record IsHeard (es er : ℕ) (met : PairEnds) : Type 0 where
  end : LinkEnd
  session : is_session end.fsm es er ≡ true
  states : states_at met.near ≡ Some (heard end.fsm)

states_up : (end : Option LinkEnd) (f : Fsm) → states_at end ≡ Some (heard f) → is_up_at end ≡ true
states_up None f is = absurd (let wrong : ⊥ = cc in wrong)
states_up (Some e) f is = ap (λ (g : Fsm). is_up g.state) (same_Some e.fsm (heard f) is)

end_with : (end : Option LinkEnd) (f : Fsm) → states_at end ≡ Some f → (e : LinkEnd) × (end ≡ Some e) × (e.fsm ≡ f)
end_with None f is = absurd (let wrong : ⊥ = cc in wrong)
end_with (Some e) f is = (e, refl, same_Some e.fsm f is)

module _ (x : PairEnds) (es er : ℕ) (p : Fields) (by : ℕ) (shown : BroadcastState) (c : Course) (given : PairOutcome) (traffic : is_traffic p.header ≡ true) (a : Arrives x es er p by shown c given) (was : WasHeard given) where
  at_end : (e : LinkEnd) → x.near ≡ Some e → IsHeard es er (hears p.header es er p by shown x).course.pair
  at_end e near = elim (heard_or_apart e.fsm es er) [
    | inl t ↦
        let z = with_near x (arrival_end e o p by) in
        let stays : states_at (following z o.change es).pair.near ≡ states_at z.near = follows_same z o.change es (elim t.2 [ inl up ↦ inl (ap (λ (k : Outcome). k.change) made ∙ up) | inr stay ↦ inr (ap (λ (k : Outcome). k.change) made ∙ stay) ]) in
        let first : states_at z.near ≡ Some (heard e.fsm) = ap Some (fsm_arrived e o p by ∙ (ap (λ (k : Outcome). k.after) made ∙ t.1)) in
        record {
          end = e;
          session = t.0;
          states = ap (λ (m : Heard). states_at m.course.pair.near) meets ∙ (ap (λ (d : PairEnds). states_at d.near) (then_pair (linked x e o p by shown) (λ y. following y o.change es)) ∙ (stays ∙ first));
        }
    | inr apart ↦
        let change : o.change ≡ Ignore why.Epoch = ap (λ (k : Outcome). k.change) made ∙ apart in
        let heard_then = heard_outcome (after e o).session by (content_of p) in
        let none : link_outcome e o p by ≡ LinkOutcome.Ignored why.Epoch =
        ap (λ k. if is_heard p.header k then heard_then else change_outcome k) change ∙ ap (λ t. if t && false then heard_then else LinkOutcome.Ignored why.Epoch) traffic in
        absurd (was.epoch (ignores_so _ _ a.opened given why.Epoch a.opens (ap (λ (m : Heard). m.outcome) meets ∙ none)))
  ]
    where
      o : Outcome
      o = outcome_of e.fsm p.header es er (is_up_at x.far)

      made : o ≡ on_traffic e.fsm es er
      made = traffic_outcome p.header e.fsm es er (is_up_at x.far) traffic

      meets : hears p.header es er p by shown x ≡ met_at es er p by shown x (Some e)
      meets = traffic_meets p.header es er p by shown x traffic ∙ ap (met_at es er p by shown x) near

  heard_so : IsHeard es er (hears p.header es er p by shown x).course.pair
  heard_so = at x.near refl
    where
      at : (end : Option LinkEnd) → x.near ≡ end → IsHeard es er (hears p.header es er p by shown x).course.pair
      at (Some e) near = at_end e near
      at None near =
          let meets : hears p.header es er p by shown x ≡ met_at es er p by shown x None = traffic_meets p.header es er p by shown x traffic ∙ ap (met_at es er p by shown x) near in
          absurd (was.unknown (ignores_so _ _ a.opened given why.Unknown a.opens (ap (λ (m : Heard). m.outcome) meets)))

-- ---- two nodes

pub heard_in_contact : HeardInContact
heard_in_contact v w b es er p by shown o h low comes showable traffic happened was =
    let x = h.here in
    let y = h.there in
    let happens = subst (λ q. Happened q (Opening.hears b es er p by shown) o) (sym h.seen_here.pair) happened in
    let z = facing b x.pair in
    let c = happens.0 in
    let given = happens.1 in
    let a = happens.2 in
    let given_is : o.given ≡ given = ap (λ (u : Outset). u.given) happens.3 in
    let was_heard = subst WasHeard given_is was in
    let is = heard_so z es er p by shown c given traffic a was_heard in
    let m = hears p.header es er p by shown z in
    let met_up = states_up m.course.pair.near is.end.fsm is.states in
    let two = h.talking.here.of.two_bearers in
    let z_two = facing_two b x.pair two in
    let steady = arrival_steady z es er p by shown c given z_two (traffic_plain p.header traffic) (traffic_low p.header z.seen traffic) (λ first others took. met_up) a in
    let on : c.pair.bearer ≡ b = steady.bearer ∙ facing_bearer b x.pair low two in
    let end = end_with c.pair.near (heard is.end.fsm) (arrival_same z es er p by shown c given a met_up ∙ is.states) in
    let opens_so = opened x y (Opening.hears b es er p by shown) o h.talking (may_begin v w (Opening.hears b es er p by shown) h (low, comes)) showable happens in
    let later = opens_so.after in
    let talking = opens_so.stepped.talking in
    let pair_is : later.pair ≡ facing x.pair.bearer c.pair = opens_so.pair_is ∙ ap (λ (u : Outset). u.course.pair) happens.3 in
    let back : facing b (facing x.pair.bearer c.pair) ≡ c.pair = ap (λ n. facing n (facing x.pair.bearer c.pair)) (sym on) ∙ facing_back x.pair.bearer c.pair two (subst (λ n. n ≤ 1) (sym on) low) in
    let there : facing b later.pair ≡ c.pair = ap (facing b) pair_is ∙ back in
    let of = of_facing later.view b later.pair talking.here.of in
    let bearer : (facing b later.pair).bearer ≡ b = ap (λ (q : PairEnds). q.bearer) there ∙ on in
    let end_is : (later.view.wires b).end ≡ Some end.0 = ap (λ n. (later.view.wires n).end) (sym bearer) ∙ (of.near ∙ (ap (λ (q : PairEnds). q.near) there ∙ end.1)) in
    let states = end.2 in
    let parts = and_parts (is_peer is.end.fsm.peer es) (er == is.end.fsm.own) is.session in
    let own : end.0.fsm.own ≡ er = ap (λ (f : Fsm). f.own) states ∙ sym (eqb-true er is.end.fsm.own parts.1) in
    let peer : end.0.fsm.peer ≡ Some es = ap (λ (f : Fsm). f.peer) states ∙ peer_is is.end.fsm.peer es parts.0 in
    let up : is_up_at (Some end.0) ≡ true = ap (λ (f : Fsm). is_up f.state) states in
    let told = told_in_contact later.view y.view b end.0 es er p comes.frame talking.twins.paired end_is up own peer (h.seen_there.sent comes.place comes.frame comes.there) comes.bearer_is comes.es_fits comes.er_fits comes.fits comes.bytes traffic in
    let now = talking.here.of in
    record {
      there = ap in_contact (sym opens_so.pair_is) ∙ (ap in_contact pair_is ∙ (facing_contact x.pair.bearer c.pair ∙ arrival_up z es er p by shown c given a met_up));
      theirs = told.0 ∙ (now.seen ∙ ap (λ (q : PairEnds). q.seen) opens_so.pair_is);
      own = told.1 ∙ (now.contact ∙ ap (λ (q : PairEnds). q.contact) opens_so.pair_is);
    }
