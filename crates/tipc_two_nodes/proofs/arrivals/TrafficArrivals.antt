-- A STATE or a numbered packet arrives, as a whole call: in a contact that lasts, or with which a contact begins, of which packets may be taken
-- already, or out of contact. What is given is next.
use Rattle.std.proofs.Common.{◌≡◌, ◌∷◌, ◌++◌, ℕ, true, false, List, [], length, refl, sym, ap, ◌∙◌, subst, inl, inr, append-nil}
use Rattle.std.specs.Prelude.{take}
use Rattle.std.proofs.lemmas.Bool.{cases_Bool, true≢false}
use Rattle.tipc_types.specs.declared.link_words.BroadcastState.{BroadcastState}
use Rattle.tipc_types.specs.declared.packet_lists.Taken.{Taken}
use Rattle.tipc_header.specs.declared.packet.Header.{Header}
use Rattle.tipc_header.specs.declared.packet.Header.TheVariants as header
use Rattle.tipc_header.specs.Spelling.{Fields}
use Rattle.tipc_recv_window.specs.declared.outcomes.LinkOutcome.{LinkOutcome}
use Rattle.tipc_link.specs.Links.{is_traffic}
use Rattle.tipc_link.specs.Parts.{IsShowable}
use Rattle.tipc_pair.specs.declared.changes.PairOutcome.{PairOutcome}
use Rattle.tipc_pair.specs.Changeovers.{released}
use Rattle.tipc_pair.specs.Courses.{Course, going_on}
use Rattle.tipc_pair.specs.Facing.{PairEnds, in_contact}
use Rattle.tipc_pair.specs.PairArrivals.{Arrives, hears}
use Rattle.tipc_pair.specs.PairFacts.{AreHeldRightly, IsPairOfEnds}
use Rattle.tipc_changeover.specs.Links.{Bearer, First, Receiver, Sender}
use Rattle.tipc_two_nodes.specs.links.Following.{stays}
use Rattle.tipc_two_nodes.specs.links.Receiving.{IsRecordFor, bytes_in, record_at}
use Rattle.tipc_two_nodes.specs.links.Sending.{number_as}
use Rattle.tipc_two_nodes.specs.links.Traffic.{Lines}
use Rattle.tipc_two_nodes.proofs.links.sender.Happening.{follows_then}
use Rattle.tipc_paired.proofs.PairedLaw.{turned}
use Rattle.tipc_paired.specs.Views.{Node, View}
use Rattle.tipc_two_nodes.proofs.deeds.Placing.{hears_some}
use Rattle.tipc_two_nodes.specs.deeds.Arriving.{Reaches, arrival_more, arrival_taken}
use Rattle.tipc_two_nodes.specs.deeds.PairDeeds.{IsOfPair}
use Rattle.tipc_two_nodes.specs.links.Arriving.{Gives, heard_pair}
use Rattle.tipc_two_nodes.specs.Arrivals.{KeepsGiving}
use Rattle.tipc_two_nodes.specs.Carriages.{AreSessions, Carriage, IsCounted, IsPresent, taken_of}
use Rattle.tipc_two_nodes.specs.Steps.{Receives}
use Rattle.tipc_two_nodes.specs.Twins.{AreTwins, takes_in}
use Rattle.tipc_two_nodes.proofs.arrivals.Arrivals.{ArrivedBy, arrival_went, arrived_by}
use Rattle.tipc_two_nodes.proofs.arrivals.AtOnce.{TakesAt, at_once_carries, at_once_twins, present_counts}
use Rattle.tipc_two_nodes.proofs.contacts.Entering.{shown_known}
use Rattle.tipc_two_nodes.proofs.contacts.Hearing.{present_held}
use Rattle.tipc_two_nodes.proofs.contacts.Lasting.{sent_taken}
use Rattle.tipc_two_nodes.proofs.calls.PairViews.{in_contact_present}
use Rattle.tipc_two_nodes.proofs.links.receiver.BegunKept.{released_same}
use Rattle.tipc_two_nodes.proofs.calls.QuietCourses.{bearer_of}
use Rattle.tipc_two_nodes.proofs.arrivals.ReceivedFrom.{opens_take}
use Rattle.tipc_two_nodes.proofs.arrivals.Ready.{IsReady, may_open, out_apart, ready_apart, ready_in_contact, ready_opens}
use Rattle.tipc_two_nodes.proofs.contacts.Stale.{apart_absent}
use Rattle.tipc_two_nodes.proofs.arrivals.StayingUp.{arrival_up, nothing_given}
use Rattle.tipc_two_nodes.proofs.arrivals.Steady.{ShowsNoHigher, not_reset}
use Rattle.tipc_two_nodes.proofs.arrivals.WholeSteps.{along_goes_on, traffic_then, went_sends, went_carries, went_twins}

-- ---- packets are taken

-- the contact lasts then: what was sent in it was taken behind a state for which the pair stood
taking_arrives : (b : Bearer) (v y : View) (x : PairEnds) (es er : ℕ) (p : Fields) (by : ℕ) (shown : BroadcastState) (c : Course) (given : PairOutcome) (h : AreTwins v y) → IsOfPair v x → x.bearer ≡ number_as b → IsPairOfEnds x → AreHeldRightly x
    → Reaches v y x.bearer es er p → (a : Arrives x es er p by shown c given) → (after : View) → ArrivedBy v y after h x es er p by shown c given a → in_contact c.pair ≡ true → IsReady b v y h x es er p
    → KeepsGiving v y h (heard_pair x es er p by shown) c (arrival_more x es er p by shown c given a) (arrival_taken y x es er p by shown c given a) given
taking_arrives b v y x es er p by shown c given h pair is ends held r a after arrived up m =
    let O = ready_opens b v y h x es er p by shown c given pair ends m a in
    let A = arrived.within in
    let node = A.along.goes.stays.node in
    let k0 = takes_in v y h in
    let d : Carriage = record { traffic = k0.traffic; state = m.state } in
    let now = in_contact_present after y c.pair A.along.paired arrived.took.pair up in
    let here : IsPresent after v.node.contact v.node.seen = subst (λ (n : Node). IsPresent after n.contact n.seen) node now in
    let k = present_held y after h.here v.node.contact v.node.seen (turned after y A.along.paired) A.along.are here in
    let so = opens_take b after c.pair x.bearer d (taken_of d) given (heard_pair x es er p by shown) arrived.took.pair (arrived.steady.bearer ∙ is) O in
    let takes = follows_then First k0.state m.state so.state m.takes so.takes in
    let S = sent_taken y h.there v.node.seen v.node.contact k0 so.state (h.receives.sent v.node.seen v.node.contact) takes (shown_known y v h.there k.bearer k.session.peer_epoch v.node.seen v.node.contact h.numbers_there k.shown) in
    let counts : (n : ℕ) (l : Lines) (z : Sender) (r : Receiver) → AreSessions y v.node.seen v.node.contact n l z → IsRecordFor l (record_at (after.wires n).end) r → IsCounted y after v.node.seen v.node.contact n l r = λ n l z r.
    subst (λ (i : Node). AreSessions y i.seen i.contact n l z → IsRecordFor l (record_at (after.wires n).end) r → IsCounted y after i.seen i.contact n l r) node (present_counts y after n l z r A.along.paired) in
    let went = arrival_went v y x es er p by shown c given h after pair ends held a r arrived in
    let goes = along_goes_on v after y h.here went.within in
    let still = went.within.along.goes.stays in
    let t = traffic_then v after y h went.acted in
    let sends = went_sends v after y h _ _ went in
    let taking : TakesAt y v after k0 = record {
      node = node;
      some = λ ahead. ahead k.bearer k.epoch k.session k.begun k.own_is k.theirs_is;
      begun = A.along.goes.begun;
      bearer = k.bearer;
      epoch = k.session.peer_epoch;
      shown = k.shown;
      state = so.state;
      takes = takes;
      near = so.near;
      far = so.far;
      counted = record { near = counts 0 k0.traffic.near so.state.near so.state.near_record S.near so.near; far = counts 1 k0.traffic.far so.state.far so.state.far_record S.far so.far };
      got = λ n epoch. elim (A.got n epoch) [ inl same ↦ inl same | inr both ↦ inr both.0 ];
    } in
    let longer : take (length so.state.delivered) k0.traffic.put ≡ taken_of k0 ++ bytes_in O.carried = so.first_ones ∙ ap (λ (ps : List (List ℕ)). ps ++ bytes_in O.carried) m.none in (
      after,
      arrived.took,
      record {
        twins = at_once_twins v after y t h goes still sends taking;
        carried = O.carried;
        lasts = inr here;
        begun = O.begun;
        begun_is = O.begun_is;
        gives = O.gives;
        carries = at_once_carries v after y t h goes still sends taking (bytes_in O.carried) refl longer;
      },
    )

-- in a contact that lasts
lasting_arrives : (v y : View) (x : PairEnds) (es er : ℕ) (p : Fields) (by : ℕ) (shown : BroadcastState) (c : Course) (given : PairOutcome) (h : AreTwins v y) → IsOfPair v x → IsPairOfEnds x → AreHeldRightly x → Reaches v y x.bearer es er p
    → (a : Arrives x es er p by shown c given) → in_contact x ≡ true → in_contact c.pair ≡ true → (after : View) → ArrivedBy v y after h x es er p by shown c given a
    → KeepsGiving v y h (heard_pair x es er p by shown) c (arrival_more x es er p by shown c given a) (arrival_taken y x es er p by shown c given a) given
lasting_arrives v y x es er p by shown c given h pair ends held r a lasts up after arrived =
    let at = bearer_of x.bearer pair.two_bearers in
    taking_arrives at.0 v y x es er p by shown c given h pair at.1 ends held r a after arrived up (ready_in_contact at.0 v y h x es er p pair at.1 r lasts)

-- in one that begins
begins_arrives : (v y : View) (x : PairEnds) (es er : ℕ) (p : Fields) (by : ℕ) (shown : BroadcastState) (c : Course) (given : PairOutcome) (h : AreTwins v y) → IsOfPair v x → IsPairOfEnds x → AreHeldRightly x → Reaches v y x.bearer es er p
    → (a : Arrives x es er p by shown c given) → ShowsNoHigher p.header x.seen → in_contact x ≡ false → in_contact c.pair ≡ true → (after : View) → ArrivedBy v y after h x es er p by shown c given a
    → KeepsGiving v y h (heard_pair x es er p by shown) c (arrival_more x es er p by shown c given a) (arrival_taken y x es er p by shown c given a) given
begins_arrives v y x es er p by shown c given h pair ends held r a low out up after arrived =
    let A = arrived.within in
    let at = bearer_of x.bearer pair.two_bearers in
    let now = in_contact_present after y c.pair A.along.paired arrived.took.pair up in
    let here : IsPresent after v.node.contact v.node.seen = subst (λ (n : Node). IsPresent after n.contact n.seen) A.along.goes.stays.node now in
    let k = present_held y after h.here v.node.contact v.node.seen (turned after y A.along.paired) A.along.are here in
    taking_arrives at.0 v y x es er p by shown c given h pair at.1 ends held r a after arrived up (ready_apart at.0 v y h x es er p k.bearer k.session.peer_epoch pair at.1 r low out k.shown)

-- ---- none does

-- the message that is begun then
begun_last : (c opened : Course) → (going_on (going_on c (λ w. opened)) released).pair.begun ≡ opened.pair.begun
unfolding going_on
begun_last c opened = (released_same opened.pair).0

apart_arrives : (v y : View) (x : PairEnds) (es er : ℕ) (p : Fields) (by : ℕ) (shown : BroadcastState) (c : Course) (given : PairOutcome) (h : AreTwins v y) → IsOfPair v x → IsPairOfEnds x → AreHeldRightly x → Reaches v y x.bearer es er p
    → (a : Arrives x es er p by shown c given) → in_contact x ≡ false → in_contact c.pair ≡ false → (after : View) → ArrivedBy v y after h x es er p by shown c given a
    → KeepsGiving v y h (heard_pair x es er p by shown) c (arrival_more x es er p by shown c given a) (arrival_taken y x es er p by shown c given a) given
apart_arrives v y x es er p by shown c given h pair ends held r a out down after m =
    let k = takes_in v y h in
    let node = m.within.along.goes.stays.node in
    let heard = hears p.header es er p by shown x in
    let none : (first : Taken) (others : List Taken) → heard.outcome ≡ LinkOutcome.Took (first ∷ others) → ⊥ = λ first others is.
    true≢false (sym (arrival_up x es er p by shown c given a (hears_some p.header v y x es er p by shown first others refl h.paired pair ends is).goes.up) ∙ down) in
    let went = arrival_went v y x es er p by shown c given h after pair ends held a r m in
    let before = out_apart v x pair out in
    let then_apart = out_apart after c.pair m.took.pair down in
    let same : (b epoch : ℕ) → (after.wires b).got epoch ≡ (v.wires b).got epoch = λ b epoch. elim (m.within.got b epoch) [ inl was ↦ was | inr both ↦ absurd (apart_absent after v.node.contact v.node.seen then_apart both.1) ] in
    let receives : Receives v after k = record {
      node = node;
      begun = m.within.along.goes.begun;
      present = λ now. absurd (apart_absent after v.node.contact v.node.seen then_apart now);
      state = k.state;
      takes = stays;
      moved = inl refl;
      near = λ here. absurd (apart_absent v v.node.contact v.node.seen before here);
      far = λ here. absurd (apart_absent v v.node.contact v.node.seen before here);
      near_got = λ epoch. inl (same 0 epoch);
      far_got = λ epoch. inl (same 1 epoch);
    } in (
      after,
      m.took,
      record {
        twins = went_twins v after y h _ _ went receives;
        carried = [];
        lasts = inl refl;
        begun = heard.course.pair.begun;
        begun_is = inl refl;
        gives = subst (Gives heard.course.pair.begun [] given) (sym (ap (λ (d : Course). d.pair.begun) a.course ∙ begun_last heard.course a.opened)) (nothing_given heard.course.pair heard.outcome a.opened given none a.opens);
        carries = went_carries v after y h _ _ went receives [] (sym (append-nil (taken_of k)));
      },
    )

-- ---- in contact or not

pub traffic_plain : (h : Header) → is_traffic h ≡ true → not_reset h ≡ true
traffic_plain (header.Reset said) traffic = traffic
traffic_plain other traffic = refl

pub traffic_low : (h : Header) (seen : ℕ) → is_traffic h ≡ true → ShowsNoHigher h seen
traffic_low h seen traffic said is = absurd (let wrong : false ≡ true = ap is_traffic (sym is) ∙ traffic in let no : ⊥ = cc in no)

-- a contact that lasts at the node then lasts at its pair
still_up : (v y : View) (x : PairEnds) (c : Course) (after : View) → AreTwins v y → IsOfPair v x → IsOfPair after c.pair → in_contact x ≡ true → (IsPresent v v.node.contact v.node.seen → IsPresent after v.node.contact v.node.seen) → in_contact c.pair ≡ true
still_up v y x c after h pair pair' lasts present = elim (cases_Bool (in_contact c.pair)) [
  | inl up ↦ up
  | inr down ↦ absurd (apart_absent after v.node.contact v.node.seen (out_apart after c.pair pair' down) (present (in_contact_present v y x h.paired pair lasts)))
]

pub traffic_arrives : (v y : View) (x : PairEnds) (es er : ℕ) (p : Fields) (by : ℕ) (shown : BroadcastState) (c : Course) (given : PairOutcome) (h : AreTwins v y) → IsOfPair v x → IsPairOfEnds x → AreHeldRightly x → IsShowable shown → Reaches v y x.bearer es er p
    → (a : Arrives x es er p by shown c given) → is_traffic p.header ≡ true → KeepsGiving v y h (heard_pair x es er p by shown) c (arrival_more x es er p by shown c given a) (arrival_taken y x es er p by shown c given a) given
traffic_arrives v y x es er p by shown c given h pair ends held showable r a traffic =
    let low = traffic_low p.header x.seen traffic in
    let m = arrived_by v y x es er p by shown c given h pair ends showable r a (may_open v y h x es er p by shown pair ends r traffic low) (traffic_plain p.header traffic) low in
    elim (cases_Bool (in_contact x)) [
      | inl lasts ↦ lasting_arrives v y x es er p by shown c given h pair ends held r a lasts (still_up v y x c m.0 h pair m.1.took.pair lasts m.1.within.along.goes.stays.present) m.0 m.1
      | inr out ↦ elim (cases_Bool (in_contact c.pair)) [
        | inl up ↦ begins_arrives v y x es er p by shown c given h pair ends held r a low out up m.0 m.1
        | inr down ↦ apart_arrives v y x es er p by shown c given h pair ends held r a out down m.0 m.1
      ]
    ]
