-- A pair is ready for a packet of the peer: its records stand for a state of what the peer sent in the contact, and the packet lands. So what it
-- takes is next, and a tunnel packet is at its place.
use Rattle.std.proofs.Common.{◌≡◌, ◌∷◌, ℕ, true, false, List, Option, Some, None, length, refl, sym, ap, ◌∙◌, subst, inl, inr, arith}
use Rattle.std.specs.Prelude.{take}
use Rattle.std.proofs.lemmas.Bool.{true≢false}
use Rattle.tipc_types.specs.declared.link_words.BroadcastState.{BroadcastState}
use Rattle.tipc_types.specs.declared.link_words.Why.TheVariants as why
use Rattle.tipc_types.specs.declared.packet_lists.Taken.{Taken}
use Rattle.tipc_header.specs.Spelling.{Fields}
use Rattle.tipc_tunnel.specs.Tunnels.{Tunnelled}
use Rattle.tipc_recv_window.specs.declared.outcomes.LinkOutcome.{LinkOutcome}
use Rattle.tipc_link_fsm.specs.Runs.{TrafficArrives, outcome}
use Rattle.tipc_link_fsm.specs.Table.{on_traffic}
use Rattle.tipc_link.specs.Links.{LinkEnd, after, is_traffic, link_outcome}
use Rattle.tipc_pair.specs.declared.changes.PairOutcome.{PairOutcome}
use Rattle.tipc_pair.specs.Courses.{Course}
use Rattle.tipc_pair.specs.Facing.{PairEnds, in_contact, is_up_at, other}
use Rattle.tipc_pair.specs.PairArrivals.{Arrives, Heard, IsTunnelOf, hears, met_at, passing}
use Rattle.tipc_pair.specs.PairFacts.{IsPairOfEnds}
use Rattle.tipc_pair.proofs.Followings.{far_down, near_down}
use Rattle.tipc_changeover.specs.Links.{Bearer, First, State}
use Rattle.tipc_two_nodes.specs.links.Arriving.{Opens, Stands, heard_pair}
use Rattle.tipc_two_nodes.specs.links.Following.{ReceiverFollows, stays}
use Rattle.tipc_two_nodes.specs.links.Landing.{MayLand}
use Rattle.tipc_two_nodes.specs.links.Receiving.{IsRecordFor, record_at}
use Rattle.tipc_two_nodes.specs.links.Sending.{number_as}
use Rattle.tipc_two_nodes.specs.links.Traffic.{Traffic}
use Rattle.tipc_two_nodes.proofs.links.receiver.Hearing.{traffic_hears, traffic_met}
use Rattle.tipc_two_nodes.proofs.links.receiver.Landing.{Hears, arrivals_receive, goes_on, goes_up, is_ignored, traffic_change}
use Rattle.tipc_two_nodes.proofs.links.calls.Listening.{stay_keeps}
use Rattle.tipc_paired.proofs.PairedLaw.{turned}
use Rattle.tipc_paired.proofs.sessions.RiseDeeds.{went}
use Rattle.tipc_paired.specs.Paired.{ArePaired}
use Rattle.tipc_paired.specs.Views.{IsApart, View}
use Rattle.tipc_two_nodes.proofs.deeds.Arriving.{reached_begun}
use Rattle.tipc_two_nodes.proofs.deeds.Pairs.{apart_of}
use Rattle.tipc_two_nodes.specs.deeds.Arriving.{IsAtPlace, MayOpen, Reaches}
use Rattle.tipc_two_nodes.specs.deeds.PairDeeds.{IsOfPair}
use Rattle.tipc_two_nodes.specs.Carriages.{AreSessions, Carriage, IsSent, Numbers, taken_of}
use Rattle.tipc_two_nodes.specs.Numbers.{AreNumbers, IsToldIn}
use Rattle.tipc_two_nodes.specs.Pieces.{state_from, traffic_from}
use Rattle.tipc_two_nodes.specs.Twins.{AreTwins, takes_in}
use Rattle.tipc_two_nodes.proofs.arrivals.Arrivable.{made_from}
use Rattle.tipc_two_nodes.proofs.arrivals.AtOnce.{apart_both}
use Rattle.tipc_two_nodes.proofs.calls.CallCourses.{are_ends_of}
use Rattle.tipc_two_nodes.proofs.contacts.Entering.{shown_known}
use Rattle.tipc_two_nodes.proofs.arrivals.Landing.{lands, lands_activate, lands_on, lands_up}
use Rattle.tipc_two_nodes.proofs.contacts.Lasting.{sent_taken, takes_stay}
use Rattle.tipc_two_nodes.proofs.calls.PairViews.{in_contact_present}
use Rattle.tipc_two_nodes.proofs.calls.QuietCourses.{bearer_of}
use Rattle.tipc_two_nodes.proofs.arrivals.ReceivedFrom.{far_sessions_from, record_from, sessions_from, stands_from}
use Rattle.tipc_two_nodes.proofs.steps.RiseSteps.{went_told}
use Rattle.tipc_two_nodes.proofs.arrivals.Steady.{ShowsNoHigher}
use Rattle.tipc_two_nodes.proofs.arrivals.TunnelPlaces.{at_place, ignored_none, next_taken}

-- ---- the pair is ready

-- By events of the receiver, which took nothing, a state became one for which the pair stands, and the packet lands.
pub record IsReady (b : Bearer) (v y : View) (h : AreTwins v y) (x : PairEnds) (es er : ℕ) (p : Fields) : Type 0 where
  pub state : State
  pub takes : ReceiverFollows First (takes_in v y h).state state
  pub none : take (length state.delivered) (takes_in v y h).traffic.put ≡ taken_of (takes_in v y h)
  pub sent : IsSent y h.there v.node.seen v.node.contact (record { traffic = (takes_in v y h).traffic; state = state })
  pub stands : Stands x b (traffic_from b (takes_in v y h).traffic) (state_from b state) (take (length state.delivered) (takes_in v y h).traffic.put)
  pub land : MayLand x es er p (traffic_from b (takes_in v y h).traffic) (state_from b state)

-- in contact
pub ready_in_contact : (b : Bearer) (v y : View) (h : AreTwins v y) (x : PairEnds) (es er : ℕ) (p : Fields) → IsOfPair v x → x.bearer ≡ number_as b → Reaches v y x.bearer es er p → in_contact x ≡ true → IsReady b v y h x es er p
ready_in_contact b v y h x es er p pair is r lasts =
    let here = in_contact_present v y x h.paired pair lasts in
    let S = h.receives.sent v.node.seen v.node.contact in
    let T = h.receives.taken v.node.seen v.node.contact in
    let k = takes_in v y h in
    record {
      state = k.state;
      takes = stays;
      none = refl;
      sent = S;
      stands = stands_from b v x k pair is S.reached S.lines (T.near here) (T.far here) (made_from b v y x h pair is);
      land = lands v y h.here x.bearer x es er p (traffic_from b k.traffic) (state_from b k.state) h.paired h.numbers_here r (sym pair.near) (sym pair.seen) lasts (sessions_from b y v.node.seen v.node.contact x.bearer k is S.near S.far) (record_from b v x.bearer k is (T.near here) (T.far here));
    }

-- a frame lands at the near link, whether or not the pair is in contact, where it shows no higher contact number
lands_low : (x y : View) (n : Numbers) (b : ℕ) (z : PairEnds) (es er : ℕ) (p : Fields) (t : Traffic) (s : State) → ArePaired x y → AreNumbers x y n → Reaches x y b es er p → z.near ≡ (x.wires b).end → z.seen ≡ x.node.seen → ShowsNoHigher p.header z.seen
    → AreSessions y x.node.seen x.node.contact b t.near s.near → IsRecordFor t.near (record_at (x.wires b).end) s.near_record → MayLand z es er p t s
lands_low x y n b z es er p t s h numbers r near seen low sessions stands = record {
  goes_on = λ e a is session traffic stay. lands_on x y n b e a es er p t s h numbers r (sym near ∙ is) session traffic stay sessions stands;
  rises = λ e is traffic up. lands_up x y b e es er p t s h r (sym near ∙ is) traffic up sessions stands;
  activates = λ said e activate is latest own last recent. (
      let same : said.contact ≡ x.node.seen = elim latest [ inl equal ↦ equal ∙ seen | inr higher ↦ absurd (let few = low said activate in let more = higher.0 in let wrong : ⊥ = omega arith in wrong) ] in
      lands_activate x y b e es er x.node.seen p said t s h r (sym near ∙ is) activate same own last recent sessions stands);
}

pub out_apart : (v : View) (x : PairEnds) → IsOfPair v x → in_contact x ≡ false → IsApart v
out_apart v x pair out = apart_of v x pair (near_down x out) (far_down x out)

-- out of contact, where the peer told a frame in the contact that is to begin
pub ready_apart : (b : Bearer) (v y : View) (h : AreTwins v y) (x : PairEnds) (es er : ℕ) (p : Fields) (bearer epoch : ℕ) → IsOfPair v x → x.bearer ≡ number_as b → Reaches v y x.bearer es er p → ShowsNoHigher p.header x.seen → in_contact x ≡ false
    → IsToldIn y.told bearer epoch v.node.seen v.node.contact → IsReady b v y h x es er p
ready_apart b v y h x es er p bearer epoch pair is r low out shown =
    let c = takes_in v y h in
    let S = h.receives.sent v.node.seen v.node.contact in
    let B = apart_both y v h.there h.here c bearer epoch (turned v y h.paired) h.numbers_there h.numbers_here h.recorded_here (out_apart v x pair out) shown S (h.receives.taken v.node.seen v.node.contact) in
    let sent = sent_taken y h.there v.node.seen v.node.contact c B.state S B.takes (shown_known y v h.there bearer epoch v.node.seen v.node.contact h.numbers_there shown) in
    let k : Carriage = record { traffic = c.traffic; state = B.state } in
    record {
      state = B.state;
      takes = B.takes;
      none = ap (λ (ds : List ℕ). take (length ds) c.traffic.put) B.delivered;
      sent = sent;
      stands = stands_from b v x k pair is sent.reached sent.lines B.near B.far (made_from b v y x h pair is);
      land = lands_low v y h.here x.bearer x es er p (traffic_from b c.traffic) (state_from b B.state) h.paired h.numbers_here r (sym pair.near) (sym pair.seen) low (sessions_from b y v.node.seen v.node.contact x.bearer k is sent.near sent.far)
          (record_from b v x.bearer k is B.near B.far);
    }

-- ---- what it takes

pub ready_opens : (b : Bearer) (v y : View) (h : AreTwins v y) (x : PairEnds) (es er : ℕ) (p : Fields) (by : ℕ) (shown : BroadcastState) (c : Course) (given : PairOutcome) → IsOfPair v x → IsPairOfEnds x → (m : IsReady b v y h x es er p) → Arrives x es er p by shown c given
    → Opens b x.bearer (traffic_from b (takes_in v y h).traffic) (state_from b m.state) (take (length m.state.delivered) (takes_in v y h).traffic.put) (heard_pair x es er p by shown) c.pair given
ready_opens b v y h x es er p by shown c given pair ends m a =
    arrivals_receive x es er p by shown c given b (traffic_from b (takes_in v y h).traffic) (state_from b m.state) (take (length m.state.delivered) (takes_in v y h).traffic.put) (are_ends_of v y x h pair ends).near m.stands m.land a

-- ---- a tunnel packet is at its place

ready_places : (b : Bearer) (v y : View) (h : AreTwins v y) (x : PairEnds) (es er : ℕ) (p : Fields) (by : ℕ) (e : LinkEnd) (first : Taken) (others : List Taken) (t : Tunnelled) → IsOfPair v x → x.bearer ≡ number_as b → IsPairOfEnds x → IsReady b v y h x es er p → x.near ≡ Some e
    → is_traffic p.header ≡ true → link_outcome e (on_traffic e.fsm es er) p by ≡ LinkOutcome.Took (first ∷ others) → IsTunnelOf first.packet t → IsAtPlace y x t first.by
ready_places b v y h x es er p by e first others t pair is ends m near traffic took tunnel =
    let c = takes_in v y h in
    let T = traffic_from b c.traffic in
    let S = state_from b m.state in
    let n = next_taken x e es er p by b T S (take (length m.state.delivered) c.traffic.put) first others (are_ends_of v y x h pair ends).near m.stands m.land near traffic (traffic_change e.fsm es er) took in
    let k : Carriage = record { traffic = c.traffic; state = m.state } in
    let far = far_sessions_from b y v.node.seen v.node.contact x.bearer k is m.sent.near m.sent.far in
    at_place y x b T S v.node.seen v.node.contact first others t n (subst (AreSessions y v.node.seen v.node.contact (other x.bearer) T.far) (sym (takes_stay b S n.state n.takes).far) far) pair.contact pair.seen tunnel

none_outcome : (x : PairEnds) (es er : ℕ) (p : Fields) (by : ℕ) (shown : BroadcastState) (first : Taken) (others : List Taken) → is_traffic p.header ≡ true → x.near ≡ None → (hears p.header es er p by shown x).outcome ≡ LinkOutcome.Took (first ∷ others) → ⊥
none_outcome x es er p by shown first others traffic none is =
    let same : hears p.header es er p by shown x ≡ passing x why.Unknown = traffic_hears p.header es er p by shown x traffic ∙ ap (met_at es er p by shown x) none in
    let wrong : LinkOutcome.Ignored why.Unknown ≡ LinkOutcome.Took (first ∷ others) = sym (ap (λ (m : Heard). m.outcome) same) ∙ is in
    let no : ⊥ = cc in
    no

some_outcome : (x : PairEnds) (e : LinkEnd) (es er : ℕ) (p : Fields) (by : ℕ) (shown : BroadcastState) (taken : List Taken) → is_traffic p.header ≡ true → x.near ≡ Some e → (hears p.header es er p by shown x).outcome ≡ LinkOutcome.Took taken → link_outcome e (on_traffic e.fsm es er) p by ≡ LinkOutcome.Took taken
some_outcome x e es er p by shown taken traffic near is = sym (ap (λ (m : Heard). m.outcome) (traffic_met x e es er p by shown traffic near)) ∙ is

places_at : (b : Bearer) (v y : View) (h : AreTwins v y) (x : PairEnds) (es er : ℕ) (p : Fields) (by : ℕ) (shown : BroadcastState) (first : Taken) (others : List Taken) (t : Tunnelled) (o : Option LinkEnd) → IsOfPair v x → x.bearer ≡ number_as b → IsPairOfEnds x → x.near ≡ o
    → ((e : LinkEnd) → x.near ≡ Some e → link_outcome e (on_traffic e.fsm es er) p by ≡ LinkOutcome.Took (first ∷ others) → IsReady b v y h x es er p) → is_traffic p.header ≡ true → (hears p.header es er p by shown x).outcome ≡ LinkOutcome.Took (first ∷ others) → IsTunnelOf first.packet t → IsAtPlace y x t first.by
places_at b v y h x es er p by shown first others t None pair is ends near ready traffic took tunnel = absurd (none_outcome x es er p by shown first others traffic near took)
places_at b v y h x es er p by shown first others t (Some e) pair is ends near ready traffic took tunnel =
    let so = some_outcome x e es er p by shown (first ∷ others) traffic near took in
    ready_places b v y h x es er p by e first others t pair is ends (ready e near so) near traffic so tunnel

-- out of contact the link goes up with it, under an epoch that was told
apart_told : (v y : View) (h : AreTwins v y) (x : PairEnds) (e : LinkEnd) (es er : ℕ) (p : Fields) (by : ℕ) (first : Taken) (others : List Taken) → IsOfPair v x → Reaches v y x.bearer es er p → in_contact x ≡ false → x.near ≡ Some e → is_traffic p.header ≡ true → Hears (on_traffic e.fsm es er).change
    → link_outcome e (on_traffic e.fsm es er) p by ≡ LinkOutcome.Took (first ∷ others) → (epoch : ℕ) × IsToldIn y.told x.bearer epoch v.node.seen v.node.contact
apart_told v y h x e es er p by first others pair r out near traffic (goes_on stay) took = absurd (true≢false (sym (stay_keeps e.fsm es er stay).was ∙ (ap is_up_at (sym near) ∙ near_down x out)))
apart_told v y h x e es er p by first others pair r out near traffic (goes_up up) took =
    let call = TrafficArrives es er in
    let m = went v y x.bearer e call h.paired (pair.near ∙ near) (reached_begun v y x.bearer es er p h.paired r traffic) up in
    (m.0, went_told v y x.bearer e (after e (outcome e.fsm call)) m.0 h.paired m.1)
apart_told v y h x e es er p by first others pair r out near traffic (is_ignored reason ignored) took = absurd (ignored_none e es er p by reason first others ignored took)

pub may_open : (v y : View) (h : AreTwins v y) (x : PairEnds) (es er : ℕ) (p : Fields) (by : ℕ) (shown : BroadcastState) → IsOfPair v x → IsPairOfEnds x → Reaches v y x.bearer es er p → is_traffic p.header ≡ true → ShowsNoHigher p.header x.seen → MayOpen y x (hears p.header es er p by shown x)
may_open v y h x es er p by shown pair ends r traffic low =
    let at = bearer_of x.bearer pair.two_bearers in
    let b = at.0 in
    record {
      tunnel = λ first others t took speaks. places_at b v y h x es er p by shown first others t x.near pair at.1 ends refl
          (λ e near so. elim (in_contact x) as (λ c. in_contact x ≡ c → IsReady b v y h x es er p) [
            | true ↦ λ lasts. ready_in_contact b v y h x es er p pair at.1 r lasts
            | false ↦ λ out. (let k = apart_told v y h x e es er p by first others pair r out near traffic (traffic_change e.fsm es er) so in ready_apart b v y h x es er p x.bearer k.0 pair at.1 r low out k.1)
          ] refl)
          traffic took speaks.tunnel;
    }
