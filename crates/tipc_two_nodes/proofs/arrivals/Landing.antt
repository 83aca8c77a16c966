-- A frame of the peer lands at a pair: as a packet of a session of the contact, or under the epoch of one.
use Rattle.std.proofs.Common.{◌≡◌, ◌&&◌, ◌≤◌, ℕ, List, Some, true, false, refl, sym, ap, ◌∙◌, subst, inl, inr, eqb-true}
use Rattle.std.specs.Prelude.{not}
use Rattle.std.proofs.lemmas.Bool.{and_parts, true≢false}
use Rattle.tipc_types.specs.LinkStates.{is_up}
use Rattle.tipc_header.specs.declared.packet.Header.TheVariants as header
use Rattle.tipc_header.specs.declared.packet.Reset.{Reset}
use Rattle.tipc_header.specs.Spelling.{Fields}
use Rattle.tipc_link_fsm.specs.declared.changes.Change.TheVariants.{Stay, Up}
use Rattle.tipc_link_fsm.specs.Runs.{TrafficArrives}
use Rattle.tipc_link_fsm.specs.Table.{Fsm, Outcome, is_last, is_peer, is_reset_reset, is_session, on_traffic}
use Rattle.tipc_link_fsm.proofs.Moves.{cases_on}
use Rattle.tipc_link.specs.Links.{LinkEnd, after, is_taken, is_traffic, known}
use Rattle.tipc_link.specs.Sessions.{SessionEnd}
use Rattle.tipc_link.proofs.Ends.{after-is}
use Rattle.tipc_link.proofs.EndsTurns.{peer_is}
use Rattle.tipc_pair.specs.Facing.{PairEnds, in_contact, turned as turned_pair}
use Rattle.tipc_changeover.proofs.Staying.{reached_sound}
use Rattle.tipc_changeover.specs.Links.{State, turned_state as turned_state}
use Rattle.tipc_changeover.specs.Slots.{LinkSlot}
use Rattle.tipc_two_nodes.specs.links.Acting.{AcknowledgesTaken}
use Rattle.tipc_two_nodes.specs.links.Arriving.{MayBeginAt}
use Rattle.tipc_two_nodes.specs.links.Landing.{MayGoOn, MayLand, MayRise}
use Rattle.tipc_two_nodes.specs.links.Receiving.{IsRecordFor, record_at}
use Rattle.tipc_two_nodes.specs.links.Sending.{IsSender, end_seen}
use Rattle.tipc_two_nodes.specs.links.Traffic.{Traffic, turned_traffic as turned_traffic}
use Rattle.tipc_two_nodes.proofs.links.receiver.Rising.{traffic_peer}
use Rattle.tipc_paired.proofs.Facts.{up_on_record}
use Rattle.tipc_paired.proofs.sessions.RiseDeeds.{Went, went}
use Rattle.tipc_paired.proofs.sessions.SessionDeeds.{of_session}
use Rattle.tipc_paired.proofs.wires.Wires.{same_some}
use Rattle.tipc_paired.specs.Deeds.{Hears, IsUp}
use Rattle.tipc_paired.specs.Paired.{ArePaired, IsFrame, IsShown, ShowsContact, IsOfSession as IsToldOf}
use Rattle.tipc_paired.specs.Views.{View}
use Rattle.tipc_two_nodes.specs.deeds.Arriving.{Reaches}
use Rattle.tipc_two_nodes.proofs.deeds.Arriving.{reached_begun, reached_contact, reached_shown}
use Rattle.tipc_two_nodes.proofs.deeds.Meeting.{reached_session}
use Rattle.tipc_two_nodes.specs.ArrivalLaws.{FirstAcknowledges, SecondAcknowledges}
use Rattle.tipc_two_nodes.specs.Carriages.{AreSessions, IsCounted, Numbers, pair_of}
use Rattle.tipc_two_nodes.specs.Numbers.{AreNumbers}
use Rattle.tipc_two_nodes.specs.Twins.{sends_in}
use Rattle.tipc_two_nodes.proofs.arrivals.Acknowledging.{heard_are_taken}
use Rattle.tipc_two_nodes.proofs.arrivals.Arriving.{heard_goes_on, told_begins, went_rises}
use Rattle.tipc_two_nodes.proofs.steps.RiseSteps.{shown_in}

-- a STATE or a numbered packet that is taken shows the epochs of its end, which is up where it stays so
record ShowsSession (f : Fsm) (es er : ℕ) (o : Outcome) : Type 0 where
  peer : f.peer ≡ Some es
  own : er ≡ f.own
  up : o.change ≡ Stay → is_up f.state ≡ true

shows_session : (f : Fsm) (es er : ℕ) → is_taken (on_traffic f es er).change ≡ true → ShowsSession f es er (on_traffic f es er)
unfolding on_traffic
shows_session f es er =
    let P : Outcome → Type 0 = λ o. is_taken o.change ≡ true → ShowsSession f es er o in
    let epochs : is_session f es er ≡ true → (f.peer ≡ Some es) × (er ≡ f.own) = λ is. (let both = and_parts (is_peer f.peer es) _ is in (peer_is f.peer es both.0, eqb-true er f.own both.1)) in
    cases_on P (is_session f es er && (is_reset_reset f.state && not (is_last f.own))) _ _
    (λ fits taken. (let all = epochs (and_parts (is_session f es er) _ fits).0 in record { peer = all.0; own = all.1; up = λ stay. absurd (let wrong : ⊥ = cc in wrong) }))
    (λ _. cases_on P (is_session f es er && is_up f.state) _ _
    (λ fits taken. (let all = and_parts (is_session f es er) _ fits in let both = epochs all.0 in record { peer = both.0; own = both.1; up = λ _. all.1 }))
    (λ _ taken. absurd (let wrong : ⊥ = cc in wrong)))

-- a packet of the session that the link has is heard in it
record IsHeardOn (x y : View) (b : ℕ) (e : LinkEnd) (a : SessionEnd) (p : Fields) : Type 0 where
  up : IsUp (x.wires b) e a
  heard : Hears x y b a p

heard_on : (x y : View) (b : ℕ) (e : LinkEnd) (a : SessionEnd) (es er : ℕ) (p : Fields) → ArePaired x y → Reaches x y b es er p → (x.wires b).end ≡ Some e → e.session ≡ Some a → is_traffic p.header ≡ true → (on_traffic e.fsm es er).change ≡ Stay → IsHeardOn x y b e a p
heard_on x y b e a es er p h r is session traffic stay =
    let shows = shows_session e.fsm es er (ap is_taken stay) in
    let up : IsUp (x.wires b) e a = record { end_is = is; up = shows.up stay; session_is = session } in
    let at = up_on_record x y b e a h up in
    record { up = up; heard = reached_session x y x b es er p a r traffic (at.0 ∙ sym shows.own) (same_some a.peer_epoch es e.fsm.peer at.1 shows.peer) (λ epoch. refl) }

pub lands_on : (x y : View) (n : Numbers) (b : ℕ) (e : LinkEnd) (a : SessionEnd) (es er : ℕ) (p : Fields) (t : Traffic) (s : State) → ArePaired x y → AreNumbers x y n → Reaches x y b es er p → (x.wires b).end ≡ Some e → e.session ≡ Some a → is_traffic p.header ≡ true
    → (on_traffic e.fsm es er).change ≡ Stay → AreSessions y x.node.seen x.node.contact b t.near s.near → IsRecordFor t.near (record_at (x.wires b).end) s.near_record → MayGoOn e a p t s
lands_on x y n b e a es er p t s h numbers r is session traffic stay sessions stands =
    let k = heard_on x y b e a es er p h r is session traffic stay in
    heard_goes_on x y n b e a p t s h numbers k.up k.heard sessions stands

-- a packet with which the link goes up
pub lands_up : (x y : View) (b : ℕ) (e : LinkEnd) (es er : ℕ) (p : Fields) (t : Traffic) (s : State) → ArePaired x y → Reaches x y b es er p → (x.wires b).end ≡ Some e → is_traffic p.header ≡ true → (on_traffic e.fsm es er).change ≡ Up
    → AreSessions y x.node.seen x.node.contact b t.near s.near → IsRecordFor t.near (record_at (x.wires b).end) s.near_record → MayRise e es p t s
lands_up x y b e es er p t s h r is traffic up sessions stands =
    let o = on_traffic e.fsm es er in
    let e' = after e o in
    let m = went x y b e (TrafficArrives es er) h is (reached_begun x y b es er p h r traffic) up in
    let peer : known e'.fsm.peer ≡ es = ap (λ (d : LinkEnd). known d.fsm.peer) (after-is e o) ∙ traffic_peer e.fsm es er up in
    let same : m.0 ≡ es = sym (ap known m.1.peer_is) ∙ peer in
    let own = (shows_session e.fsm es er (ap is_taken up)).own in
    let frame = subst (λ c. IsFrame y.node.own (y.wires c) (x.wires c) r.frame) r.bearer_is (h.there.frames r.place r.frame r.there) in
    let told = of_session y.node.own (y.wires b) (x.wires b) r.frame es er p frame r.es_fits r.er_fits r.fits r.bytes traffic in
    went_rises x y b e e' es r.frame p t s h (subst (Went x y b e e') same m.1) (subst (λ k. IsToldOf (y.wires b) (x.wires b) r.frame es k p) own told) (r.peer_fresh traffic) sessions stands

-- an ACTIVATE that shows this contact number and the end's own epoch
pub lands_activate : (x y : View) (b : ℕ) (e : LinkEnd) (es er number : ℕ) (p : Fields) (said : Reset) (t : Traffic) (s : State) → ArePaired x y → Reaches x y b es er p → (x.wires b).end ≡ Some e → p.header ≡ header.Activate said → said.contact ≡ number → er ≡ e.fsm.own
    → is_last e.fsm.own ≡ false → e.fsm.highest ≤ es → AreSessions y number x.node.contact b t.near s.near → IsRecordFor t.near (record_at (x.wires b).end) s.near_record → MayBeginAt t s es
lands_activate x y b e es er number p said t s h r is activate same own last recent sessions stands =
    let shows = subst (λ k. ShowsContact k r.frame.contact r.frame.peer_contact) activate (reached_contact x y b es er p h r) in
    let shown = subst (λ k. IsShown y.told b es k number) own (reached_shown x y b es er number p r (sym shows.0 ∙ same)) in
    told_begins x y b e es number t s h is (shown_in x y b e es number h is last shown) recent sessions stands

-- A frame of the peer lands at the near link of a pair that is in contact, with the link on a bearer of a node.
pub lands : (x y : View) (n : Numbers) (b : ℕ) (z : PairEnds) (es er : ℕ) (p : Fields) (t : Traffic) (s : State) → ArePaired x y → AreNumbers x y n → Reaches x y b es er p → z.near ≡ (x.wires b).end → z.seen ≡ x.node.seen → in_contact z ≡ true
    → AreSessions y x.node.seen x.node.contact b t.near s.near → IsRecordFor t.near (record_at (x.wires b).end) s.near_record → MayLand z es er p t s
lands x y n b z es er p t s h numbers r near seen lasts sessions stands = record {
  goes_on = λ e a is session traffic stay. lands_on x y n b e a es er p t s h numbers r (sym near ∙ is) session traffic stay sessions stands;
  rises = λ e is traffic up. lands_up x y b e es er p t s h r (sym near ∙ is) traffic up sessions stands;
  activates = λ said e activate is latest own last recent. (
      let same : said.contact ≡ x.node.seen = elim latest [ inl equal ↦ equal ∙ seen | inr higher ↦ absurd (true≢false (sym lasts ∙ higher.1)) ] in
      lands_activate x y b e es er x.node.seen p said t s h r (sym near ∙ is) activate same own last recent sessions stands);
}

-- ---- the pair of a node

-- ---- what is acknowledged

-- what the link on a bearer hears acknowledged was taken
acks_taken : {P : LinkSlot → List ℕ → Type 0} (x y : View) (b : ℕ) (z : PairEnds) (es er : ℕ) (p : Fields) (t : Traffic) (s : State) → ArePaired x y → Reaches x y b es er p → z.near ≡ (x.wires b).end
    → IsSender P t.near (end_seen x.node.contact (x.wires b).end) s.near → s.near_record.session ≤ s.near.session → IsCounted x y x.node.contact x.node.seen b t.near s.near_record → AcknowledgesTaken z es er p s
acks_taken {P} x y b z es er p t s h r near sender shown counted e a is session traffic stay some =
    let there : (x.wires b).end ≡ Some e = sym near ∙ is in
    let k = heard_on x y b e a es er p h r there session traffic stay in
    let own = subst (λ o. IsSender P t.near (end_seen x.node.contact o) s.near) there sender in
    heard_are_taken x y b x.node.contact e a p P t s h k.up k.heard own shown counted some

pub first_acknowledges : FirstAcknowledges
first_acknowledges x y message es er p h r =
    let S = h.sends.sent x.node.contact x.node.seen in
    let c = sends_in x y h in
    acks_taken x y 0 (pair_of x message) es er p c.traffic c.state h.paired r refl (S.now refl refl).near (reached_sound c.state S.reached).near.ends.record_shown (h.sends.counted x.node.contact x.node.seen).near

pub second_acknowledges : SecondAcknowledges
second_acknowledges x y message es er p h r =
    let S = h.sends.sent x.node.contact x.node.seen in
    let c = sends_in x y h in
    acks_taken x y 1 (turned_pair (pair_of x message)) es er p (turned_traffic c.traffic) (turned_state c.state) h.paired r refl (S.now refl refl).far (reached_sound c.state S.reached).far.ends.record_shown (h.sends.counted x.node.contact x.node.seen).far
