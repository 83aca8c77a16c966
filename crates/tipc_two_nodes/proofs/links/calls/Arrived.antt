-- A packet arrives at a pair: what the whole call makes of the pair as a sender.
use Rattle.std.proofs.Common.{◌≡◌, ◌&&◌, ℕ, Bool, true, false, if◌then◌else◌, [], Option, Some, None, refl, sym, ap, ◌∙◌, subst, inl, inr}
use Rattle.std.proofs.lemmas.Bool.{and_parts, cases_Bool}
use Rattle.tipc_types.specs.declared.link_words.BroadcastState.{BroadcastState}
use Rattle.tipc_types.specs.declared.link_words.Why.TheVariants as why
use Rattle.tipc_header.specs.declared.packet.Header.{Header}
use Rattle.tipc_header.specs.declared.packet.Header.TheVariants as header
use Rattle.tipc_header.specs.Spelling.{Fields}
use Rattle.tipc_link_fsm.specs.Table.{Outcome, on_traffic}
use Rattle.tipc_link.specs.Links.{LinkEnd, after, change_outcome, heard_outcome, is_heard, is_taken, is_traffic, outcome_of}
use Rattle.tipc_link.specs.Sessions.{content_of}
use Rattle.tipc_pair.specs.declared.changes.PairOutcome.{PairOutcome}
use Rattle.tipc_pair.specs.Changeovers.{risen}
use Rattle.tipc_pair.specs.Courses.{Course, going_on}
use Rattle.tipc_pair.specs.Facing.{PairEnds, in_contact, is_up_at}
use Rattle.tipc_pair.specs.PairArrivals.{Arrives, Heard, OpensInto, activates, behind, hears, met, met_at, met_near, passing, taken_in}
use Rattle.tipc_pair.specs.PairFacts.{AreHeldRightly}
use Rattle.tipc_pair.proofs.ArrivalLaws.{arrived_pair, opened_far}
use Rattle.tipc_pair.proofs.HeldLaws.{HeldUp, held_up}
use Rattle.tipc_changeover.specs.Links.{Bearer, State}
use Rattle.tipc_changeover.specs.Sound.{Sound}
use Rattle.tipc_two_nodes.specs.links.Traffic.{Traffic}
use Rattle.tipc_two_nodes.specs.links.Sending.{StandFor, ends_seen}
use Rattle.tipc_two_nodes.specs.links.Turning.{AreEnds}
use Rattle.tipc_two_nodes.specs.links.Acting.{AcknowledgesTaken, Acts}
use Rattle.tipc_two_nodes.proofs.links.calls.Carrying.{goes_quietly, heard_opens, nothing_opens}
use Rattle.tipc_two_nodes.proofs.links.calls.Ending.{Goes, released_acts}
use Rattle.tipc_two_nodes.proofs.links.receiver.Hearing.{traffic_hears, traffic_met}
use Rattle.tipc_two_nodes.proofs.links.calls.Listening.{hears_rise}
use Rattle.tipc_two_nodes.proofs.links.calls.Noticing.{MayChange, may_change, notices_go, passes_still, unheard_goes}
use Rattle.tipc_two_nodes.proofs.links.receiver.Quiet.{change_none, number_none, shown_none}
use Rattle.tipc_two_nodes.proofs.links.calls.States.{traffic_turns}

-- ---- packets that take nothing

unheard_taken : (x : PairEnds) (e : LinkEnd) (o : Outcome) (p : Fields) (es by : ℕ) (shown : BroadcastState) → is_heard p.header o.change ≡ false → taken_in (met x e o p es by shown).outcome ≡ []
unheard_taken x e o p es by shown unheard = ap (λ b. taken_in (if b then heard_outcome (after e o).session by (content_of p) else change_outcome o.change)) unheard ∙ change_none o.change

other_taken : (x : PairEnds) (end : Option LinkEnd) (p : Fields) (es er by : ℕ) (shown : BroadcastState) → is_traffic p.header ≡ false → taken_in (met_at es er p by shown x end).outcome ≡ []
other_taken x None p es er by shown other = refl
other_taken x (Some e) p es er by shown other = let o = outcome_of e.fsm p.header es er (is_up_at x.far) in unheard_taken x e o p es by shown (ap (λ b. b && is_taken o.change) other)

activates_taken : (inside : Bool) (c : Course) (others : Heard) → taken_in others.outcome ≡ [] → taken_in (activates inside c others).outcome ≡ []
activates_taken true c others none = refl
activates_taken false c others none = none

notices_taken : (x : PairEnds) (h : Header) (p : Fields) (es er by : ℕ) (shown : BroadcastState) → p.header ≡ h → is_traffic h ≡ false → taken_in (hears h es er p by shown x).outcome ≡ []
notices_taken x (header.Reset said) p es er by shown is other = (shown_none said.contact es shown x).none
notices_taken x (header.Activate said) p es er by shown is other =
    let hear : PairEnds → Heard = met_near es er p by shown in
    let c = risen x said.contact in
    let none = λ (y : PairEnds). other_taken y y.near p es er by shown (ap is_traffic is ∙ other) in
    number_none (λ (m : Heard). taken_in m.outcome ≡ []) x said.contact (hear x) (activates (in_contact x) c (behind c hear)) refl (none x) (activates_taken (in_contact x) c (behind c hear) (none c.pair))
notices_taken x (header.Discovery said) p es er by shown is other = other_taken x x.near p es er by shown (ap is_traffic is ∙ other)
notices_taken x (header.State said) p es er by shown is other = absurd (let wrong : ⊥ = cc in wrong)
notices_taken x (header.Payload said) p es er by shown is other = absurd (let wrong : ⊥ = cc in wrong)
notices_taken x (header.Bundler said) p es er by shown is other = absurd (let wrong : ⊥ = cc in wrong)
notices_taken x (header.Changeover said) p es er by shown is other = absurd (let wrong : ⊥ = cc in wrong)
notices_taken x (header.NameDistributor said) p es er by shown is other = absurd (let wrong : ⊥ = cc in wrong)
notices_taken x (header.Fragmenter said) p es er by shown is other = absurd (let wrong : ⊥ = cc in wrong)

-- ---- what comes before the end of the call

-- what was heard, and what was opened of it
Opened : (b : Bearer) (x : PairEnds) (m : Heard) (t : Traffic) (z : State) → Type 0
Opened b x m t z = (c : Course) (given : PairOutcome) → OpensInto m.course.pair m.outcome c given → Goes b x c.pair t z

nothing_opened : (b : Bearer) (x : PairEnds) (m : Heard) (t : Traffic) (z : State) → Goes b x m.course.pair t z → taken_in m.outcome ≡ [] → Opened b x m t z
unfolding Opened
nothing_opened b x m t z h none c given into = goes_quietly b x m.course.pair c.pair t z h (nothing_opens m.course.pair m.outcome c given none into)

heard_opened : (b : Bearer) (x : PairEnds) (e : LinkEnd) (es er : ℕ) (p : Fields) (by : ℕ) (shown : BroadcastState) (t : Traffic) (z : State) → x.near ≡ Some e → MayChange x → AcknowledgesTaken x es er p z → is_heard p.header (on_traffic e.fsm es er).change ≡ true
    → StandFor b (ends_seen x) t z → Sound b z → Opened b x (met x e (on_traffic e.fsm es er) p es by shown) t z
unfolding Opened going_on
heard_opened b x e es er p by shown t z is may taken heard stand sound c given into =
    let o = on_traffic e.fsm es er in
    let m = met x e o p es by shown in
    let traffic = (and_parts (is_traffic p.header) (is_taken o.change) heard).0 in
    let rise = hears_rise b x e es er p by shown t z is may heard (λ s session stay. taken e s is session traffic stay) stand sound in
    let bearer : x.bearer ≡ m.course.pair.bearer = stand.bearer ∙ sym rise.near.become.stand.bearer in
    heard_opens b x m.course.pair t z m.outcome c given bearer sound may.far rise into

traffic_opened : (b : Bearer) (x : PairEnds) (end : Option LinkEnd) (es er : ℕ) (p : Fields) (by : ℕ) (shown : BroadcastState) (t : Traffic) (z : State) → x.near ≡ end → MayChange x → AcknowledgesTaken x es er p z → is_traffic p.header ≡ true
    → StandFor b (ends_seen x) t z → Sound b z → Opened b x (hears p.header es er p by shown x) t z
traffic_opened b x None es er p by shown t z is may taken traffic stand sound =
    let same : hears p.header es er p by shown x ≡ passing x why.Unknown = traffic_hears p.header es er p by shown x traffic ∙ ap (met_at es er p by shown x) is in
    subst (λ m. Opened b x m t z) (sym same) (nothing_opened b x (passing x why.Unknown) t z (passes_still b x t z may.up stand) refl)
traffic_opened b x (Some e) es er p by shown t z is may taken traffic stand sound =
    let o = on_traffic e.fsm es er in
    let m = met x e o p es by shown in
    let now : Opened b x m t z = elim (cases_Bool (is_heard p.header o.change)) [
      | inl heard ↦ heard_opened b x e es er p by shown t z is may taken heard stand sound
      | inr unheard ↦ nothing_opened b x m t z (unheard_goes b x e o p es by shown t z is may (traffic_turns e.fsm es er (is_up_at x.far)) unheard stand sound) (unheard_taken x e o p es by shown unheard)
    ] in
    subst (λ k. Opened b x k t z) (sym (traffic_met x e es er p by shown traffic is)) now

any_opened : (b : Bearer) (x : PairEnds) (es er : ℕ) (p : Fields) (by : ℕ) (shown : BroadcastState) (t : Traffic) (z : State) → MayChange x → HeldUp x → AcknowledgesTaken x es er p z
    → StandFor b (ends_seen x) t z → Sound b z → Opened b x (hears p.header es er p by shown x) t z
any_opened b x es er p by shown t z may held taken stand sound = elim (cases_Bool (is_traffic p.header)) [
  | inl traffic ↦ traffic_opened b x x.near es er p by shown t z refl may taken traffic stand sound
  | inr other ↦ nothing_opened b x (hears p.header es er p by shown x) t z (notices_go b x p.header p es er by shown t z refl other may held stand sound) (notices_taken x p.header p es er by shown refl other)
]

-- ---- the call

pub arrivals_act : (b : Bearer) (x : PairEnds) (es er : ℕ) (p : Fields) (by : ℕ) (shown : BroadcastState) (c : Course) (given : PairOutcome) (t : Traffic) (z : State) → AreEnds x → AreHeldRightly x → AcknowledgesTaken x es er p z
    → StandFor b (ends_seen x) t z → Sound b z → Arrives x es er p by shown c given → Acts b x c.pair t z
unfolding Opened
arrivals_act b x es er p by shown c given t z ends held taken stand sound a =
    let up = held_up x held in
    let G = any_opened b x es er p by shown t z (may_change x ends) up taken stand sound a.opened given a.opens in
    subst (λ y. Acts b x y t z) (sym (arrived_pair x es er p by shown c given a)) (released_acts b x a.opened.pair t z G ((opened_far x es er p by shown c given a).held up))
