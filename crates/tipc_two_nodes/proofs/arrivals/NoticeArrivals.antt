-- A RESET or an ACTIVATE arrives at a pair, as a whole call, which gives nothing.
use Rattle.std.proofs.Common.{◌≡◌, ℕ, true, false, if◌then◌else◌, List, [], Option, Some, None, refl, sym, ap, ◌∙◌, subst, append-nil}
use Rattle.tipc_types.specs.declared.link_words.BroadcastState.{BroadcastState}
use Rattle.tipc_types.specs.declared.packet_lists.Taken.{Taken}
use Rattle.tipc_header.specs.declared.packet.Header.{Header}
use Rattle.tipc_header.specs.declared.packet.Header.TheVariants as header
use Rattle.tipc_header.specs.Spelling.{Fields}
use Rattle.tipc_fragments.specs.Joining.{Joining}
use Rattle.tipc_reassembly.specs.declared.opening.Opened.{Opened}
use Rattle.tipc_reassembly.specs.Opening.{BringsAll}
use Rattle.tipc_recv_window.specs.declared.outcomes.LinkOutcome.{LinkOutcome}
use Rattle.tipc_link.specs.Links.{LinkEnd, after, change_outcome, heard_outcome, is_traffic, link_outcome, outcome_of}
use Rattle.tipc_link.specs.Sessions.{content_of}
use Rattle.tipc_link_fsm.specs.Table.{Outcome}
use Rattle.tipc_pair.specs.declared.changes.PairOutcome.{PairOutcome}
use Rattle.tipc_pair.specs.Changeovers.{released, risen}
use Rattle.tipc_pair.specs.Courses.{Course, going_on, rests}
use Rattle.tipc_pair.specs.Facing.{PairEnds, in_contact, is_up_at}
use Rattle.tipc_pair.specs.PairArrivals.{Heard, OpensInto, Unwraps, activate_higher, activate_shown, activates, as_it_is, behind, deferred, hears, ignored, met_at, met_near, none_taken, opens, taken_in, tunnel, with_begun, with_bytes}
use Rattle.tipc_pair.proofs.ArrivalLaws.{opened_far}
use Rattle.tipc_pair.proofs.HeldLaws.{held_up}
use Rattle.tipc_two_nodes.proofs.links.receiver.BegunKept.{released_same}
use Rattle.tipc_two_nodes.specs.links.Arriving.{Gives, brings, ignores, waits}
use Rattle.tipc_two_nodes.proofs.links.receiver.Quiet.{change_none, number_none, shown_none}
use Rattle.tipc_paired.specs.Views.{View}
use Rattle.tipc_two_nodes.proofs.deeds.Arriving.{unheard}
use Rattle.tipc_two_nodes.proofs.deeds.Chains.{did_nothing}
use Rattle.tipc_two_nodes.specs.deeds.Arriving.{hears_more, opens_more, unwraps_more}
use Rattle.tipc_two_nodes.specs.deeds.PairDeeds.{IsOfPair, both_more, none_more}
use Rattle.tipc_two_nodes.specs.Carrying.{KeepsCarried}
use Rattle.tipc_two_nodes.specs.NoticeLaws.{NoticesArrive}
use Rattle.tipc_two_nodes.specs.Twins.{AreTwins}
use Rattle.tipc_two_nodes.proofs.calls.CallCourses.{are_up}
use Rattle.tipc_two_nodes.proofs.arrivals.Noticing.{notices_keep}
use Rattle.tipc_two_nodes.proofs.calls.QuietCourses.{carried_then, quiet_carried, released_carried}
use Rattle.tipc_two_nodes.proofs.arrivals.Resetting.{carried_as}

-- ---- the near link takes nothing

outcome_none : (e : LinkEnd) (o : Outcome) (p : Fields) (by : ℕ) → is_traffic p.header ≡ false → taken_in (link_outcome e o p by) ≡ []
outcome_none e o p by notice = ap (λ t. taken_in (if t then heard_outcome (after e o).session by (content_of p) else change_outcome o.change)) (unheard p o.change notice) ∙ change_none o.change

met_none : (es er : ℕ) (p : Fields) (by : ℕ) (shown : BroadcastState) (x : PairEnds) (end : Option LinkEnd) → is_traffic p.header ≡ false → taken_in (met_at es er p by shown x end).outcome ≡ []
met_none es er p by shown x None notice = refl
met_none es er p by shown x (Some e) notice = outcome_none e (outcome_of e.fsm p.header es er (is_up_at x.far)) p by notice

activate_none : (x : PairEnds) (number : ℕ) (meet : PairEnds → Heard) → ((z : PairEnds) → taken_in (meet z).outcome ≡ []) → taken_in (activate_shown number meet x).outcome ≡ []
activate_none x number meet none = number_none (λ (m : Heard). taken_in m.outcome ≡ []) x number (meet x) (activate_higher number meet x) refl (none x)
    (elim (in_contact x) as (λ t. taken_in (activates t (risen x number) (behind (risen x number) meet)).outcome ≡ []) [ true ↦ refl | false ↦ none (risen x number).pair ])

pub hears_none : (h : Header) (es er : ℕ) (p : Fields) (by : ℕ) (shown : BroadcastState) (x : PairEnds) → p.header ≡ h → is_traffic h ≡ false → taken_in (hears h es er p by shown x).outcome ≡ []
hears_none (header.Reset said) es er p by shown x is notice = (shown_none said.contact es shown x).none
hears_none (header.Activate said) es er p by shown x is notice = activate_none x said.contact (met_near es er p by shown) (λ z. met_none es er p by shown z z.near (ap is_traffic is))
hears_none (header.Discovery said) es er p by shown x is notice = met_none es er p by shown x x.near (ap is_traffic is)
hears_none (header.State said) es er p by shown x is notice = absurd (let wrong : ⊥ = cc in wrong)
hears_none (header.Payload said) es er p by shown x is notice = absurd (let wrong : ⊥ = cc in wrong)
hears_none (header.Bundler said) es er p by shown x is notice = absurd (let wrong : ⊥ = cc in wrong)
hears_none (header.Changeover said) es er p by shown x is notice = absurd (let wrong : ⊥ = cc in wrong)
hears_none (header.NameDistributor said) es er p by shown x is notice = absurd (let wrong : ⊥ = cc in wrong)
hears_none (header.Fragmenter said) es er p by shown x is notice = absurd (let wrong : ⊥ = cc in wrong)

-- ---- nothing is opened

-- what follows leaves the pair as it is, but for the message that is begun
record OpensNone (z : PairEnds) (c : Course) (n : ℕ → ℕ → List (List ℕ)) (given : PairOutcome) : Type 0 where
  last : Joining
  course : c ≡ with_begun (rests z) last
  none : n ≡ none_more
  gives : Gives z.begun [] given last

unwraps_none : (z : PairEnds) (taken carried : List Taken) (c : Course) (given : List Opened) (last : Joining) → (u : Unwraps z taken c carried) → BringsAll c.pair.begun (with_bytes carried) given last → taken ≡ [] → OpensNone z (with_begun c last) (unwraps_more z taken c carried u) (PairOutcome.Took given)
unwraps_none z _ _ _ given last none_taken brought none = record { last = last; course = refl; none = refl; gives = brings brought }
unwraps_none z _ _ _ given last (as_it_is first others plain) brought none = absurd (let wrong : ⊥ = cc in wrong)
unwraps_none z _ _ _ given last (tunnel first others t speaks) brought none = absurd (let wrong : ⊥ = cc in wrong)

opens_none : (z : PairEnds) (o : LinkOutcome) (c : Course) (given : PairOutcome) (a : OpensInto z o c given) → taken_in o ≡ [] → OpensNone z c (opens_more z o c given a) given
opens_none z _ _ _ (opens {taken} {carried} {c} {given} {last} unwraps brought) none = unwraps_none z taken carried c given last unwraps brought none
opens_none z _ _ _ deferred none = record { last = z.begun; course = refl; none = refl; gives = waits }
opens_none z _ _ _ ignored none = record { last = z.begun; course = refl; none = refl; gives = ignores }

begun_carried : (v y : View) (z : PairEnds) (last : Joining) (h : AreTwins v y) → IsOfPair v z → KeepsCarried v y h (with_begun (rests z) last) none_more
begun_carried v y z last h pair =
    let same : IsOfPair v (record z { begun = last }) = record { own = pair.own; peer = pair.peer; contact = pair.contact; seen = pair.seen; two_bearers = pair.two_bearers; near = pair.near; far = pair.far; alone = pair.alone } in
    quiet_carried v y z (with_begun (rests z) last) h pair (v, record { did = did_nothing v y; pair = same }) (record { own = refl; peer = refl; contact = refl; seen = refl; bearer = refl }) refl refl

-- ---- the whole arrival

pub notices_arrive : NoticesArrive
unfolding going_on
notices_arrive v y x es er p by shown c given h pair ends held showable r notice a =
    let heard = hears p.header es er p by shown x in
    let z = heard.course.pair in
    let n = hears_more p.header es er p by x in
    let O = opens_none z heard.outcome a.opened given a.opens (hears_none p.header es er p by shown x refl notice) in
    let m = opens_more z heard.outcome a.opened given a.opens in
    let opened : (mid : View) (k : AreTwins mid y) → IsOfPair mid z → KeepsCarried mid y k a.opened m = λ mid k of_mid.
    subst (λ d. KeepsCarried mid y k d m) (sym O.course) (subst (λ q. KeepsCarried mid y k (with_begun (rests z) O.last) q) (sym O.none) (begun_carried mid y z O.last k of_mid)) in
    let both = carried_then v y h heard.course (λ w. a.opened) n m (notices_keep v y x es er p by shown h pair ends showable r notice) opened in
    let up = (opened_far x es er p by shown c given a).held (held_up x held) in
    let first = going_on heard.course (λ w. a.opened) in
    let all = carried_then v y h first released (both_more n m) none_more both (λ mid k of_mid. released_carried mid y first.pair k of_mid (are_up mid y first.pair k.paired of_mid) up) in
    (subst (λ d. KeepsCarried v y h d (both_more n m)) (sym a.course) (carried_as v y h (going_on first released) (both_more (both_more n m) none_more) (both_more n m) all (λ b k. append-nil (both_more n m b k))), subst (Gives z.begun [] given) (sym (ap (λ (d : Course). d.pair.begun) a.course ∙ ((released_same a.opened.pair).0 ∙ ap (λ (d : Course). d.pair.begun) O.course))) O.gives)
