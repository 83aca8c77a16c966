-- A RESET or an ACTIVATE arrives at a pair, whatever contact number it shows, and keeps two nodes what they are.
use Rattle.std.proofs.Common.{◌≡◌, ◌<◌, ◌^◌, ◌&&◌, ◌==◌, ℕ, Bool, true, false, if◌then◌else◌, List, Option, Some, None, refl, sym, ap, subst, eqb-true, arith}
use Rattle.std.specs.Prelude.{nat_lt}
use Rattle.std.proofs.lemmas.Bool.{eqb-false, ltb-false}
use Rattle.std.proofs.lemmas.Bool.Decides.{nat_tests}
use Rattle.tipc_types.specs.declared.link_words.BroadcastState.{BroadcastState}
use Rattle.tipc_types.specs.declared.link_words.Why.TheVariants as why
use Rattle.tipc_header.specs.declared.packet.Header.{Header}
use Rattle.tipc_header.specs.declared.packet.Header.TheVariants as header
use Rattle.tipc_header.specs.Grammar.{HeaderFits}
use Rattle.tipc_header.specs.Spelling.{Fields}
use Rattle.tipc_contact.specs.Sides.{IsNoticed}
use Rattle.tipc_link.specs.Links.{LinkEnd, is_heard, is_traffic, outcome_of}
use Rattle.tipc_link.specs.Parts.{IsShowable}
use Rattle.tipc_link_fsm.specs.declared.changes.Change.TheVariants.{Ignore}
use Rattle.tipc_link_fsm.specs.Runs.{ActivateArrives, ResetArrives}
use Rattle.tipc_link_fsm.specs.Table.{Outcome, gives, on_activate}
use Rattle.tipc_pair.specs.Changeovers.{risen}
use Rattle.tipc_pair.specs.Courses.{going_on, rests}
use Rattle.tipc_pair.specs.Facing.{PairEnds, in_contact, is_up_at, with_near}
use Rattle.tipc_pair.specs.PairArrivals.{Heard, activate_higher, activates, behind, by_number, hears, met, met_at, met_near, passing, reset_near}
use Rattle.tipc_pair.proofs.HeldLaws.{Holds, outcome_holds}
use Rattle.tipc_two_nodes.specs.links.Turning.{AreEnds, TurnsEnd}
use Rattle.tipc_two_nodes.proofs.links.calls.Noticing.{outcome_turns}
use Rattle.tipc_paired.proofs.wires.Sides.{shown_told}
use Rattle.tipc_paired.specs.Paired.{IsShown}
use Rattle.tipc_pair.specs.PairFacts.{IsPairOfEnds}
use Rattle.tipc_paired.specs.Views.{View, said_by}
use Rattle.tipc_two_nodes.proofs.deeds.Arriving.{notice_shown, unheard, notice_more as none_met}
use Rattle.tipc_two_nodes.proofs.deeds.Calls.{can_hand}
use Rattle.tipc_two_nodes.proofs.deeds.Noticing.{contact_shown, hand_none, risen_alone}
use Rattle.tipc_two_nodes.proofs.deeds.Stepping.{CanHand}
use Rattle.tipc_two_nodes.specs.deeds.Arriving.{Reaches, hears_more, met_at_more, met_more}
use Rattle.tipc_two_nodes.specs.deeds.PairDeeds.{IsOfPair, called_more, none_more}
use Rattle.tipc_two_nodes.specs.NoticeLaws.{NoticesKeep}
use Rattle.tipc_two_nodes.specs.Carrying.{KeepsCarried}
use Rattle.tipc_two_nodes.specs.Twins.{AreTwins}
use Rattle.tipc_two_nodes.proofs.arrivals.Activating.{unheard_carried}
use Rattle.tipc_two_nodes.proofs.calls.CallCourses.{are_ends_of}
use Rattle.tipc_two_nodes.proofs.arrivals.Numbering.{number_carried}
use Rattle.tipc_two_nodes.proofs.calls.QuietCourses.{carried_then}
use Rattle.tipc_two_nodes.proofs.arrivals.Resetting.{alone_ends, alone_reset, carried_rest, reset_near_carried}
use Rattle.tipc_two_nodes.proofs.arrivals.StepKeeps.{step_carried}

-- ---- an ACTIVATE that shows the highest contact number seen

-- it is given to the near end
activate_given : (v y : View) (x : PairEnds) (e : LinkEnd) (o : Outcome) (es er : ℕ) (p : Fields) (by : ℕ) (shown : BroadcastState) (h : AreTwins v y) → IsOfPair v x → AreEnds x → CanHand v x → x.near ≡ Some e → IsShown y.told x.bearer es er v.node.seen → IsShowable shown
    → is_traffic p.header ≡ false → o ≡ on_activate e.fsm es er → Holds e.fsm o → TurnsEnd (is_up_at x.far) e.fsm o → KeepsCarried v y h (met x e o p es by shown).course (met_more x e o p by)
activate_given v y x e o es er p by shown h pair ends hand near told showable notice is holds turn =
    let k = on_activate e.fsm es er in
    let step = step_carried v y x e (ActivateArrives es er) (is_up_at x.far) es shown h pair (record {
      ends = ends;
      hand = hand;
      near = near;
      may = told;
      holds = subst (Holds e.fsm) is holds;
      turn = subst (TurnsEnd (is_up_at x.far) e.fsm) is turn;
      carried = λ up. up;
    }) showable in
    subst (λ (c : Outcome). KeepsCarried v y h (met x e c p es by shown).course (met_more x e c p by)) (sym is) (unheard_carried v y x e k es p by shown h (unheard p k.change notice) step)

activate_keeps : (v y : View) (x : PairEnds) (end : Option LinkEnd) (es er : ℕ) (p : Fields) (by : ℕ) (shown : BroadcastState) (h : AreTwins v y) → IsOfPair v x → AreEnds x → CanHand v x → x.near ≡ end → IsShown y.told x.bearer es er x.seen → IsShowable shown
    → is_traffic p.header ≡ false → ((e : LinkEnd) (held : Bool) → outcome_of e.fsm p.header es er held ≡ on_activate e.fsm es er) → KeepsCarried v y h (met_at es er p by shown x end).course (met_at_more es er p by x end)
activate_keeps v y x None es er p by shown h pair ends hand near told showable notice row = carried_rest v y x h pair
activate_keeps v y x (Some e) es er p by shown h pair ends hand near told showable notice row =
    let held = is_up_at x.far in
    activate_given v y x e (outcome_of e.fsm p.header es er held) es er p by shown h pair ends hand near (subst (IsShown y.told x.bearer es er) (sym pair.seen) told) showable notice (row e held) (outcome_holds e.fsm p.header es er held) (outcome_turns p.header e.fsm es er held)

-- ---- or a higher one

higher_keeps : (v y : View) (x : PairEnds) (number es er : ℕ) (p : Fields) (by : ℕ) (shown : BroadcastState) (h : AreTwins v y) → IsOfPair v x → x.seen < number → number < 2 ^ 64 → IsShown y.told x.bearer es er number → IsShowable shown
    → is_traffic p.header ≡ false → ((e : LinkEnd) (held : Bool) → outcome_of e.fsm p.header es er held ≡ on_activate e.fsm es er) → KeepsCarried v y h (activate_higher number (met_near es er p by shown) x).course none_more
higher_keeps v y x number es er p by shown h pair higher fits told showable notice row =
    let meet = met_near es er p by shown in
    let q = (risen x number).pair in
    let alone = risen_alone x number in
    let first = number_carried v y x number h pair higher fits (contact_shown (said_by y) x.bearer es number (shown_told y x.bearer es er number told)) in
    elim (in_contact x) as (λ t. KeepsCarried v y h (activates t (risen x number) (behind (risen x number) meet)).course none_more) [
      | true ↦ first
      | false ↦ carried_then v y h (risen x number) (λ z. (meet z).course) none_more none_more first
          (λ mid twins of_mid. subst (λ n. KeepsCarried mid y twins (meet q).course n) (none_met q q.near es er p by notice alone.far)
          (activate_keeps mid y q q.near es er p by shown twins of_mid (alone_ends q of_mid.two_bearers alone.near alone.far) (hand_none mid q of_mid alone.near alone.far) refl
          (subst (λ b. IsShown y.told b es er q.seen) (sym alone.bearer_is) (subst (IsShown y.told x.bearer es er) (sym alone.seen_is) told)) showable notice row))
    ]

reset_higher : (v y : View) (x : PairEnds) (number es : ℕ) (shown : BroadcastState) (h : AreTwins v y) → IsOfPair v x → x.seen < number → number < 2 ^ 64 → IsNoticed (said_by y) x.bearer es number → IsShowable shown → KeepsCarried v y h (behind (risen x number) (reset_near es shown)).course none_more
reset_higher v y x number es shown h pair higher fits told showable =
    carried_then v y h (risen x number) (λ z. (reset_near es shown z).course) none_more none_more (number_carried v y x number h pair higher fits (contact_shown (said_by y) x.bearer es number told))
    (λ mid twins of_mid. alone_reset mid y (risen x number).pair number x.bearer es shown twins of_mid (risen_alone x number) told showable)

-- ---- by the contact number that is shown

number_shown : (v y : View) (x : PairEnds) (number : ℕ) (same higher : Heard) (n : ℕ → ℕ → List (List ℕ)) (h : AreTwins v y) → IsOfPair v x → (number ≡ x.seen → KeepsCarried v y h same.course n) → (x.seen < number → KeepsCarried v y h higher.course none_more)
    → KeepsCarried v y h (by_number x number same higher).course (if number == x.seen then n else none_more)
number_shown v y x number same higher n h pair at above =
    elim (nat_lt number x.seen) as (λ t. nat_lt number x.seen ≡ t → KeepsCarried v y h (if t then passing x why.Contact else (if number == x.seen then same else higher)).course (if number == x.seen then n else none_more)) [
      | true ↦ λ low. (let other : (number == x.seen) ≡ false = grind (arith, nat_tests) in subst (λ t. KeepsCarried v y h (rests x) (if t then n else none_more)) (sym other) (carried_rest v y x h pair))
      | false ↦ λ not_low. (elim (number == x.seen) as (λ t. (number == x.seen) ≡ t → KeepsCarried v y h (if t then same else higher).course (if t then n else none_more)) [
        | true ↦ λ is. at (eqb-true number x.seen is)
        | false ↦ λ differs. above (let no_lower = ltb-false number x.seen not_low in let other = eqb-false number x.seen differs in omega (arith, other))
      ] refl)
    ] refl

-- ---- what is no RESET and no ACTIVATE

-- it is ignored
ignored_keeps : (v y : View) (x : PairEnds) (end : Option LinkEnd) (es er : ℕ) (p : Fields) (by : ℕ) (shown : BroadcastState) (h : AreTwins v y) → IsOfPair v x → x.near ≡ end → ((e : LinkEnd) → outcome_of e.fsm p.header es er (is_up_at x.far) ≡ gives e.fsm (Ignore why.Epoch))
    → KeepsCarried v y h (met_at es er p by shown x end).course (met_at_more es er p by x end)
unfolding going_on
ignored_keeps v y x None es er p by shown h pair near same = carried_rest v y x h pair
ignored_keeps v y x (Some e) es er p by shown h pair near same =
    let k : Outcome = gives e.fsm (Ignore why.Epoch) in
    let quiet : is_heard p.header (Ignore why.Epoch) ≡ false = elim (is_traffic p.header) as (λ t. (t && false) ≡ false) [ true ↦ refl | false ↦ refl ] in
    let is : with_near x e ≡ x = ap (λ o. record x { near = o }) (sym near) in
    let rest : KeepsCarried v y h (rests (with_near x e)) none_more = subst (λ q. KeepsCarried v y h (rests q) none_more) (sym is) (carried_rest v y x h pair) in
    subst (λ (o : Outcome). KeepsCarried v y h (met x e o p es by shown).course (met_more x e o p by)) (sym (same e)) (rw quiet rest)

-- ---- the law

hears_notice : (header_is : Header) (v y : View) (x : PairEnds) (es er : ℕ) (p : Fields) (by : ℕ) (shown : BroadcastState) (h : AreTwins v y) → p.header ≡ header_is → is_traffic header_is ≡ false → IsOfPair v x → IsPairOfEnds x → IsShowable shown → Reaches v y x.bearer es er p
    → KeepsCarried v y h (hears header_is es er p by shown x).course (hears_more header_is es er p by x)
hears_notice (header.Reset said) v y x es er p by shown h is notice pair ends showable r =
    let number = said.contact in
    let told = shown_told y x.bearer es er number (notice_shown (header.Reset said) v y x.bearer es er p number h.paired r is (λ shows. shows.0)) in
    let fits : number < 2 ^ 64 = (subst (λ k. HeaderFits k) is r.fits.header).contact in
    number_shown v y x number (reset_near es shown x) (behind (risen x number) (reset_near es shown)) (called_more x x.near (ResetArrives es (is_up_at x.far))) h pair
    (λ same. reset_near_carried v y x es shown h pair (subst (IsNoticed (said_by y) x.bearer es) same told) (are_ends_of v y x h pair ends) (can_hand v y x h.paired pair ends) showable) (λ higher. reset_higher v y x number es shown h pair higher fits told showable)
hears_notice (header.Activate said) v y x es er p by shown h is notice pair ends showable r =
    let number = said.contact in
    let told = notice_shown (header.Activate said) v y x.bearer es er p number h.paired r is (λ shows. shows.0) in
    let fits : number < 2 ^ 64 = (subst (λ k. HeaderFits k) is r.fits.header).contact in
    let none : is_traffic p.header ≡ false = ap is_traffic is in
    let row : (e : LinkEnd) (held : Bool) → outcome_of e.fsm p.header es er held ≡ on_activate e.fsm es er = λ e held. ap (λ k. outcome_of e.fsm k es er held) is in
    number_shown v y x number (met_near es er p by shown x) (activate_higher number (met_near es er p by shown) x) (met_at_more es er p by x x.near) h pair
    (λ same. activate_keeps v y x x.near es er p by shown h pair (are_ends_of v y x h pair ends) (can_hand v y x h.paired pair ends) refl (subst (IsShown y.told x.bearer es er) same told) showable none row)
    (λ higher. higher_keeps v y x number es er p by shown h pair higher fits told showable none row)
hears_notice (header.Discovery said) v y x es er p by shown h is notice pair ends showable r = ignored_keeps v y x x.near es er p by shown h pair refl (λ e. ap (λ k. outcome_of e.fsm k es er (is_up_at x.far)) is)
hears_notice (header.State said) v y x es er p by shown h is notice pair ends showable r = absurd (let wrong : ⊥ = cc in wrong)
hears_notice (header.Payload said) v y x es er p by shown h is notice pair ends showable r = absurd (let wrong : ⊥ = cc in wrong)
hears_notice (header.Bundler said) v y x es er p by shown h is notice pair ends showable r = absurd (let wrong : ⊥ = cc in wrong)
hears_notice (header.Changeover said) v y x es er p by shown h is notice pair ends showable r = absurd (let wrong : ⊥ = cc in wrong)
hears_notice (header.NameDistributor said) v y x es er p by shown h is notice pair ends showable r = absurd (let wrong : ⊥ = cc in wrong)
hears_notice (header.Fragmenter said) v y x es er p by shown h is notice pair ends showable r = absurd (let wrong : ⊥ = cc in wrong)

pub notices_keep : NoticesKeep
notices_keep v y x es er p by shown h pair ends showable r notice = hears_notice p.header v y x es er p by shown h refl notice pair ends showable r
