-- A pair of link ends stays one through a whole arrival.
use Rattle.std.proofs.Common.{◌≡◌, ◌<◌, ◌+◌, ◌^◌, ◌&&◌, ◌==◌, ℕ, Bool, true, false, if◌then◌else◌, List, Option, Some, None, Ok, refl, sym, ap, ◌∙◌, subst, eqb-true, arith}
use Rattle.std.specs.Prelude.{nat_lt, not}
use Rattle.std.proofs.lemmas.Bool.{and_parts, eqb-false, ltb-false, true≢false}
use Rattle.tipc_types.specs.declared.link_words.BroadcastState.{BroadcastState}
use Rattle.tipc_types.specs.declared.link_words.Why.TheVariants as why
use Rattle.tipc_types.specs.declared.packet_lists.Taken.{Taken}
use Rattle.tipc_header.specs.declared.packet.ChangeoverType.{ChangeoverType}
use Rattle.tipc_header.specs.declared.packet.ChangeoverType.TheVariants as kind
use Rattle.tipc_header.specs.declared.packet.Header.{Header}
use Rattle.tipc_header.specs.declared.packet.Header.TheVariants as header
use Rattle.tipc_header.specs.Grammar.{HeaderFits}
use Rattle.tipc_header.specs.Spelling.{Fields}
use Rattle.tipc_recv_window.specs.declared.outcomes.LinkOutcome.{LinkOutcome}
use Rattle.tipc_tunnel.specs.Tunnels.{Tunnelled}
use Rattle.tipc_contact.specs.Sides.{IsNoticed}
use Rattle.tipc_link.specs.Links.{LinkEnd, after, heard_end, is_down, is_heard, is_traffic, outcome_of}
use Rattle.tipc_link.specs.Parts.{IsShowable}
use Rattle.tipc_link.specs.Sessions.{content_of}
use Rattle.tipc_link_fsm.specs.declared.changes.Change.TheVariants.{Ignore}
use Rattle.tipc_link_fsm.specs.Runs.{ActivateArrives, Call, ResetArrives, TrafficArrives, TunnelNames, outcome}
use Rattle.tipc_link_fsm.specs.Table.{Outcome, gives, on_activate, on_peer_tunnel, on_traffic}
use Rattle.tipc_pair.specs.declared.changes.PairOutcome.{PairOutcome}
use Rattle.tipc_pair.specs.Changeovers.{contact_ends, following, forgotten, risen}
use Rattle.tipc_pair.specs.Courses.{Course, going_on, rests}
use Rattle.tipc_pair.specs.Facing.{PairEnds, in_contact, is_up_at, turned, with_near}
use Rattle.tipc_pair.specs.PairArrivals.{Heard, OpensInto, Unwraps, activate_higher, activate_shown, activates, as_it_is, behind, by_number, deferred, hears, ignored, inner_at, inner_taken, met, met_at, met_near, none_taken, opens, passing, reset_change, reset_given, reset_near, reset_shown, taken_down, tunnel, tunnelled_at, tunnelled_through}
use Rattle.tipc_pair.specs.PairFacts.{IsPairOfEnds}
use Rattle.tipc_pair.proofs.Followings.{contact_going, forgotten_kept, parted_kept}
use Rattle.tipc_pair.proofs.Openings.{far_taken}
use Rattle.tipc_paired.proofs.PairedLaw.{all_paired}
use Rattle.tipc_paired.specs.Deeds.{MayCall}
use Rattle.tipc_paired.specs.Paired.{ArePaired, IsShown}
use Rattle.tipc_paired.specs.Views.{View, said_by}
use Rattle.tipc_paired.proofs.wires.Sides.{shown_told}
use Rattle.tipc_two_nodes.proofs.deeds.Arriving.{hears_takes, notice_shown, reached_begun, unheard}
use Rattle.tipc_two_nodes.proofs.deeds.Calls.{can_hand, nothing_shown}
use Rattle.tipc_two_nodes.proofs.deeds.EndsKept.{ends_turned, heard_kept, released_ends, stepped_kept}
use Rattle.tipc_two_nodes.proofs.deeds.Noticing.{contact_shown, hand_none, not_up, reset_alone, reset_given_takes, risen_alone, risen_takes}
use Rattle.tipc_two_nodes.proofs.deeds.Opening.{is_named}
use Rattle.tipc_two_nodes.proofs.deeds.Pairs.{of_turned}
use Rattle.tipc_two_nodes.proofs.deeds.Stepping.{CanHand}
use Rattle.tipc_two_nodes.specs.deeds.Arriving.{Reaches}
use Rattle.tipc_two_nodes.specs.deeds.Laws.{ArrivalsKeepEnds}
use Rattle.tipc_two_nodes.specs.deeds.PairDeeds.{IsOfPair}

-- ---- RESET, and a higher contact number

pub risen_kept : (x : PairEnds) (number : ℕ) → IsPairOfEnds x → IsPairOfEnds (risen x number).pair
risen_kept x number ends = elim (in_contact x) as (λ t. in_contact x ≡ t → IsPairOfEnds (if t then contact_ends (record x { seen = number }) (x.contact, x.seen) number else rests (forgotten x number)).pair) [
  | true ↦ λ contact. parted_kept x (x.contact + 1) number _ _ _ ends (contact_going x ends contact) refl refl refl
  | false ↦ λ none. forgotten_kept x number _ _ ends none refl refl
] refl

reset_given_kept : (v y : View) (x : PairEnds) (o : Option LinkEnd) (es : ℕ) (held : Bool) (shown : BroadcastState) → ArePaired v y → IsOfPair v x → IsPairOfEnds x → x.near ≡ o → IsNoticed (said_by y) x.bearer es v.node.seen → IsPairOfEnds (reset_given es held shown x o).course.pair
reset_given_kept v y x None es held shown h pair ends is told = ends
reset_given_kept v y x (Some e) es held shown h pair ends is told = stepped_kept v y x e (ResetArrives es held) es shown h pair ends is told

pub reset_near_kept : (v y : View) (x : PairEnds) (es : ℕ) (shown : BroadcastState) → ArePaired v y → IsOfPair v x → IsPairOfEnds x → IsNoticed (said_by y) x.bearer es x.seen → CanHand v x → IsShowable shown → IsPairOfEnds (reset_near es shown x).course.pair
unfolding going_on
reset_near_kept v y x es shown h pair ends told can showable =
    let held = is_up_at x.far in
    let first = reset_given es held shown x x.near in
    let q = first.course.pair in
    let again : PairEnds → Heard = λ z. reset_given es false shown z z.near in
    let told_now = subst (IsNoticed (said_by y) x.bearer es) (sym pair.seen) told in
    let once = reset_given_kept v y x x.near es held shown h pair ends refl told_now in
    let m = reset_given_takes v y x x.near es held shown h pair refl told_now can showable in
    elim (is_down (reset_change es held x.near) && not held) as (λ t. (is_down (reset_change es held x.near) && not held) ≡ t → IsPairOfEnds (if t then behind first.course again else first).course.pair) [
      | true ↦ λ ended.
          let both = and_parts (is_down (reset_change es held x.near)) (not held) ended in
          let alone = reset_alone x x.near es held shown both.0 (not_up held both.1) in
          let told_then = subst (λ b. IsNoticed (said_by y) b es m.0.node.seen) (sym alone.bearer_is) (subst (IsNoticed (said_by y) x.bearer es) (sym (m.1.pair.seen ∙ alone.seen_is)) told) in
          reset_given_kept m.0 y q q.near es false shown (all_paired v y m.0 h m.1.did.does) m.1.pair once refl told_then
      | false ↦ λ _. once
    ] refl

-- ---- a tunnel packet

tunnelled_kept : (v y : View) (x : PairEnds) (o : Option LinkEnd) (epoch : ℕ) → ArePaired v y → IsOfPair v x → IsPairOfEnds x → x.near ≡ o → IsPairOfEnds (tunnelled_at epoch x o).pair
unfolding going_on
tunnelled_kept v y x None epoch h pair ends is = ends
tunnelled_kept v y x (Some e) epoch h pair ends is =
    subst (λ d. IsPairOfEnds (following (with_near x d) (on_peer_tunnel e.fsm epoch).change epoch).pair) (is_named e epoch nothing_shown).end (stepped_kept v y x e (TunnelNames epoch) epoch nothing_shown h pair ends is tt)

pub taken_down_kept : (v y : View) (x : PairEnds) (kind_is : ChangeoverType) (epoch : ℕ) → ArePaired v y → IsOfPair v x → IsPairOfEnds x → IsPairOfEnds (taken_down kind_is epoch x).pair
taken_down_kept v y x kind.Duplicate epoch h pair ends = ends
taken_down_kept v y x kind.Original epoch h pair ends = ends_turned _ (tunnelled_kept v y (turned x) x.far epoch h (of_turned v x pair) (ends_turned x ends) refl)

pub inner_kept : (x : PairEnds) (o : Option LinkEnd) (t : Tunnelled) (by : ℕ) → IsPairOfEnds x → x.far ≡ o → IsPairOfEnds (inner_at t by x o).pair
inner_kept x None t by ends is = ends
inner_kept x (Some e) t by ends is = far_taken {T = Unit {0}} {F = Unit {0}} (Ok tt) x e (inner_taken t by e) t by ends is refl tt

pub through_kept : (v y : View) (x : PairEnds) (t : Tunnelled) (by : ℕ) → ArePaired v y → IsOfPair v x → IsPairOfEnds x → IsPairOfEnds (tunnelled_through x t by).pair
unfolding going_on
through_kept v y x t by h pair ends = (let z = (taken_down t.kind t.old.epoch x).pair in inner_kept z z.far t by (taken_down_kept v y x t.kind t.old.epoch h pair ends) refl)

-- ---- a packet of any kind

met_kept : (v y : View) (x : PairEnds) (e : LinkEnd) (call : Call) (es er : ℕ) (p : Fields) (by : ℕ) (shown : BroadcastState) → ArePaired v y → IsOfPair v x → IsPairOfEnds x → x.near ≡ Some e → MayCall v y x.bearer call
    → (is_heard p.header (outcome e.fsm call).change ≡ true → call ≡ TrafficArrives es er) → IsPairOfEnds (met x e (outcome e.fsm call) p es by shown).course.pair
unfolding going_on
met_kept v y x e call es er p by shown h pair ends near may hear =
    let o = outcome e.fsm call in
    let d = heard_end (after e o) by p.acknowledgement (content_of p) in
    elim (is_heard p.header o.change) as (λ t. is_heard p.header o.change ≡ t → IsPairOfEnds (following (with_near x (if t then d else after e o)) o.change es).pair) [
      | true ↦ λ is.
          let traffic = hear is in
          let heard_is : is_heard p.header (on_traffic e.fsm es er).change ≡ true = ap (λ c. is_heard p.header (outcome e.fsm c).change) (sym traffic) ∙ is in
          let kept : IsPairOfEnds (following (with_near x (if is_heard p.header o.change then d else after e o)) o.change es).pair =
          subst (λ c. IsPairOfEnds (met x e (outcome e.fsm c) p es by shown).course.pair) (sym traffic) (heard_kept v y x e es er p by shown h pair ends near heard_is) in
          subst (λ t. IsPairOfEnds (following (with_near x (if t then d else after e o)) o.change es).pair) is kept
      | false ↦ λ _. stepped_kept v y x e call es shown h pair ends near may
    ] refl

met_at_kept : (v y : View) (x : PairEnds) (o : Option LinkEnd) (call : Call) (es er : ℕ) (p : Fields) (by : ℕ) (shown : BroadcastState) → ArePaired v y → IsOfPair v x → IsPairOfEnds x → x.near ≡ o → MayCall v y x.bearer call
    → ((e : LinkEnd) → outcome_of e.fsm p.header es er (is_up_at x.far) ≡ outcome e.fsm call) → ((e : LinkEnd) → is_heard p.header (outcome e.fsm call).change ≡ true → call ≡ TrafficArrives es er)
    → IsPairOfEnds (met_at es er p by shown x o).course.pair
met_at_kept v y x None call es er p by shown h pair ends near may same hear = ends
met_at_kept v y x (Some e) call es er p by shown h pair ends near may same hear =
    subst (λ (k : Outcome). IsPairOfEnds (met x e k p es by shown).course.pair) (sym (same e)) (met_kept v y x e call es er p by shown h pair ends near may (hear e))

ignored_kept : (x : PairEnds) (o : Option LinkEnd) (es er : ℕ) (p : Fields) (by : ℕ) (shown : BroadcastState) → IsPairOfEnds x → x.near ≡ o → ((e : LinkEnd) → outcome_of e.fsm p.header es er (is_up_at x.far) ≡ gives e.fsm (Ignore why.Epoch))
    → IsPairOfEnds (met_at es er p by shown x o).course.pair
unfolding going_on
ignored_kept x None es er p by shown ends near same = ends
ignored_kept x (Some e) es er p by shown ends near same =
    let unheard : is_heard p.header (Ignore why.Epoch) ≡ false = elim (is_traffic p.header) as (λ t. (t && false) ≡ false) [ true ↦ refl | false ↦ refl ] in
    let is : with_near x e ≡ x = ap (λ o. record x { near = o }) (sym near) in
    subst (λ (o : Outcome). IsPairOfEnds (met x e o p es by shown).course.pair) (sym (same e)) (rw unheard (subst IsPairOfEnds (sym is) ends))

by_number_kept : (x : PairEnds) (number : ℕ) (same higher : Heard) → IsPairOfEnds x → (number ≡ x.seen → IsPairOfEnds same.course.pair) → (x.seen < number → IsPairOfEnds higher.course.pair) → IsPairOfEnds (by_number x number same higher).course.pair
by_number_kept x number same higher ends at above = elim (nat_lt number x.seen) as (λ t. nat_lt number x.seen ≡ t → IsPairOfEnds (if t then passing x why.Contact else (if number == x.seen then same else higher)).course.pair) [
  | true ↦ λ _. ends
  | false ↦ λ not_low. (elim (number == x.seen) as (λ t. (number == x.seen) ≡ t → IsPairOfEnds (if t then same else higher).course.pair) [
    | true ↦ λ is. at (eqb-true number x.seen is)
    | false ↦ λ differs. above (let no_lower = ltb-false number x.seen not_low in let other = eqb-false number x.seen differs in omega (arith, other))
  ] refl)
] refl

reset_kept : (v y : View) (x : PairEnds) (number es : ℕ) (shown : BroadcastState) → ArePaired v y → IsOfPair v x → IsPairOfEnds x → number < 2 ^ 64 → IsNoticed (said_by y) x.bearer es number → CanHand v x → IsShowable shown → IsPairOfEnds (reset_shown number es shown x).course.pair
unfolding going_on
reset_kept v y x number es shown h pair ends fits told can showable =
    by_number_kept x number (reset_near es shown x) (behind (risen x number) (reset_near es shown)) ends (λ same. reset_near_kept v y x es shown h pair ends (subst (IsNoticed (said_by y) x.bearer es) same told) can showable)
    (λ higher. (
    let q = (risen x number).pair in
    let alone = risen_alone x number in
    let m = risen_takes v y x number h pair higher fits (contact_shown (said_by y) x.bearer es number told) in
    reset_near_kept m.0 y q es shown (all_paired v y m.0 h m.1.did.does) m.1.pair (risen_kept x number ends) (subst (λ b. IsNoticed (said_by y) b es q.seen) (sym alone.bearer_is) (subst (IsNoticed (said_by y) x.bearer es) (sym alone.seen_is) told))
    (hand_none m.0 q m.1.pair alone.near alone.far) showable))

activate_kept : (v y : View) (x : PairEnds) (number es er : ℕ) (p : Fields) (by : ℕ) (shown : BroadcastState) → ArePaired v y → IsOfPair v x → IsPairOfEnds x → number < 2 ^ 64 → IsShown y.told x.bearer es er number
    → is_traffic p.header ≡ false → ((e : LinkEnd) (held : Bool) → outcome_of e.fsm p.header es er held ≡ on_activate e.fsm es er) → IsPairOfEnds (activate_shown number (met_near es er p by shown) x).course.pair
unfolding going_on
activate_kept v y x number es er p by shown h pair ends fits told notice row =
    let meet = met_near es er p by shown in
    let q = (risen x number).pair in
    let silent : (e : LinkEnd) → is_heard p.header (on_activate e.fsm es er).change ≡ true → ActivateArrives es er ≡ TrafficArrives es er = λ e is. absurd (true≢false (sym is ∙ unheard p (on_activate e.fsm es er).change notice)) in
    by_number_kept x number (meet x) (activate_higher number meet x) ends
    (λ same. met_at_kept v y x x.near (ActivateArrives es er) es er p by shown h pair ends refl (subst (IsShown y.told x.bearer es er) (same ∙ sym pair.seen) told) (λ e. row e (is_up_at x.far)) silent)
    (λ higher. (
    let alone = risen_alone x number in
    let m = risen_takes v y x number h pair higher fits (contact_shown (said_by y) x.bearer es number (shown_told y x.bearer es er number told)) in
    let kept = risen_kept x number ends in
    elim (in_contact x) as (λ t. IsPairOfEnds (activates t (risen x number) (behind (risen x number) meet)).course.pair) [
      | true ↦ kept
      | false ↦ met_at_kept m.0 y q q.near (ActivateArrives es er) es er p by shown (all_paired v y m.0 h m.1.did.does) m.1.pair kept refl
          (subst (λ b. IsShown y.told b es er m.0.node.seen) (sym alone.bearer_is) (subst (IsShown y.told x.bearer es er) (sym (m.1.pair.seen ∙ alone.seen_is)) told))
          (λ e. row e (is_up_at q.far)) silent
    ]))

pub hears_kept : (header_is : Header) (v y : View) (x : PairEnds) (es er : ℕ) (p : Fields) (by : ℕ) (shown : BroadcastState) → p.header ≡ header_is → ArePaired v y → IsOfPair v x → IsPairOfEnds x → IsShowable shown → Reaches v y x.bearer es er p
    → IsPairOfEnds (hears header_is es er p by shown x).course.pair
hears_kept (header.Reset said) v y x es er p by shown is h pair ends showable r =
    let fits : said.contact < 2 ^ 64 = (subst (λ k. HeaderFits k) is r.fits.header).contact in
    reset_kept v y x said.contact es shown h pair ends fits (shown_told y x.bearer es er said.contact (notice_shown (header.Reset said) v y x.bearer es er p said.contact h r is (λ shows. shows.0))) (can_hand v y x h pair ends) showable
hears_kept (header.Activate said) v y x es er p by shown is h pair ends showable r =
    let fits : said.contact < 2 ^ 64 = (subst (λ k. HeaderFits k) is r.fits.header).contact in
    activate_kept v y x said.contact es er p by shown h pair ends fits (notice_shown (header.Activate said) v y x.bearer es er p said.contact h r is (λ shows. shows.0)) (ap is_traffic is) (λ e held. ap (λ k. outcome_of e.fsm k es er held) is)
hears_kept (header.Discovery said) v y x es er p by shown is h pair ends showable r = ignored_kept x x.near es er p by shown ends refl (λ e. ap (λ k. outcome_of e.fsm k es er (is_up_at x.far)) is)
hears_kept other v y x es er p by shown is h pair ends showable r = met_at_kept v y x x.near (TrafficArrives es er) es er p by shown h pair ends refl (reached_begun v y x.bearer es er p h r (ap is_traffic is)) (λ e. ap (λ k. outcome_of e.fsm k es er (is_up_at x.far)) is) (λ e _. refl)

-- ---- what is opened

unwraps_kept : (v y : View) (x : PairEnds) (taken : List Taken) (c : Course) (carried : List Taken) → ArePaired v y → IsOfPair v x → IsPairOfEnds x → Unwraps x taken c carried → IsPairOfEnds c.pair
unwraps_kept v y x _ _ _ h pair ends none_taken = ends
unwraps_kept v y x _ _ _ h pair ends (as_it_is first others plain) = ends
unwraps_kept v y x _ _ _ h pair ends (tunnel first others t speaks) = through_kept v y x t first.by h pair ends

pub opens_kept : (v y : View) (x : PairEnds) (o : LinkOutcome) (c : Course) (given : PairOutcome) → ArePaired v y → IsOfPair v x → IsPairOfEnds x → OpensInto x o c given → IsPairOfEnds c.pair
opens_kept v y x _ _ _ h pair ends (opens unwraps brings) = (let kept = unwraps_kept v y x _ _ _ h pair ends unwraps in record { two_bearers = kept.two_bearers; near = kept.near; far = kept.far })
opens_kept v y x _ _ _ h pair ends deferred = ends
opens_kept v y x _ _ _ h pair ends ignored = ends

pub arrival_kept : ArrivalsKeepEnds
unfolding going_on
arrival_kept v y x es er p by shown c given h pair ends showable r a =
    let z = (hears p.header es er p by shown x).course.pair in
    let m = hears_takes p.header v y x es er p by shown refl h pair (can_hand v y x h pair ends) showable r in
    let heard_it = hears_kept p.header v y x es er p by shown refl h pair ends showable r in
    subst (λ (k : Course). IsPairOfEnds k.pair) (sym a.course) (released_ends a.opened.pair (opens_kept m.0 y z (hears p.header es er p by shown x).outcome a.opened given (all_paired v y m.0 h m.1.did.does) m.1.pair heard_it a.opens))
