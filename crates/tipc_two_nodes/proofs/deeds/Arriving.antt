-- A whole arrival at a pair, as deeds.
use Rattle.std.proofs.Common.{◌≡◌, ◌<◌, ◌^◌, ◌&&◌, ◌==◌, ℕ, Bool, true, false, if◌then◌else◌, List, ◌∷◌, Option, Some, None, refl, sym, ap, ◌∙◌, subst, append-nil, eqb-true, arith}
use Rattle.std.specs.Prelude.{nat_lt}
use Rattle.std.proofs.lemmas.Bool.{eqb-false, ltb-false, true≢false}
use Rattle.std.proofs.lemmas.Bool.Decides.{nat_tests}
use Rattle.tipc_types.specs.declared.link_words.BroadcastState.{BroadcastState}
use Rattle.tipc_types.specs.declared.link_words.Why.TheVariants as why
use Rattle.tipc_types.specs.declared.packet_lists.Taken.{Taken}
use Rattle.tipc_header.specs.declared.packet.Header.{Header}
use Rattle.tipc_header.specs.declared.packet.Header.TheVariants as header
use Rattle.tipc_header.specs.Grammar.{HeaderFits}
use Rattle.tipc_header.specs.Spelling.{Fields, spelling}
use Rattle.tipc_contact.specs.Sides.{IsNoticed}
use Rattle.tipc_recv_window.specs.declared.outcomes.LinkOutcome.{LinkOutcome}
use Rattle.tipc_link.specs.Links.{LinkEnd, after, arrival_end, is_heard, is_taken, is_traffic, outcome_of}
use Rattle.tipc_link.specs.Parts.{IsShowable}
use Rattle.tipc_link_fsm.specs.declared.changes.Change.{Change}
use Rattle.tipc_link_fsm.specs.declared.changes.Change.TheVariants.{Ignore}
use Rattle.tipc_link_fsm.specs.Runs.{ActivateArrives, Call, ResetArrives, TrafficArrives, outcome}
use Rattle.tipc_link_fsm.specs.Table.{Outcome, gives, on_activate}
use Rattle.tipc_pair.specs.Changeovers.{released, risen}
use Rattle.tipc_pair.specs.Courses.{going_on, rests}
use Rattle.tipc_pair.specs.Facing.{PairEnds, in_contact, is_up_at, with_near}
use Rattle.tipc_pair.specs.PairArrivals.{Heard, activate_higher, activates, behind, by_number, hears, met, met_at, met_near, passing, reset_near}
use Rattle.tipc_paired.proofs.wires.Frames.{er_of-frame, es_of-frame, same_packet}
use Rattle.tipc_paired.proofs.sessions.SessionDeeds.{of_session}
use Rattle.tipc_paired.proofs.wires.Sides.{shown_told}
use Rattle.tipc_paired.specs.Deeds.{IsOfBegun, MayCall}
use Rattle.tipc_paired.specs.Paired.{ArePaired, IsFrame, IsShown, ShowsContact}
use Rattle.tipc_paired.specs.Views.{View, er_of, es_of, said_by}
use Rattle.tipc_two_nodes.proofs.deeds.Calling.{released_takes}
use Rattle.tipc_two_nodes.proofs.deeds.Calls.{can_hand}
use Rattle.tipc_two_nodes.proofs.deeds.Meeting.{MayHear, met_takes}
use Rattle.tipc_two_nodes.proofs.deeds.Noticing.{contact_shown, followed_alone, hand_none, reset_near_takes, risen_alone, risen_reset_takes, risen_takes}
use Rattle.tipc_two_nodes.proofs.deeds.Opening.{IsOpenable, opens_takes}
use Rattle.tipc_two_nodes.proofs.deeds.Pairs.{takes_as, takes_rest, takes_then}
use Rattle.tipc_two_nodes.proofs.deeds.Placing.{at_place_opened, hears_some}
use Rattle.tipc_two_nodes.proofs.deeds.Stepping.{CanHand}
use Rattle.tipc_two_nodes.specs.deeds.Arriving.{Reaches, heard_more, heard_taken, hears_more, hears_taken, linked_taken, met_at_more, met_at_taken, met_more, opens_more, opens_taken}
use Rattle.tipc_two_nodes.specs.deeds.Laws.{ArrivalsAreDeeds}
use Rattle.tipc_two_nodes.specs.deeds.PairDeeds.{IsOfPair, TakesCourse, both_more, called_more, followed_more, none_more}

-- ---- the frame

-- it shows its epochs, under the contact number that its node had
pub reached_shown : (v y : View) (b es er number : ℕ) (p : Fields) → (r : Reaches v y b es er p) → r.frame.contact ≡ number → IsShown y.told b es er number
reached_shown v y b es er number p r contact = record {
  place = r.place;
  frame = r.frame;
  there = r.there;
  bearer_is = r.bearer_is;
  es_is = ap (λ bs. es_of bs) r.bytes ∙ es_of-frame es er (spelling p) r.es_fits r.er_fits;
  er_is = ap (λ bs. er_of bs) r.bytes ∙ er_of-frame es er (spelling p) r.es_fits r.er_fits;
  contact_is = contact;
}

-- it shows the contact numbers that its node had
pub reached_contact : (v y : View) (b es er : ℕ) (p : Fields) → ArePaired v y → (r : Reaches v y b es er p) → ShowsContact p.header r.frame.contact r.frame.peer_contact
reached_contact v y b es er p h r =
    let is = h.there.frames r.place r.frame r.there in
    let same : is.packet ≡ p = same_packet is.es is.er es er is.packet p is.fits r.fits (sym is.bytes ∙ r.bytes) in
    subst (λ (q : Fields). ShowsContact q.header r.frame.contact r.frame.peer_contact) same is.notice

-- a STATE or a numbered packet was told in the session of its epoch
pub reached_begun : (v y : View) (b es er : ℕ) (p : Fields) → ArePaired v y → Reaches v y b es er p → is_traffic p.header ≡ true → IsOfBegun y b es er
reached_begun v y b es er p h r traffic =
    let frame = subst (λ c. IsFrame y.node.own (y.wires c) (v.wires c) r.frame) r.bearer_is (h.there.frames r.place r.frame r.there) in
    let s = of_session y.node.own (y.wires b) (v.wires b) r.frame es er p frame r.es_fits r.er_fits r.fits r.bytes traffic in
    record { begun = s.begun; begun_is = s.begun_is; shown = reached_shown v y b es er s.begun.contact p r s.contact_is }

-- ---- a packet that the near link hears

met_at_takes : (v y : View) (x : PairEnds) (o : Option LinkEnd) (call : Call) (es er : ℕ) (p : Fields) (by : ℕ) (shown : BroadcastState) → ArePaired v y → IsOfPair v x → x.near ≡ o → MayCall v y x.bearer call → CanHand v x → IsShowable shown
    → ((e : LinkEnd) → outcome_of e.fsm p.header es er (is_up_at x.far) ≡ outcome e.fsm call) → ((e : LinkEnd) → is_heard p.header (outcome e.fsm call).change ≡ true → MayHear v y x e call es er p)
    → TakesCourse v y (met_at es er p by shown x o).course (met_at_more es er p by x o) (met_at_taken es er p by x o)
met_at_takes v y x None call es er p by shown h pair near may can showable same hear = takes_rest v y x pair
met_at_takes v y x (Some e) call es er p by shown h pair near may can showable same hear =
    subst (λ (k : Outcome). TakesCourse v y (met x e k p es by shown).course (met_more x e k p by) (linked_taken x e k p by)) (sym (same e)) (met_takes v y x e call es er p by shown h pair near may can showable (hear e))

-- one that is ignored
ignored_at_takes : (v y : View) (x : PairEnds) (o : Option LinkEnd) (es er : ℕ) (p : Fields) (by : ℕ) (shown : BroadcastState) → IsOfPair v x → x.near ≡ o → ((e : LinkEnd) → outcome_of e.fsm p.header es er (is_up_at x.far) ≡ gives e.fsm (Ignore why.Epoch))
    → TakesCourse v y (met_at es er p by shown x o).course (met_at_more es er p by x o) (met_at_taken es er p by x o)
unfolding going_on
ignored_at_takes v y x None es er p by shown pair near same = takes_rest v y x pair
ignored_at_takes v y x (Some e) es er p by shown pair near same =
    let k : Outcome = gives e.fsm (Ignore why.Epoch) in
    let unheard : is_heard p.header (Ignore why.Epoch) ≡ false = elim (is_traffic p.header) as (λ t. (t && false) ≡ false) [ true ↦ refl | false ↦ refl ] in
    let is : with_near x e ≡ x = ap (λ o. record x { near = o }) (sym near) in
    let rest : TakesCourse v y (rests (with_near x e)) none_more none_more = subst (λ q. TakesCourse v y (rests q) none_more none_more) (sym is) (takes_rest v y x pair) in
    subst (λ (o : Outcome). TakesCourse v y (met x e o p es by shown).course (met_more x e o p by) (linked_taken x e o p by)) (sym (same e)) (rw unheard rest)

-- ---- by the contact number that is shown

-- below the highest it is passed over, and above it nothing is numbered
by_number_takes : (v y : View) (x : PairEnds) (number : ℕ) (same higher : Heard) (n : ℕ → ℕ → List (List ℕ)) → IsOfPair v x → (number ≡ x.seen → TakesCourse v y same.course n none_more) → (x.seen < number → TakesCourse v y higher.course none_more none_more)
    → TakesCourse v y (by_number x number same higher).course (if number == x.seen then n else none_more) none_more
by_number_takes v y x number same higher n pair at above =
    elim (nat_lt number x.seen) as (λ t. nat_lt number x.seen ≡ t → TakesCourse v y (if t then passing x why.Contact else (if number == x.seen then same else higher)).course (if number == x.seen then n else none_more) none_more) [
      | true ↦ λ low. (let other : (number == x.seen) ≡ false = grind (arith, nat_tests) in subst (λ t. TakesCourse v y (rests x) (if t then n else none_more) none_more) (sym other) (takes_rest v y x pair))
      | false ↦ λ not_low. (elim (number == x.seen) as (λ t. (number == x.seen) ≡ t → TakesCourse v y (if t then same else higher).course (if t then n else none_more) none_more) [
        | true ↦ λ is. at (eqb-true number x.seen is)
        | false ↦ λ differs. above (let no_lower = ltb-false number x.seen not_low in let other = eqb-false number x.seen differs in omega (arith, other))
      ] refl)
    ] refl

-- ---- a packet of any kind

-- what is no STATE and no numbered packet isn't heard by a session
pub unheard : (p : Fields) (c : Change) → is_traffic p.header ≡ false → is_heard p.header c ≡ false
unheard p c notice = ap (λ t. t && is_taken c) notice

notice_taken : (x : PairEnds) (o : Option LinkEnd) (es er : ℕ) (p : Fields) (by : ℕ) → is_traffic p.header ≡ false → met_at_taken es er p by x o ≡ none_more
notice_taken x None es er p by notice = refl
notice_taken x (Some e) es er p by notice =
    ap (λ t. if t then heard_taken x.bearer (after e (outcome_of e.fsm p.header es er (is_up_at x.far))).session p by else none_more) (unheard p (outcome_of e.fsm p.header es er (is_up_at x.far)).change notice)

pub notice_linked : (x : PairEnds) (e : LinkEnd) (o : Outcome) (p : Fields) (by : ℕ) → is_traffic p.header ≡ false → is_up_at x.far ≡ false → met_more x e o p by ≡ none_more
notice_linked x e o p by notice down =
    let z = arrival_end e o p by in
    ap (λ t. both_more (if t then heard_more x.bearer (after e o).session p by else none_more) (followed_more (with_near x z) o.change)) (unheard p o.change notice) ∙ followed_alone (with_near x z) o.change down

pub notice_more : (x : PairEnds) (o : Option LinkEnd) (es er : ℕ) (p : Fields) (by : ℕ) → is_traffic p.header ≡ false → is_up_at x.far ≡ false → met_at_more es er p by x o ≡ none_more
notice_more x None es er p by notice down = refl
notice_more x (Some e) es er p by notice down = notice_linked x e (outcome_of e.fsm p.header es er (is_up_at x.far)) p by notice down

-- an ACTIVATE, which shows the highest contact number
activate_takes : (v y : View) (x : PairEnds) (es er : ℕ) (p : Fields) (by : ℕ) (shown : BroadcastState) → ArePaired v y → IsOfPair v x → IsShown y.told x.bearer es er x.seen → CanHand v x → IsShowable shown
    → is_traffic p.header ≡ false → ((e : LinkEnd) → outcome_of e.fsm p.header es er (is_up_at x.far) ≡ on_activate e.fsm es er) → TakesCourse v y (met_near es er p by shown x).course (met_at_more es er p by x x.near) none_more
activate_takes v y x es er p by shown h pair told can showable notice same =
    subst (λ t. TakesCourse v y (met_near es er p by shown x).course (met_at_more es er p by x x.near) t) (notice_taken x x.near es er p by notice)
    (met_at_takes v y x x.near (ActivateArrives es er) es er p by shown h pair refl (subst (IsShown y.told x.bearer es er) (sym pair.seen) told) can showable same
    (λ e is. absurd (true≢false (sym is ∙ unheard p (on_activate e.fsm es er).change notice))))

-- or a higher one
activate_higher_takes : (v y : View) (x : PairEnds) (number es er : ℕ) (p : Fields) (by : ℕ) (shown : BroadcastState) → ArePaired v y → IsOfPair v x → x.seen < number → number < 2 ^ 64 → IsShown y.told x.bearer es er number → IsShowable shown
    → is_traffic p.header ≡ false → ((e : LinkEnd) (held : Bool) → outcome_of e.fsm p.header es er held ≡ on_activate e.fsm es er) → TakesCourse v y (activate_higher number (met_near es er p by shown) x).course none_more none_more
activate_higher_takes v y x number es er p by shown h pair higher fits told showable notice same =
    let meet = met_near es er p by shown in
    let q = (risen x number).pair in
    let alone = risen_alone x number in
    let first = risen_takes v y x number h pair higher fits (contact_shown (said_by y) x.bearer es number (shown_told y x.bearer es er number told)) in
    elim (in_contact x) as (λ t. TakesCourse v y (activates t (risen x number) (behind (risen x number) meet)).course none_more none_more) [
      | true ↦ first
      | false ↦ takes_then v y (risen x number) (λ z. (meet z).course) none_more none_more none_more none_more h first
          (λ mid paired took. subst (λ n. TakesCourse mid y (meet q).course n none_more) (notice_more q q.near es er p by notice alone.far)
          (activate_takes mid y q es er p by shown paired took.pair (subst (λ b. IsShown y.told b es er q.seen) (sym alone.bearer_is) (subst (IsShown y.told x.bearer es er) (sym alone.seen_is) told))
          (hand_none mid q took.pair alone.near alone.far) showable notice (λ e. same e (is_up_at q.far))))
    ]

-- its frame shows the number under which its epochs were told
pub notice_shown : (header_is : Header) (v y : View) (b es er : ℕ) (p : Fields) (number : ℕ) → ArePaired v y → (r : Reaches v y b es er p) → p.header ≡ header_is → (ShowsContact header_is r.frame.contact r.frame.peer_contact → number ≡ r.frame.contact) → IsShown y.told b es er number
notice_shown header_is v y b es er p number h r is shows = reached_shown v y b es er number p r (sym (shows (subst (λ k. ShowsContact k r.frame.contact r.frame.peer_contact) is (reached_contact v y b es er p h r))))

pub hears_takes : (header_is : Header) (v y : View) (x : PairEnds) (es er : ℕ) (p : Fields) (by : ℕ) (shown : BroadcastState) → p.header ≡ header_is → ArePaired v y → IsOfPair v x → CanHand v x → IsShowable shown → Reaches v y x.bearer es er p
    → TakesCourse v y (hears header_is es er p by shown x).course (hears_more header_is es er p by x) (hears_taken header_is es er p by x)
hears_takes (header.Reset said) v y x es er p by shown is h pair can showable r =
    let number = said.contact in
    let told = shown_told y x.bearer es er number (notice_shown (header.Reset said) v y x.bearer es er p number h r is (λ shows. shows.0)) in
    let fits : number < 2 ^ 64 = (subst (λ k. HeaderFits k) is r.fits.header).contact in
    by_number_takes v y x number (reset_near es shown x) (behind (risen x number) (reset_near es shown)) (called_more x x.near (ResetArrives es (is_up_at x.far))) pair
    (λ same. reset_near_takes v y x es shown h pair (subst (IsNoticed (said_by y) x.bearer es) same told) can showable) (λ higher. risen_reset_takes v y x number es shown h pair higher fits told showable)
hears_takes (header.Activate said) v y x es er p by shown is h pair can showable r =
    let number = said.contact in
    let told = notice_shown (header.Activate said) v y x.bearer es er p number h r is (λ shows. shows.0) in
    let fits : number < 2 ^ 64 = (subst (λ k. HeaderFits k) is r.fits.header).contact in
    let notice : is_traffic p.header ≡ false = ap is_traffic is in
    let row : (e : LinkEnd) (held : Bool) → outcome_of e.fsm p.header es er held ≡ on_activate e.fsm es er = λ e held. ap (λ k. outcome_of e.fsm k es er held) is in
    by_number_takes v y x number (met_near es er p by shown x) (activate_higher number (met_near es er p by shown) x) (met_at_more es er p by x x.near) pair
    (λ same. activate_takes v y x es er p by shown h pair (subst (IsShown y.told x.bearer es er) same told) can showable notice (λ e. row e (is_up_at x.far)))
    (λ higher. activate_higher_takes v y x number es er p by shown h pair higher fits told showable notice row)
hears_takes (header.Discovery said) v y x es er p by shown is h pair can showable r = ignored_at_takes v y x x.near es er p by shown pair refl (λ e. ap (λ k. outcome_of e.fsm k es er (is_up_at x.far)) is)
hears_takes other v y x es er p by shown is h pair can showable r = met_at_takes v y x x.near (TrafficArrives es er) es er p by shown h pair refl (reached_begun v y x.bearer es er p h r (ap is_traffic is)) can showable (λ e. ap (λ k. outcome_of e.fsm k es er (is_up_at x.far)) is)
    (λ e _. record { call_is = refl; reaches = r })

-- ---- a whole arrival

pub arrives : ArrivalsAreDeeds
arrives v y x es er p by shown c given h pair ends showable r a may =
    let heard = hears p.header es er p by shown x in
    let z = heard.course.pair in
    let n = hears_more p.header es er p by x in
    let t = hears_taken p.header es er p by x in
    let m = opens_more z heard.outcome a.opened given a.opens in
    let u = opens_taken y z heard.outcome a.opened given a.opens in
    let first = hears_takes p.header v y x es er p by shown refl h pair (can_hand v y x h pair ends) showable r in
    let placed : (taken : List Taken) → heard.outcome ≡ LinkOutcome.Took taken → IsOpenable y z taken = λ taken is first others k same speaks. (
    let took_it : heard.outcome ≡ LinkOutcome.Took (first ∷ others) = is ∙ ap LinkOutcome.Took same in
    let some = hears_some p.header v y x es er p by shown first others refl h pair ends took_it in
    let there = at_place_opened y x z k first.by pair.two_bearers some.goes (may.tunnel first others k took_it speaks) in
    (some.ends, there.0, there.1)) in
    let both : TakesCourse v y (going_on heard.course (λ w. a.opened)) (both_more n m) (both_more t u) = takes_then v y heard.course (λ w. a.opened) n m t u h first
    (λ mid paired took. opens_takes mid y z heard.outcome a.opened given paired took.pair placed a.opens) in
    let all = going_on (going_on heard.course (λ w. a.opened)) released in
    subst (λ k. TakesCourse v y k (both_more n m) (both_more t u)) (sym a.course) (takes_as v y all (both_more (both_more n m) none_more) (both_more n m) (both_more (both_more t u) none_more) (both_more t u)
    (takes_then v y (going_on heard.course (λ w. a.opened)) released (both_more n m) none_more (both_more t u) none_more h both (λ mid paired took. released_takes mid y (going_on heard.course (λ w. a.opened)).pair paired took.pair))
    (λ b k. append-nil (both_more n m b k)) (λ b k. append-nil (both_more t u b k)))
