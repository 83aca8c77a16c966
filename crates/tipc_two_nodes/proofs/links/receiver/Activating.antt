-- An ACTIVATE arrives at a pair: it may take the near link up, whose record begins or is kept.
use Rattle.std.proofs.Common.{◌≡◌, ◌&&◌, ℕ, ◌<◌, ◌≤◌, true, false, if◌then◌else◌, List, [], Option, Some, None, option_map, refl, sym, ap, ◌∙◌, subst, inl, inr}
use Rattle.std.proofs.lemmas.Bool.{cases_Bool}
use Rattle.tipc_types.specs.LinkStates.{is_up}
use Rattle.tipc_types.specs.declared.link_words.BroadcastState.{BroadcastState}
use Rattle.tipc_types.specs.declared.link_words.Why.TheVariants as why
use Rattle.tipc_header.specs.declared.packet.Header.{Header}
use Rattle.tipc_header.specs.declared.packet.Header.TheVariants as header
use Rattle.tipc_header.specs.declared.packet.Reset.{Reset}
use Rattle.tipc_header.specs.Spelling.{Fields}
use Rattle.tipc_link_fsm.specs.declared.changes.Change.TheVariants.{Up}
use Rattle.tipc_link_fsm.specs.Table.{Outcome, forget_peer, is_last, on_activate}
use Rattle.tipc_link_fsm.proofs.Moves.{is_going_up}
use Rattle.tipc_link.specs.Links.{LinkEnd, after, arrival_end, change_outcome, heard_end, heard_outcome, is_heard, is_taken, is_traffic, outcome_of}
use Rattle.tipc_link.specs.Sessions.{content_of}
use Rattle.tipc_pair.specs.declared.changes.PairOutcome.{PairOutcome}
use Rattle.tipc_pair.specs.Changeovers.{contact_ends, following, forgetting, forgotten, risen}
use Rattle.tipc_pair.specs.Courses.{Course, going_on, rests}
use Rattle.tipc_pair.specs.Facing.{PairEnds, in_contact, is_up_at, with_near}
use Rattle.tipc_pair.specs.PairArrivals.{Arrives, Heard, activates, behind, by_number, hears, met, met_at, met_near, passing, taken_in}
use Rattle.tipc_changeover.specs.Links.{Bearer, State}
use Rattle.tipc_two_nodes.specs.links.Arriving.{HasTaken, MayBeginAt, Opens, ShowsLatest, Stands, heard_pair}
use Rattle.tipc_two_nodes.specs.links.Following.{ReceiverFollows, stays}
use Rattle.tipc_two_nodes.specs.links.Receiving.{AreLines, ReceiveFor, Records}
use Rattle.tipc_two_nodes.specs.links.Traffic.{Traffic}
use Rattle.tipc_two_nodes.proofs.links.receiver.Hearing.{arrives_from}
use Rattle.tipc_two_nodes.proofs.links.receiver.Quiet.{Remains, TakesNothing, change_none, following_remains, going_up, number_shown, passes, risen_remains, stands_none, tells_up, unheard_none}
use Rattle.tipc_two_nodes.proofs.links.receiver.Rising.{begins_record, opens_later, up_record}
-- ---- what an arrival leaves to be opened
use Rattle.tipc_pair.proofs.turns.Causes.{neither_first as or_first}

-- a record may have begun, and the near link took packets
record Ready (x : PairEnds) (m : Heard) (b : Bearer) (t : Traffic) (s : State) (before : List (List ℕ)) : Type 0 where
  state : State
  takes : ReceiverFollows b s state
  bearer : m.course.pair.bearer ≡ x.bearer
  taken : HasTaken m.course.pair b t state before (taken_in m.outcome)

ready_receives : (x : PairEnds) (es er : ℕ) (p : Fields) (by : ℕ) (shown : BroadcastState) (c : Course) (given : PairOutcome) (b : Bearer) (t : Traffic) (s : State) (before : List (List ℕ)) (m : Heard) → hears p.header es er p by shown x ≡ m → Ready x m b t s before
    → Arrives x es er p by shown c given → Opens b x.bearer t s before (heard_pair x es er p by shown) c.pair given
ready_receives x es er p by shown c given b t s before m is k arrives =
    opens_later b x.bearer t s k.state before _ c.pair given k.takes (arrives_from x es er p by shown c given b t k.state before m is k.bearer k.taken arrives)

ready_none : (x : PairEnds) (m : Heard) (b : Bearer) (t : Traffic) (s : State) (before : List (List ℕ)) → Stands x b t s before → TakesNothing x m → Ready x m b t s before
ready_none x m b t s before h k = record {
  state = s;
  takes = stays;
  bearer = k.remains.bearer;
  taken = subst (λ us. HasTaken m.course.pair b t s before us) (sym k.none) (stands_none x m.course.pair b t s before h k.remains);
}

ready_behind : (x : PairEnds) (c : Course) (hear : PairEnds → Heard) (b : Bearer) (t : Traffic) (s : State) (before : List (List ℕ)) → Remains x c.pair → Ready c.pair (hear c.pair) b t s before → Ready x (behind c hear) b t s before
unfolding going_on
ready_behind x c hear b t s before h k = record { state = k.state; takes = k.takes; bearer = k.bearer ∙ h.bearer; taken = k.taken }

stands_remain : (x y : PairEnds) (b : Bearer) (t : Traffic) (s : State) (before : List (List ℕ)) → Stands x b t s before → Remains x y → Stands y b t s before
stands_remain x y b t s before h k = record {
  two_bearers = subst (λ n. n ≤ 1) (sym k.bearer) h.two_bearers;
  made = λ n i u there so. k.made ∙ h.made n i u there so;
  lines = subst (λ n. AreLines n t s) (sym k.bearer) h.lines;
  reached = h.reached;
  receive = subst (λ (z : Records). ReceiveFor z t before s) (sym k.records) h.receive;
}

-- ---- the link goes up

-- an ACTIVATE that shows the near end's own epoch, which isn't the last one of its boot, and a recent one, shows the epoch of a session of which a record may begin
Answers : PairEnds → ℕ → ℕ → Traffic → State → Type 0
Answers y es er t s = (e : LinkEnd) → y.near ≡ Some e → er ≡ e.fsm.own → is_last e.fsm.own ≡ false → e.fsm.highest ≤ es → MayBeginAt t s es

ready_up : (y : PairEnds) (e : LinkEnd) (es er : ℕ) (p : Fields) (by : ℕ) (shown : BroadcastState) (b : Bearer) (t : Traffic) (s : State) (before : List (List ℕ)) → Stands y b t s before → y.near ≡ Some e → is_heard p.header (on_activate e.fsm es er).change ≡ false
    → Answers y es er t s → (on_activate e.fsm es er).change ≡ Up → Ready y (met y e (on_activate e.fsm es er) p es by shown) b t s before
unfolding going_on Answers
ready_up y e es er p by shown b t s before h is unheard answers up =
    let o = on_activate e.fsm es er in
    let tells = tells_up e.fsm es er up in
    let may = answers e is tells.own tells.goes_on tells.recent in
    let R = begins_record y e es b t s before may.session h is may.epoch_is may.may in
    let stands = R.stands (after e o) (up_record e o es up tells.peer) in
    let end : arrival_end e o p by ≡ after e o = ap (λ b. if b then heard_end (after e o) by p.acknowledgement (content_of p) else after e o) unheard in
    let remains = subst (λ q. Remains (with_near y (after e o)) (following (with_near y q) o.change es).pair) (sym end) (following_remains (with_near y (after e o)) o.change es) in
    let none : taken_in (met y e o p es by shown).outcome ≡ [] = ap (λ b. taken_in (if b then heard_outcome (after e o).session by (content_of p) else change_outcome o.change)) unheard ∙ change_none o.change in
    record {
      state = R.state;
      takes = R.takes;
      bearer = remains.bearer;
      taken = subst (λ us. HasTaken (met y e o p es by shown).course.pair b t R.state before us) (sym none) (stands_none (with_near y (after e o)) (met y e o p es by shown).course.pair b t R.state before stands remains);
    }

ready_met : (y : PairEnds) (e : LinkEnd) (es er : ℕ) (p : Fields) (by : ℕ) (shown : BroadcastState) (b : Bearer) (t : Traffic) (s : State) (before : List (List ℕ)) → Stands y b t s before → y.near ≡ Some e → is_heard p.header (on_activate e.fsm es er).change ≡ false
    → Answers y es er t s → Ready y (met y e (on_activate e.fsm es er) p es by shown) b t s before
ready_met y e es er p by shown b t s before h is unheard answers = elim (cases_Bool (is_going_up (on_activate e.fsm es er).change)) [
  | inl up ↦ ready_up y e es er p by shown b t s before h is unheard answers (going_up (on_activate e.fsm es er).change up)
  | inr other ↦ ready_none y (met y e (on_activate e.fsm es er) p es by shown) b t s before h (unheard_none y e (on_activate e.fsm es er) p es by shown is unheard other)
]

ready_at : (y : PairEnds) (o : Option LinkEnd) (said : Reset) (es er : ℕ) (p : Fields) (by : ℕ) (shown : BroadcastState) (b : Bearer) (t : Traffic) (s : State) (before : List (List ℕ)) → Stands y b t s before → y.near ≡ o → p.header ≡ header.Activate said
    → Answers y es er t s → Ready y (met_at es er p by shown y o) b t s before
ready_at y None said es er p by shown b t s before h is activate answers = ready_none y (passing y why.Unknown) b t s before h (passes y why.Unknown)
ready_at y (Some e) said es er p by shown b t s before h is activate answers =
    let outcome : on_activate e.fsm es er ≡ outcome_of e.fsm p.header es er (is_up_at y.far) = ap (λ (q : Header). outcome_of e.fsm q es er (is_up_at y.far)) (sym activate) in
    let unheard : is_heard p.header (on_activate e.fsm es er).change ≡ false = ap (λ (q : Header). is_traffic q && is_taken (on_activate e.fsm es er).change) activate in
    subst (λ (o : Outcome). Ready y (met y e o p es by shown) b t s before) outcome (ready_met y e es er p by shown b t s before h is unheard answers)

-- ---- a higher contact number

forgetting_tells : (number : ℕ) (e : LinkEnd) → is_up e.fsm.state ≡ false → ((forgetting number e).fsm.own ≡ e.fsm.own) × ((forgetting number e).fsm.highest ≡ e.fsm.highest)
unfolding forget_peer
forgetting_tells number e down = (rw down refl, rw down refl)

forgotten_answers : (x : PairEnds) (number : ℕ) (o : Option LinkEnd) (es er : ℕ) (t : Traffic) (s : State) → x.near ≡ o → is_up_at o ≡ false → Answers x es er t s → (e : LinkEnd) → option_map (forgetting number) o ≡ Some e → er ≡ e.fsm.own → is_last e.fsm.own ≡ false → e.fsm.highest ≤ es → MayBeginAt t s es
unfolding Answers
forgotten_answers x number None es er t s is down answers e made own last recent = absurd (let wrong : ⊥ = cc in wrong)
forgotten_answers x number (Some d) es er t s is down answers e made own last recent =
    let same : forgetting number d ≡ e = cc in
    let tells = forgetting_tells number d down in
    let still : e.fsm.own ≡ d.fsm.own = ap (λ (k : LinkEnd). k.fsm.own) (sym same) ∙ tells.0 in
    answers d is (own ∙ still) (ap is_last (sym still) ∙ last) (subst (λ n. n ≤ es) (ap (λ (k : LinkEnd). k.fsm.highest) (sym same) ∙ tells.1) recent)

risen_answers : (x : PairEnds) (number es er : ℕ) (t : Traffic) (s : State) → in_contact x ≡ false → Answers x es er t s → Answers (risen x number).pair es er t s
unfolding Answers
risen_answers x number es er t s out answers e near own last recent =
    let pair : (risen x number).pair ≡ forgotten x number = ap (λ b. (if b then contact_ends (record x { seen = number }) (x.contact, x.seen) number else rests (forgotten x number)).pair) out in
    forgotten_answers x number x.near es er t s refl (or_first (is_up_at x.near) (is_up_at x.far) out) answers e (ap (λ (y : PairEnds). y.near) (sym pair) ∙ near) own last recent

-- a contact that ended is all that it makes
ready_risen : (x : PairEnds) (number : ℕ) (others : Heard) (b : Bearer) (t : Traffic) (s : State) (before : List (List ℕ)) → Stands x b t s before → (in_contact x ≡ false → Ready x others b t s before) → Ready x (activates (in_contact x) (risen x number) others) b t s before
ready_risen x number others b t s before h other = elim (in_contact x) as (λ k. in_contact x ≡ k → Ready x (activates k (risen x number) others) b t s before) [
  | true ↦ λ _. ready_none x (activates true (risen x number) others) b t s before h (record { remains = risen_remains x number; none = refl })
  | false ↦ λ out. other out
] refl

pub activates_receive : (x : PairEnds) (said : Reset) (es er : ℕ) (p : Fields) (by : ℕ) (shown : BroadcastState) (c : Course) (given : PairOutcome) (b : Bearer) (t : Traffic) (s : State) (before : List (List ℕ)) → Stands x b t s before → p.header ≡ header.Activate said
    → ((e : LinkEnd) → x.near ≡ Some e → ShowsLatest x said.contact → er ≡ e.fsm.own → is_last e.fsm.own ≡ false → e.fsm.highest ≤ es → MayBeginAt t s es) → Arrives x es er p by shown c given → Opens b x.bearer t s before (heard_pair x es er p by shown) c.pair given
unfolding Answers
activates_receive x said es er p by shown c given b t s before h is answers arrives =
    let y = (risen x said.contact).pair in
    let hear : PairEnds → Heard = met_near es er p by shown in
    let higher = behind (risen x said.contact) hear in
    let remains = risen_remains x said.contact in
    let at_higher : x.seen < said.contact → in_contact x ≡ false → Ready x higher b t s before = (λ more out. ready_behind x (risen x said.contact) hear b t s before remains (ready_at y y.near said es er p by shown b t s before (stands_remain x y b t s before h remains) refl is (risen_answers x said.contact es er t s out (λ e near. answers e near (inr (more, out)))))) in
    ready_receives x es er p by shown c given b t s before (by_number x said.contact (met_near es er p by shown x) (activates (in_contact x) (risen x said.contact) higher)) (ap (λ (q : Header). hears q es er p by shown x) is)
    (number_shown (λ m. Ready x m b t s before) x said.contact (met_near es er p by shown x) (activates (in_contact x) (risen x said.contact) higher) (ready_none x (passing x why.Contact) b t s before h (passes x why.Contact))
    (λ equal. ready_at x x.near said es er p by shown b t s before h refl is (λ e near. answers e near (inl equal))) (λ more. ready_risen x said.contact higher b t s before h (at_higher more)))
    arrives
