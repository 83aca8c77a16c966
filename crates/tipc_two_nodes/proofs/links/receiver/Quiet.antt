-- A RESET or an ACTIVATE at a pair, and a packet that is ignored: nothing is taken, and the records stay, but for one that begins.
use Rattle.std.proofs.Common.{◌≡◌, ◌==◌, ◌&&◌, not, ℕ, ◌+◌, ◌<◌, ◌≤◌, Bool, true, false, nat_lt, if◌then◌else◌, List, [], Option, Some, None, is_some, option_map, refl, sym, ap, ◌∙◌, subst, arith}
use Rattle.std.proofs.lemmas.Bool.{and_parts, eqb-true}
use Rattle.std.proofs.lemmas.Bool.Decides.{nat_tests}
use Rattle.tipc_types.specs.LinkStates.{is_up}
use Rattle.tipc_types.specs.declared.link_words.BroadcastState.{BroadcastState}
use Rattle.tipc_types.specs.declared.link_words.Reply.TheVariants as reply
use Rattle.tipc_types.specs.declared.link_words.Why.{Why}
use Rattle.tipc_types.specs.declared.link_words.Why.TheVariants as why
use Rattle.tipc_header.specs.declared.packet.Header.{Header}
use Rattle.tipc_header.specs.declared.packet.Header.TheVariants as header
use Rattle.tipc_header.specs.declared.packet.Reset.{Reset}
use Rattle.tipc_header.specs.Spelling.{Fields}
use Rattle.tipc_link_fsm.specs.declared.changes.Change.{Change}
use Rattle.tipc_link_fsm.specs.declared.changes.Change.TheVariants.{Answer, Down, Ignore, Up}
use Rattle.tipc_link_fsm.specs.Table.{Fsm, Outcome, is_held, is_in_reset, is_last, is_session, on_activate, on_reset, on_traffic}
use Rattle.tipc_link_fsm.proofs.Moves.{cases_on, is_going_up, not_true}
use Rattle.tipc_link.specs.Links.{LinkEnd, after, arrival_end, change_outcome, followed, heard_end, heard_outcome, is_down, is_heard, is_taken, is_traffic, known, record_in, record_of, with_fsm}
use Rattle.tipc_link.specs.Records.{Early}
use Rattle.tipc_link.specs.Sessions.{SessionEnd, content_of, after_state}
use Rattle.tipc_pair.specs.declared.changes.PairOutcome.{PairOutcome}
use Rattle.tipc_pair.specs.Changeovers.{contact_ends, fail_over, fail_over_to, failing, following, forgetting, forgotten, gone_down, parted, parted_end, risen}
use Rattle.tipc_pair.specs.Courses.{Course, going_on, rests}
use Rattle.tipc_pair.specs.Facing.{PairEnds, in_contact, is_up_at, with_near}
use Rattle.tipc_pair.specs.PairArrivals.{Arrives, Heard, behind, by_number, hears, met, passing, reset_change, reset_given, reset_near, reset_shown, taken_in}
use Rattle.tipc_pair.specs.PairCalls.{stepped}
use Rattle.tipc_changeover.specs.Links.{Bearer, Receiver, State}
use Rattle.tipc_two_nodes.specs.links.Arriving.{HasTaken, Opens, Stands, heard_pair}
use Rattle.tipc_two_nodes.specs.links.Receiving.{AreLines, IsRecordFor, Records, record_at, records_of}
use Rattle.tipc_two_nodes.specs.links.Traffic.{Traffic}
use Rattle.tipc_two_nodes.proofs.links.sender.Happening.{reached_holds}
use Rattle.tipc_two_nodes.proofs.links.receiver.Hearing.{arrives_from, none_next, traffic_met}
use Rattle.tipc_two_nodes.proofs.links.receiver.Remaining.{both_are, following_records}
use Rattle.tipc_two_nodes.proofs.links.receiver.Rising.{StaysMade, up_made}
-- ---- pairs that keep their records
use Rattle.tipc_pair.proofs.HeldLaws.{reset_quiet as reset_not_up}

pub record Remains (x y : PairEnds) : Type 0 where
  pub bearer : y.bearer ≡ x.bearer
  pub made : is_some y.far ≡ is_some x.far
  pub records : records_of y ≡ records_of x

remains_same : (x : PairEnds) → Remains x x
remains_same x = record { bearer = refl; made = refl; records = refl }

remains_then : (x y z : PairEnds) → Remains x y → Remains y z → Remains x z
remains_then x y z h k = record { bearer = k.bearer ∙ h.bearer; made = k.made ∙ h.made; records = k.records ∙ h.records }

map_record : (f : LinkEnd → LinkEnd) (o : Option LinkEnd) → ((e : LinkEnd) → record_of (f e) ≡ record_of e) → record_at (option_map f o) ≡ record_at o
map_record f None same = refl
map_record f (Some e) same = same e

map_made : (f : LinkEnd → LinkEnd) (o : Option LinkEnd) → is_some (option_map f o) ≡ is_some o
map_made f None = refl
map_made f (Some e) = refl

parted_remains : (x : PairEnds) → Remains x (parted x)
parted_remains x = record {
  bearer = refl;
  made = map_made (parted_end (x.contact + 1) x.seen) x.far;
  records = both_are x (parted x) (map_record (parted_end (x.contact + 1) x.seen) x.near (λ e. refl)) (map_record (parted_end (x.contact + 1) x.seen) x.far (λ e. refl));
}

pub forgotten_remains : (x : PairEnds) (number : ℕ) → Remains x (forgotten x number)
forgotten_remains x number = record {
  bearer = refl;
  made = map_made (forgetting number) x.far;
  records = both_are x (forgotten x number) (map_record (forgetting number) x.near (λ e. refl)) (map_record (forgetting number) x.far (λ e. refl));
}

seen_remains : (x : PairEnds) (number : ℕ) → Remains x (parted (record x { seen = number }))
seen_remains x number = let h = parted_remains (record x { seen = number }) in record { bearer = h.bearer; made = h.made; records = h.records }

pub risen_remains : (x : PairEnds) (number : ℕ) → Remains x (risen x number).pair
risen_remains x number = elim (in_contact x) as (λ b. Remains x (if b then contact_ends (record x { seen = number }) (x.contact, x.seen) number else rests (forgotten x number)).pair) [
  | true ↦ seen_remains x number
  | false ↦ forgotten_remains x number
]

-- ---- what follows a change

failing_made : (x : PairEnds) (near far : LinkEnd) (lost o : Option SessionEnd) → x.far ≡ Some far → StaysMade x (failing x near far lost o).pair
failing_made x near far (Some lost) (Some s) is = record { bearer = refl; made = ap is_some (sym is) }
failing_made x near far (Some lost) None is = record { bearer = refl; made = refl }
failing_made x near far None o is = record { bearer = refl; made = refl }

fallen_made : (x : PairEnds) (near far : Option LinkEnd) → x.far ≡ far → StaysMade x (fail_over_to x near far).pair
fallen_made x (Some near) (Some far) is = failing_made x near far near.session far.session is
fallen_made x (Some near) None is = record { bearer = refl; made = refl }
fallen_made x None far is = record { bearer = refl; made = refl }

down_stays : (x : PairEnds) → StaysMade x (gone_down x).pair
down_stays x = elim (is_up_at x.far) as (λ b. StaysMade x (if b then fail_over x else contact_ends x (x.contact, x.seen) 0).pair) [
  | true ↦ fallen_made x x.near x.far refl
  | false ↦ record { bearer = refl; made = map_made (parted_end (x.contact + 1) x.seen) x.far }
]

following_made : (x : PairEnds) (k : Change) (epoch : ℕ) → StaysMade x (following x k epoch).pair
following_made x Up epoch = up_made x
following_made x (Down cause) epoch = down_stays x
following_made x other epoch = record { bearer = refl; made = refl }

pub following_remains : (x : PairEnds) (k : Change) (epoch : ℕ) → Remains x (following x k epoch).pair
following_remains x k epoch = let h = following_made x k epoch in record { bearer = h.bearer; made = h.made; records = following_records x k epoch }

-- ---- a step that doesn't take the link up

told_record : (o : Option SessionEnd) (early : Option Early) → record_in (option_map after_state o) early ≡ record_in o early
told_record None early = refl
told_record (Some s) early = refl

followed_record : (e : LinkEnd) (k : Change) → is_going_up k ≡ false → record_of (followed e k) ≡ record_of e
followed_record e Up other = absurd (let wrong : ⊥ = cc in wrong)
followed_record e (Answer (reply.State probe)) other = told_record e.session e.early
followed_record e k other = refl

near_remains : (x : PairEnds) (e e' : LinkEnd) → x.near ≡ Some e → record_of e' ≡ record_of e → Remains x (with_near x e')
near_remains x e e' is same = record { bearer = refl; made = refl; records = both_are x (with_near x e') (same ∙ ap record_at (sym is)) refl }

pub stepped_remains : (x : PairEnds) (e : LinkEnd) (o : Outcome) (es : ℕ) (shown : BroadcastState) → x.near ≡ Some e → is_going_up o.change ≡ false → Remains x (stepped x e o es shown).pair
unfolding going_on
stepped_remains x e o es shown is other =
    remains_then x (with_near x (after e o)) (following (with_near x (after e o)) o.change es).pair (near_remains x e (after e o) is (followed_record (with_fsm e o.after) o.change other)) (following_remains (with_near x (after e o)) o.change es)

-- ---- arrivals that take nothing

pub record TakesNothing (x : PairEnds) (m : Heard) : Type 0 where
  pub remains : Remains x m.course.pair
  pub none : taken_in m.outcome ≡ []

pub passes : (x : PairEnds) (reason : Why) → TakesNothing x (passing x reason)
passes x reason = record { remains = remains_same x; none = refl }

pub change_none : (k : Change) → taken_in (change_outcome k) ≡ []
change_none (Ignore reason) = refl
change_none k = refl

nothing_behind : (x : PairEnds) (c : Course) (hear : PairEnds → Heard) → Remains x c.pair → TakesNothing c.pair (hear c.pair) → TakesNothing x (behind c hear)
unfolding going_on
nothing_behind x c hear h k = record { remains = remains_then x c.pair (hear c.pair).course.pair h k.remains; none = k.none }

given_none : (es : ℕ) (held : Bool) (shown : BroadcastState) (x : PairEnds) (o : Option LinkEnd) → x.near ≡ o → TakesNothing x (reset_given es held shown x o)
given_none es held shown x None is = passes x why.Unknown
given_none es held shown x (Some e) is = record { remains = stepped_remains x e (on_reset e.fsm es held) es shown is (reset_not_up e.fsm es held); none = change_none (on_reset e.fsm es held).change }

reset_none : (es : ℕ) (shown : BroadcastState) (x : PairEnds) → TakesNothing x (reset_near es shown x)
reset_none es shown x =
    let held = is_up_at x.far in
    let first = reset_given es held shown x x.near in
    let h = given_none es held shown x x.near refl in
    let again : PairEnds → Heard = (λ y. reset_given es false shown y y.near) in
    elim (is_down (reset_change es held x.near) && not held) as (λ b. TakesNothing x (if b then behind first.course again else first)) [
      | true ↦ nothing_behind x first.course again h.remains (given_none es false shown first.course.pair first.course.pair.near refl)
      | false ↦ h
    ]

-- a contact number is lower than the highest that was seen, the same or higher
pub number_shown : (P : Heard → Type 0) (x : PairEnds) (number : ℕ) (same higher : Heard) → P (passing x why.Contact) → (number ≡ x.seen → P same) → (x.seen < number → P higher) → P (by_number x number same higher)
number_shown P x number same higher low equal high = elim (nat_lt number x.seen) as (λ b. nat_lt number x.seen ≡ b → P (if b then passing x why.Contact else (if number == x.seen then same else higher))) [
  | true ↦ λ _. low
  | false ↦ λ least. elim (number == x.seen) as (λ b. (number == x.seen) ≡ b → P (if b then same else higher)) [
    | true ↦ λ is. equal (eqb-true number x.seen is)
    | false ↦ λ differ. high (grind (arith, nat_tests))
  ] refl
] refl

pub number_none : (P : Heard → Type 0) (x : PairEnds) (number : ℕ) (same higher : Heard) → P (passing x why.Contact) → P same → P higher → P (by_number x number same higher)
number_none P x number same higher low equal high = number_shown P x number same higher low (λ _. equal) (λ _. high)

pub shown_none : (number es : ℕ) (shown : BroadcastState) (x : PairEnds) → TakesNothing x (reset_shown number es shown x)
shown_none number es shown x =
    number_none (TakesNothing x) x number (reset_near es shown x) (behind (risen x number) (reset_near es shown)) (passes x why.Contact) (reset_none es shown x)
    (nothing_behind x (risen x number) (reset_near es shown) (risen_remains x number) (reset_none es shown (risen x number).pair))

-- ---- the pair then

nothing_more : (r : Receiver) → r ≡ record { session = r.session; taken = r.taken + 0 }
nothing_more r = ap (λ n. record { session = r.session; taken = n }) (let same : r.taken ≡ r.taken + 0 = omega arith in same)

pub stands_none : (x y : PairEnds) (b : Bearer) (t : Traffic) (s : State) (before : List (List ℕ)) → Stands x b t s before → Remains x y → HasTaken y b t s before []
stands_none x y b t s before h k =
    let holds = reached_holds b s h.reached in
    record {
      two_bearers = subst (λ n. n ≤ 1) (sym k.bearer) h.two_bearers;
      made = λ n i u there so. k.made ∙ h.made n i u there so;
      lines = subst (λ n. AreLines n t s) (sym k.bearer) h.lines;
      sound = holds.0;
      bounded = holds.1;
      near = subst (λ r. IsRecordFor t.near (record_at y.near) r) (nothing_more s.near_record) (subst (λ (z : Records). IsRecordFor t.near z.near s.near_record) (sym k.records) h.receive.near);
      far = subst (λ (z : Records). IsRecordFor t.far z.far s.far_record) (sym k.records) h.receive.far;
      first_ones = h.receive.first_ones;
      next = none_next (t.near.line s.near_record.session) s.near_record.taken;
    }

pub nothing_received : (x : PairEnds) (es er : ℕ) (p : Fields) (by : ℕ) (shown : BroadcastState) (c : Course) (given : PairOutcome) (b : Bearer) (t : Traffic) (s : State) (before : List (List ℕ)) (m : Heard) → Stands x b t s before → hears p.header es er p by shown x ≡ m → TakesNothing x m
    → Arrives x es er p by shown c given → Opens b x.bearer t s before (heard_pair x es er p by shown) c.pair given
nothing_received x es er p by shown c given b t s before m h is k arrives =
    arrives_from x es er p by shown c given b t s before m is k.remains.bearer (subst (λ us. HasTaken m.course.pair b t s before us) (sym k.none) (stands_none x m.course.pair b t s before h k.remains)) arrives

pub resets_receive : (x : PairEnds) (said : Reset) (es er : ℕ) (p : Fields) (by : ℕ) (shown : BroadcastState) (c : Course) (given : PairOutcome) (b : Bearer) (t : Traffic) (s : State) (before : List (List ℕ)) → Stands x b t s before → p.header ≡ header.Reset said
    → Arrives x es er p by shown c given → Opens b x.bearer t s before (heard_pair x es er p by shown) c.pair given
resets_receive x said es er p by shown c given b t s before h is arrives =
    nothing_received x es er p by shown c given b t s before (reset_shown said.contact es shown x) h (ap (λ (q : Header). hears q es er p by shown x) is) (shown_none said.contact es shown x) arrives

-- ---- a packet that isn't heard

pub unheard_none : (x : PairEnds) (e : LinkEnd) (o : Outcome) (p : Fields) (es by : ℕ) (shown : BroadcastState) → x.near ≡ Some e → is_heard p.header o.change ≡ false → is_going_up o.change ≡ false → TakesNothing x (met x e o p es by shown)
unfolding going_on
unheard_none x e o p es by shown is unheard other =
    let end : arrival_end e o p by ≡ after e o = ap (λ b. if b then heard_end (after e o) by p.acknowledgement (content_of p) else after e o) unheard in
    let record_is : record_of (arrival_end e o p by) ≡ record_of e = ap record_of end ∙ followed_record (with_fsm e o.after) o.change other in
    record {
      remains = remains_then x (with_near x (arrival_end e o p by)) (following (with_near x (arrival_end e o p by)) o.change es).pair (near_remains x e (arrival_end e o p by) is record_is) (following_remains (with_near x (arrival_end e o p by)) o.change es);
      none = ap (λ b. taken_in (if b then heard_outcome (after e o).session by (content_of p) else change_outcome o.change)) unheard ∙ change_none o.change;
    }

and_not : (b : Bool) → (b && false) ≡ false
and_not true = refl
and_not false = refl

pub others_receive : (x : PairEnds) (e : LinkEnd) (reason : Why) (es er : ℕ) (p : Fields) (by : ℕ) (shown : BroadcastState) (c : Course) (given : PairOutcome) (b : Bearer) (t : Traffic) (s : State) (before : List (List ℕ)) → Stands x b t s before → x.near ≡ Some e
    → is_traffic p.header ≡ true → (on_traffic e.fsm es er).change ≡ Ignore reason → Arrives x es er p by shown c given → Opens b x.bearer t s before (heard_pair x es er p by shown) c.pair given
others_receive x e reason es er p by shown c given b t s before h is traffic ignored arrives =
    let o = on_traffic e.fsm es er in
    let unheard : is_heard p.header o.change ≡ false = ap (λ k. is_traffic p.header && is_taken k) ignored ∙ and_not (is_traffic p.header) in
    nothing_received x es er p by shown c given b t s before (met x e o p es by shown) h (traffic_met x e es er p by shown traffic is) (unheard_none x e o p es by shown is unheard (ap is_going_up ignored)) arrives

-- ---- an ACTIVATE

pub going_up : (k : Change) → is_going_up k ≡ true → k ≡ Up
going_up Up so = refl
going_up (Down cause) so = absurd (let wrong : ⊥ = cc in wrong)
going_up (Answer r) so = absurd (let wrong : ⊥ = cc in wrong)
going_up (Ignore reason) so = absurd (let wrong : ⊥ = cc in wrong)
going_up k so = absurd (let wrong : ⊥ = cc in wrong)

-- what an ACTIVATE that takes an end up tells
pub record TellsUp (fsm : Fsm) (es er : ℕ) (o : Outcome) : Type 0 where
  pub own : er ≡ fsm.own
  pub goes_on : is_last fsm.own ≡ false
  pub recent : fsm.highest ≤ es
  pub peer : known o.after.peer ≡ es

not_less : (es highest : ℕ) → not (nat_lt es highest) ≡ true → highest ≤ es
not_less es highest so = grind (arith, nat_tests)

pub tells_up : (fsm : Fsm) (es er : ℕ) → (on_activate fsm es er).change ≡ Up → TellsUp fsm es er (on_activate fsm es er)
unfolding on_activate
tells_up fsm es er =
    let P : Outcome → Type 0 = (λ o. o.change ≡ Up → TellsUp fsm es er o) in
    cases_on P (is_held fsm.state) _ _ (λ h change. absurd (let wrong : ⊥ = cc in wrong)) (λ h.
    cases_on P ((is_in_reset fsm.state && not (is_last fsm.own)) && ((er == fsm.own) && not (nat_lt es fsm.highest))) _ _
    (λ fits change.
    let all = and_parts (is_in_reset fsm.state && not (is_last fsm.own)) _ fits in
    let ours = and_parts (er == fsm.own) _ all.1 in
    let resets = and_parts (is_in_reset fsm.state) _ all.0 in
    record { own = eqb-true er fsm.own ours.0; goes_on = not_true (is_last fsm.own) resets.1; recent = not_less es fsm.highest ours.1; peer = refl })
    (λ h. cases_on P (is_up fsm.state && is_session fsm es er) _ _ (λ fits change. absurd (let wrong : ⊥ = cc in wrong)) (λ h change. absurd (let wrong : ⊥ = cc in wrong))))
