-- What each call of a pair numbers, and a packet that arrives, is of the sessions that the link ends have then, or had last.
use Rattle.std.proofs.Common.{◌≡◌, ◌≤◌, ◌==◌, ◌&&◌, not, ℕ, Bool, true, false, nat_lt, if◌then◌else◌, List, Option, Some, None, option_map, refl, sym, ap, ◌∙◌, subst, inl, arith}
use Rattle.std.proofs.lemmas.Bool.Decides.{nat_tests}
use Rattle.tipc_types.specs.LinkStates.{is_up}
use Rattle.tipc_types.specs.declared.link_words.BroadcastState.{BroadcastState}
use Rattle.tipc_types.specs.declared.link_words.Why.TheVariants as why
use Rattle.tipc_types.specs.declared.packet_lists.Taken.{Taken}
use Rattle.tipc_outside.specs.declared.outgoing.Outgoing.{Outgoing}
use Rattle.tipc_header.specs.declared.packet.ChangeoverType.{ChangeoverType}
use Rattle.tipc_header.specs.declared.packet.ChangeoverType.TheVariants as kind
use Rattle.tipc_header.specs.declared.packet.Header.{Header}
use Rattle.tipc_header.specs.declared.packet.Header.TheVariants as header
use Rattle.tipc_header.specs.Spelling.{Fields}
use Rattle.tipc_tunnel.specs.Tunnels.{Tunnelled}
use Rattle.tipc_recv_window.specs.declared.outcomes.LinkOutcome.{LinkOutcome}
use Rattle.tipc_link_fsm.specs.Runs.{ResetArrives, TickPasses}
use Rattle.tipc_link_fsm.specs.Table.{Outcome, on_cut, on_peer_tunnel, on_reset, on_tick}
use Rattle.tipc_link_fsm.proofs.Moves.{is_going_up}
use Rattle.tipc_link.specs.Links.{LinkEnd, after, answered_with, arrival_end, cut_end, heard_end, is_down, is_heard, mended_end, named_end, outcome_of, recorded, tunnelled_down, tunnelled_end, with_session}
use Rattle.tipc_link.specs.Records.{Received}
use Rattle.tipc_link.specs.Sessions.{IsPut, SessionEnd, answered, arrived, content_of, flushed, joins, moving, waits, with_broadcast, with_record}
use Rattle.tipc_pair.specs.declared.changes.PairOutcome.{PairOutcome}
use Rattle.tipc_pair.specs.Changeovers.{following, released, risen}
use Rattle.tipc_pair.specs.Courses.{Course, going_on}
use Rattle.tipc_pair.specs.Facing.{PairEnds, facing, in_contact, is_up_at, other, turned, with_near}
use Rattle.tipc_pair.specs.PairArrivals.{Arrives, Heard, OpensInto, Unwraps, activate_higher, activates, as_it_is, behind, by_number, deferred, hears, ignored, inner_at, inner_taken, inside_of, met_at, met_near, none_taken, opens, passing, reset_change, reset_given, reset_near, taken_down, tunnel, tunnelled_at}
use Rattle.tipc_pair.specs.PairCalls.{Puts, answered_at, at_bearer, cut_at, cut_near, mended_near, stepped, tick_at, tick_near, ticked}
use Rattle.tipc_pair.proofs.CourseLaws.{then_pair}
use Rattle.tipc_pair.proofs.HeldLaws.{reset_quiet, tick_quiet}
use Rattle.tipc_pair.proofs.turns.PairKept.{facing_bearer}
use Rattle.tipc_two_nodes.specs.deeds.Arriving.{arrival_more, heard_more, hears_more, linked_more, met_at_more, opens_more, taken_down_more, tunnelled_more, unwraps_more}
use Rattle.tipc_two_nodes.specs.deeds.PairDeeds.{both_more, called_more, cut_at_more, followed_more, more_at, none_more, tick_more}
use Rattle.tipc_two_nodes.proofs.sights.LastSessions.{AreOfLast, KeepsLast, NumbersLast, after_last, both_last, following_last, last_epoch, last_same, last_then, mapped_last, more_last, near_last, none_last, numbers_facing, numbers_far, numbers_then, of_last, quiet_last, released_last, risen_last}
use Rattle.tipc_two_nodes.proofs.links.calls.Stepping.{epoch_flushed as flushed_last}
use Rattle.tipc_two_nodes.proofs.links.calls.Listening.{arrived_epoch as arrived_last}

-- ---- a bearer is mended, and a STATE is sent

pub mended_last : (x : PairEnds) (o : Option LinkEnd) → x.near ≡ o → KeepsLast x (mended_near x o)
mended_last x None is = last_same x
mended_last x (Some e) is = near_last x e (mended_end e) is refl

answered_end_last : (e : LinkEnd) (taken : ℕ) (asks : Bool) → last_epoch (Some (answered_with e taken asks)) ≡ last_epoch (Some e)
answered_end_last e taken asks = elim (is_up e.fsm.state) as (λ t. last_epoch (Some (if t then record e { session = option_map (λ s. answered (with_broadcast s taken asks)) e.session } else e)) ≡ last_epoch (Some e)) [
  | true ↦ mapped_last (λ s. answered (with_broadcast s taken asks)) (λ s. refl) e.session
  | false ↦ refl
]

pub answered_last : (x : PairEnds) (o : Option LinkEnd) (taken : ℕ) (asks : Bool) (shown : BroadcastState) → x.near ≡ o → KeepsLast x (answered_at x o taken asks shown).pair
answered_last x None taken asks shown is = last_same x
answered_last x (Some e) taken asks shown is = near_last x e (answered_with e taken asks) is (answered_end_last e taken asks)

-- ---- a call of the near link, a cut and a tick

stepped_last : (x : PairEnds) (e : LinkEnd) (o : Outcome) (epoch : ℕ) (shown : BroadcastState) → x.near ≡ Some e → is_going_up o.change ≡ false → NumbersLast x (stepped x e o epoch shown).pair (followed_more (with_near x (after e o)) o.change)
unfolding going_on
stepped_last x e o epoch shown is quiet =
    let z = with_near x (after e o) in
    let k = following_last z o.change epoch in
    record { keeps = last_then x z (following z o.change epoch).pair (near_last x e (after e o) is (after_last e o quiet)) k.keeps; numbers = k.numbers }

pub cut_at_last : (x : PairEnds) (o : Option LinkEnd) → x.near ≡ o → NumbersLast x (cut_at x o).pair (cut_at_more x o)
cut_at_last x None is = quiet_last x x (last_same x)
cut_at_last x (Some e) is =
    let d = cut_end e (is_up_at x.far) in
    let z = with_near x d in
    let k = following_last z (on_cut e.fsm (is_up_at x.far)).change 0 in
    record { keeps = last_then x z _ (near_last x e d is refl) k.keeps; numbers = k.numbers }

-- and then ends are released
released_then : (x y : PairEnds) (n : ℕ → ℕ → List (List ℕ)) → x.bearer ≤ 1 → NumbersLast x y n → NumbersLast x (released y).pair (both_more n none_more)
released_then x y n two k = numbers_then x y (released y).pair n none_more k (quiet_last y _ (released_last y (let is = k.keeps.bearer in omega arith)))

pub cut_last : (x : PairEnds) → x.bearer ≤ 1 → NumbersLast x (cut_near x).pair (both_more (cut_at_more x x.near) none_more)
cut_last x two = subst (λ y. NumbersLast x y (both_more (cut_at_more x x.near) none_more)) (sym (then_pair (cut_at x x.near) released)) (released_then x (cut_at x x.near).pair (cut_at_more x x.near) two (cut_at_last x x.near refl))

tick_at_last : (x : PairEnds) (o : Option LinkEnd) (shown : BroadcastState) → x.near ≡ o → NumbersLast x (tick_at shown x o).pair (called_more x o (TickPasses (is_up_at x.far)))
tick_at_last x None shown is = quiet_last x x (last_same x)
tick_at_last x (Some e) shown is = stepped_last x e (on_tick e.fsm (is_up_at x.far)) 0 shown is (tick_quiet e.fsm (is_up_at x.far))

pub tick_last : (b : ℕ) (x : PairEnds) (shown : BroadcastState) → x.bearer ≤ 1 → NumbersLast x (at_bearer b x (tick_near shown)).pair (tick_more (facing b x))
tick_last b x shown two = numbers_facing b x (tick_near shown (facing b x)).pair (tick_more (facing b x)) two (tick_at_last (facing b x) (facing b x).near shown refl)

pub ticked_last : (x : PairEnds) (shown : BroadcastState) → x.bearer ≤ 1
    → NumbersLast x (ticked shown x).pair (both_more (both_more (tick_more (facing 0 x)) (tick_more (facing 1 (at_bearer 0 x (tick_near shown)).pair))) none_more)
ticked_last x shown two =
    let call = tick_near shown in
    let one = (at_bearer 0 x call).pair in
    let both = going_on (at_bearer 0 x call) (λ y. at_bearer 1 y call) in
    let n = both_more (tick_more (facing 0 x)) (tick_more (facing 1 one)) in
    let first = tick_last 0 x shown two in
    let second = tick_last 1 one shown (let is = first.keeps.bearer in omega arith) in
    let all = subst (λ y. NumbersLast x y n) (sym (then_pair (at_bearer 0 x call) (λ y. at_bearer 1 y call))) (numbers_then x one (at_bearer 1 one call).pair (tick_more (facing 0 x)) (tick_more (facing 1 one)) first second) in
    subst (λ y. NumbersLast x y (both_more n none_more)) (sym (then_pair both released)) (released_then x both.pair n two all)

-- ---- packets are put

put_epoch : (s v : SessionEnd) (pieces : List (List ℕ)) → IsPut s pieces v → v.epoch ≡ s.epoch
put_epoch s _ _ (waits pieces alone) = refl
put_epoch s _ _ (joins packets packet may) = refl

near_put_last : (x x' : PairEnds) (pieces : List (List ℕ)) (frames : List Outgoing) → (p : Puts x pieces x' frames) → NumbersLast x x' (more_at x.bearer p.session.epoch (moving p.put))
near_put_last x x' pieces frames p =
    let z = with_near x (with_session p.end (flushed p.put)) in
    let same : (flushed p.put).epoch ≡ p.session.epoch = flushed_last p.put ∙ put_epoch p.session p.put pieces p.is_put in
    let keeps = near_last x p.end (with_session p.end (flushed p.put)) p.end_is (ap Some same ∙ sym (ap (option_map (λ (s : SessionEnd). s.epoch)) p.session_is)) in
    subst (λ y. NumbersLast x y (more_at x.bearer p.session.epoch (moving p.put))) (sym p.after) (record { keeps = keeps; numbers = more_last z x.bearer p.session.epoch (moving p.put) (inl (refl, ap Some same)) })

pub puts_last : (b : ℕ) (x x' : PairEnds) (pieces : List (List ℕ)) (frames : List Outgoing) → b ≤ 1 → x.bearer ≤ 1 → (p : Puts (facing b x) pieces x' frames) → NumbersLast x (facing x.bearer x') (more_at b p.session.epoch (moving p.put))
puts_last b x x' pieces frames low two p =
    numbers_facing b x x' (more_at b p.session.epoch (moving p.put)) two (subst (λ n. NumbersLast (facing b x) x' (more_at n p.session.epoch (moving p.put))) (facing_bearer b x low two) (near_put_last (facing b x) x' pieces frames p))

-- ---- a packet arrives

-- what was heard numbers packets in the sessions that the ends have then, of which one may have begun with it
pub record HearsLast (x y : PairEnds) (n : ℕ → ℕ → List (List ℕ)) : Type 0 where
  pub bearer : y.bearer ≡ x.bearer
  pub numbers : AreOfLast n y

heard_end_last : (e : LinkEnd) (s : SessionEnd) (p : Fields) (by : ℕ) → e.session ≡ Some s → last_epoch (Some (heard_end e by p.acknowledgement (content_of p))) ≡ Some s.epoch
heard_end_last e s p by is = mapped_last (λ t. arrived t by p.acknowledgement (content_of p)) (λ t. arrived_last t by p.acknowledgement (content_of p)) e.session ∙ ap (option_map (λ (t : SessionEnd). t.epoch)) is

heard_last : (x : PairEnds) (e : LinkEnd) (o : Option SessionEnd) (p : Fields) (by : ℕ) → e.session ≡ o → AreOfLast (heard_more x.bearer o p by) (with_near x (heard_end e by p.acknowledgement (content_of p)))
heard_last x e None p by is = none_last (with_near x (heard_end e by p.acknowledgement (content_of p)))
heard_last x e (Some s) p by is = more_last (with_near x (heard_end e by p.acknowledgement (content_of p))) x.bearer s.epoch _ (inl (refl, heard_end_last e s p by is))

linked_last : (x : PairEnds) (e : LinkEnd) (o : Outcome) (p : Fields) (by : ℕ) → AreOfLast (linked_more x e o p by) (with_near x (arrival_end e o p by))
linked_last x e o p by = elim (is_heard p.header o.change) as (λ t. AreOfLast (if t then heard_more x.bearer (after e o).session p by else none_more) (with_near x (if t then heard_end (after e o) by p.acknowledgement (content_of p) else after e o))) [
  | true ↦ heard_last x (after e o) (after e o).session p by refl
  | false ↦ none_last (with_near x (after e o))
]

met_last : (x : PairEnds) (o : Option LinkEnd) (es er : ℕ) (p : Fields) (by : ℕ) (shown : BroadcastState) → HearsLast x (met_at es er p by shown x o).course.pair (met_at_more es er p by x o)
unfolding going_on
met_last x None es er p by shown = record { bearer = refl; numbers = none_last x }
met_last x (Some e) es er p by shown =
    let o = outcome_of e.fsm p.header es er (is_up_at x.far) in
    let z = with_near x (arrival_end e o p by) in
    let k = following_last z o.change es in
    let last = (following z o.change es).pair in
    record {
      bearer = k.keeps.bearer;
      numbers = both_last (linked_more x e o p by) (followed_more z o.change) last (of_last (linked_more x e o p by) z last k.keeps (linked_last x e o p by)) k.numbers;
    }

-- a RESET
reset_given_last : (x : PairEnds) (o : Option LinkEnd) (es : ℕ) (held : Bool) (shown : BroadcastState) → x.near ≡ o → NumbersLast x (reset_given es held shown x o).course.pair (called_more x o (ResetArrives es held))
reset_given_last x None es held shown is = quiet_last x x (last_same x)
reset_given_last x (Some e) es held shown is = stepped_last x e (on_reset e.fsm es held) es shown is (reset_quiet e.fsm es held)

pub reset_last : (x : PairEnds) (es : ℕ) (shown : BroadcastState) → NumbersLast x (reset_near es shown x).course.pair (called_more x x.near (ResetArrives es (is_up_at x.far)))
unfolding going_on
reset_last x es shown =
    let held = is_up_at x.far in
    let first = reset_given es held shown x x.near in
    let q = first.course.pair in
    let again : PairEnds → Heard = λ z. reset_given es false shown z z.near in
    let n = called_more x x.near (ResetArrives es held) in
    let once = reset_given_last x x.near es held shown refl in
    let twice = reset_given_last q q.near es false shown refl in
    elim (is_down (reset_change es held x.near) && not held) as (λ t. NumbersLast x (if t then behind first.course again else first).course.pair n) [
      | true ↦ record { keeps = last_then x q _ once.keeps twice.keeps; numbers = of_last n q _ twice.keeps once.numbers }
      | false ↦ once
    ]

-- by the contact number that is shown
shown_last : (x : PairEnds) (number : ℕ) (same higher : Heard) (n : ℕ → ℕ → List (List ℕ)) → HearsLast x same.course.pair n → higher.course.pair.bearer ≡ x.bearer → HearsLast x (by_number x number same higher).course.pair (if number == x.seen then n else none_more)
shown_last x number same higher n k bearer =
    elim (nat_lt number x.seen) as (λ t. nat_lt number x.seen ≡ t → HearsLast x (if t then passing x why.Contact else (if number == x.seen then same else higher)).course.pair (if number == x.seen then n else none_more)) [
      | true ↦ λ low. (let other : (number == x.seen) ≡ false = grind (arith, nat_tests) in subst (λ t. HearsLast x x (if t then n else none_more)) (sym other) (record { bearer = refl; numbers = none_last x }))
      | false ↦ λ _. elim (number == x.seen) as (λ t. HearsLast x (if t then same else higher).course.pair (if t then n else none_more)) [
        | true ↦ k
        | false ↦ record { bearer = bearer; numbers = none_last higher.course.pair }
      ]
    ] refl

activate_bearer : (x : PairEnds) (number es er : ℕ) (p : Fields) (by : ℕ) (shown : BroadcastState) → (activate_higher number (met_near es er p by shown) x).course.pair.bearer ≡ x.bearer
unfolding going_on
activate_bearer x number es er p by shown =
    let q = (risen x number).pair in
    let k = risen_last x number in
    elim (in_contact x) as (λ t. (activates t (risen x number) (behind (risen x number) (met_near es er p by shown))).course.pair.bearer ≡ x.bearer) [
      | true ↦ k.bearer
      | false ↦ (met_last q q.near es er p by shown).bearer ∙ k.bearer
    ]

pub hears_last : (h : Header) (x : PairEnds) (es er : ℕ) (p : Fields) (by : ℕ) (shown : BroadcastState) → HearsLast x (hears h es er p by shown x).course.pair (hears_more h es er p by x)
unfolding going_on
hears_last (header.Reset said) x es er p by shown =
    let k = reset_last x es shown in
    let q = (risen x said.contact).pair in
    shown_last x said.contact (reset_near es shown x) (behind (risen x said.contact) (reset_near es shown)) (called_more x x.near (ResetArrives es (is_up_at x.far))) (record { bearer = k.keeps.bearer; numbers = k.numbers })
    ((reset_last q es shown).keeps.bearer ∙ (risen_last x said.contact).bearer)
hears_last (header.Activate said) x es er p by shown =
    shown_last x said.contact (met_near es er p by shown x) (activate_higher said.contact (met_near es er p by shown) x) (met_at_more es er p by x x.near) (met_last x x.near es er p by shown) (activate_bearer x said.contact es er p by shown)
hears_last other x es er p by shown = met_last x x.near es er p by shown

-- what the near link took is opened
tunnelled_last : (x : PairEnds) (o : Option LinkEnd) (epoch : ℕ) → x.near ≡ o → NumbersLast x (tunnelled_at epoch x o).pair (tunnelled_more epoch x o)
tunnelled_last x None epoch is = quiet_last x x (last_same x)
tunnelled_last x (Some e) epoch is =
    let z = with_near x (tunnelled_down e epoch) in
    let k = following_last z (on_peer_tunnel e.fsm epoch).change epoch in
    record { keeps = last_then x z _ (near_last x e (tunnelled_down e epoch) is refl) k.keeps; numbers = k.numbers }

taken_down_last : (x : PairEnds) (kind_is : ChangeoverType) (epoch : ℕ) → x.bearer ≤ 1 → NumbersLast x (taken_down kind_is epoch x).pair (taken_down_more kind_is epoch x)
taken_down_last x kind.Duplicate epoch two = quiet_last x x (last_same x)
taken_down_last x kind.Original epoch two = numbers_far x (tunnelled_at epoch (turned x) x.far).pair (tunnelled_more epoch (turned x) x.far) two (tunnelled_last (turned x) x.far epoch refl)

recorded_last : (e : LinkEnd) (r : Received) → last_epoch (Some (recorded e r)) ≡ last_epoch (Some e)
recorded_last e r = mapped_last (λ s. with_record s r) (λ s. refl) e.session

inner_end_last : (t : Tunnelled) (by : ℕ) (e : LinkEnd) → last_epoch (Some (inner_taken t by e)) ≡ last_epoch (Some e)
inner_end_last t by e = elim (t.count == 0) as (λ c. last_epoch (Some (if c then named_end e t.old.epoch else tunnelled_end e t.old.epoch (inside_of t by))) ≡ last_epoch (Some e)) [
  | true ↦ recorded_last e _
  | false ↦ recorded_last e _
]

inner_last : (x : PairEnds) (t : Tunnelled) (by : ℕ) (o : Option LinkEnd) → x.far ≡ o → KeepsLast x (inner_at t by x o).pair
inner_last x t by None is = last_same x
inner_last x t by (Some e) is = record { bearer = refl; near = refl; far = inner_end_last t by e ∙ ap last_epoch (sym is) }

unwraps_last : (x : PairEnds) (taken : List Taken) (c : Course) (carried : List Taken) (u : Unwraps x taken c carried) → x.bearer ≤ 1 → NumbersLast x c.pair (unwraps_more x taken c carried u)
unfolding going_on
unwraps_last x _ _ _ none_taken two = quiet_last x x (last_same x)
unwraps_last x _ _ _ (as_it_is first others plain) two = quiet_last x x (last_same x)
unwraps_last x _ _ _ (tunnel first others t speaks) two =
    let y = (taken_down t.kind t.old.epoch x).pair in
    let down = taken_down_last x t.kind t.old.epoch two in
    let inner = inner_last y t first.by y.far refl in
    record { keeps = last_then x y _ down.keeps inner; numbers = of_last (taken_down_more t.kind t.old.epoch x) y _ inner down.numbers }

pub opens_last : (x : PairEnds) (o : LinkOutcome) (c : Course) (given : PairOutcome) (i : OpensInto x o c given) → x.bearer ≤ 1 → NumbersLast x c.pair (opens_more x o c given i)
opens_last x _ _ _ (opens u brings) two = (let k = unwraps_last x _ _ _ u two in record { keeps = record { bearer = k.keeps.bearer; near = k.keeps.near; far = k.keeps.far }; numbers = k.numbers })
opens_last x _ _ _ deferred two = quiet_last x x (last_same x)
opens_last x _ _ _ ignored two = quiet_last x x (last_same x)

-- a whole arrival
pub arrival_last : (x : PairEnds) (es er : ℕ) (p : Fields) (by : ℕ) (shown : BroadcastState) (c : Course) (given : PairOutcome) (a : Arrives x es er p by shown c given) → x.bearer ≤ 1 → AreOfLast (arrival_more x es er p by shown c given a) c.pair
unfolding going_on
arrival_last x es er p by shown c given a two =
    let m = hears p.header es er p by shown x in
    let z = m.course.pair in
    let one = hears_last p.header x es er p by shown in
    let low : z.bearer ≤ 1 = (let is = one.bearer in omega arith) in
    let two_then = opens_last z m.outcome a.opened given a.opens low in
    let y = a.opened.pair in
    let n = hears_more p.header es er p by x in
    let k = opens_more z m.outcome a.opened given a.opens in
    let both = both_last n k y (of_last n z y two_then.keeps one.numbers) two_then.numbers in
    let last = released_last y (let is = two_then.keeps.bearer in omega arith) in
    subst (λ (d : Course). AreOfLast (both_more n k) d.pair) (sym a.course) (of_last (both_more n k) y (released y).pair last both)
