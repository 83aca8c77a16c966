-- What an arrival leaves true of a pair: an end is held only where the other link is up, and the contact ends only where no link is up or the peer
-- showed a higher contact number.
use Rattle.std.specs.Prelude.{◌&&◌, ◌==◌, nat_lt, not, if◌then◌else◌}
use Rattle.std.proofs.Common.{◌≡◌, ◌∙◌, ℕ, Bool, true, false, List, Option, Some, None, option_map, refl, sym, subst, ap, arith}
use Rattle.std.proofs.lemmas.Bool.Decides.{nat_tests}
use Rattle.tipc_types.specs.LinkStates.{is_up}
use Rattle.tipc_types.specs.declared.link_words.BroadcastState.{BroadcastState}
use Rattle.tipc_types.specs.declared.link_words.Why.TheVariants as why
use Rattle.tipc_types.specs.declared.packet_lists.Taken.{Taken}
use Rattle.tipc_header.specs.declared.packet.ChangeoverType.{ChangeoverType}
use Rattle.tipc_header.specs.declared.packet.ChangeoverType.TheVariants as kind
use Rattle.tipc_header.specs.declared.packet.Header.{Header}
use Rattle.tipc_header.specs.declared.packet.Header.TheVariants as header
use Rattle.tipc_header.specs.Spelling.{Fields}
use Rattle.tipc_fragments.specs.Joining.{Joining}
use Rattle.tipc_tunnel.specs.Tunnels.{Tunnelled}
use Rattle.tipc_recv_window.specs.declared.outcomes.LinkOutcome.{LinkOutcome}
use Rattle.tipc_link_fsm.specs.Table.{Fsm, is_held, on_peer_tunnel, on_reset}
use Rattle.tipc_link.specs.Links.{LinkEnd, arrival_end, is_down, named_end, outcome_of, tunnelled_down, tunnelled_end}
use Rattle.tipc_pair.specs.declared.changes.PairOutcome.{PairOutcome}
use Rattle.tipc_pair.specs.Changeovers.{contact_ends, following, forgetting, forgotten, released, risen}
use Rattle.tipc_pair.specs.Courses.{Course, going_on, rests}
use Rattle.tipc_pair.specs.Facing.{PairEnds, facing, in_contact, is_held_at, is_up_at, turned, with_far}
use Rattle.tipc_pair.specs.PairArrivals.{Arrives, Heard, OpensInto, Unwraps, activates, activate_higher, as_it_is, behind, by_number, deferred, hears, ignored, inner_at, inner_taken, inside_of, linked, met_at, met_near, none_taken, opens, passing, reset_change, reset_given, reset_near, taken_down, tunnel, tunnelled_at}
use Rattle.tipc_pair.specs.PairFacts.{AreHeldRightly}
use Rattle.tipc_pair.proofs.CourseLaws.{then_pair}
use Rattle.tipc_pair.proofs.EndSteps.{fsm_arrived, tunnel_quiet}
use Rattle.tipc_link.proofs.Ends.{forgotten-is}
use Rattle.tipc_pair.proofs.Followings.{far_down, near_down}
use Rattle.tipc_pair.proofs.HeldLaws.{GoesOn, GoesQuietly, HeldUp, Shape, held_turned, near_goes, near_quietly, or_turns, outcome_holds, parted_held, quietly_same, quietly_then, quietly_turned, released_goes, released_held, reset_holds, reset_quiet, shape_contact, shape_held, stepped_goes, tunnel_holds}

-- While the peer shows no higher number, a contact that is there then is the one of before.
pub record GoesFar (x y : PairEnds) : Type 0 where
  pub held : HeldUp x → HeldUp y
  pub contact : y.seen ≡ x.seen → in_contact y ≡ true → y.contact ≡ x.contact

far_of : (x y : PairEnds) → GoesOn x y → GoesFar x y
far_of x y h = record { held = h.held; contact = λ same there. h.contact there }

far_then : (x y z : PairEnds) → GoesFar x y → GoesQuietly y z → GoesFar x z
far_then x y z h k = record {
  held = λ up. k.goes.held (h.held up);
  contact = λ same there. k.goes.contact there ∙ h.contact (sym k.goes.seen ∙ same) (k.stays there);
}

goes_same : (x : PairEnds) → GoesOn x x
goes_same x = (quietly_same x x refl).goes

shape_goes : (x y : PairEnds) → Shape x y → GoesQuietly x y
shape_goes x y h = record {
  goes = record { held = λ up. shape_held x y h up; seen = h.seen; contact = λ there. h.contact };
  stays = λ there. sym (shape_contact x y h) ∙ there;
}

-- ---- the packet at the near link

met_goes : (es er : ℕ) (p : Fields) (by : ℕ) (shown : BroadcastState) (x : PairEnds) (end : Option LinkEnd) → x.near ≡ end → GoesOn x (met_at es er p by shown x end).course.pair
met_goes es er p by shown x None near = goes_same x
met_goes es er p by shown x (Some e) near =
    let held = is_up_at x.far in
    let o = outcome_of e.fsm p.header es er held in
    subst (GoesOn x) (sym (then_pair (linked x e o p by shown) (λ y. following y o.change es)))
    (near_goes x e (arrival_end e o p by) o es near (fsm_arrived e o p by) (outcome_holds e.fsm p.header es er held))

given_goes : (es : ℕ) (held : Bool) (shown : BroadcastState) (x : PairEnds) (end : Option LinkEnd) → x.near ≡ end → GoesQuietly x (reset_given es held shown x end).course.pair
given_goes es held shown x None near = quietly_same x x refl
given_goes es held shown x (Some e) near = stepped_goes x e (on_reset e.fsm es held) es shown near (reset_holds e.fsm es held) (reset_quiet e.fsm es held)

pub reset_goes : (es : ℕ) (shown : BroadcastState) (x : PairEnds) → GoesQuietly x (reset_near es shown x).course.pair
reset_goes es shown x =
    let held = is_up_at x.far in
    let first = (reset_given es held shown x x.near).course in
    let again = λ (y : PairEnds). reset_given es false shown y y.near in
    elim (is_down (reset_change es held x.near) && not held) as (λ b. GoesQuietly x (if b then behind first again else reset_given es held shown x x.near).course.pair) [
      | true ↦ subst (GoesQuietly x) (sym (then_pair first (λ y. (again y).course)))
          (quietly_then x first.pair (again first.pair).course.pair (given_goes es held shown x x.near refl) (given_goes es false shown first.pair first.pair.near refl))
      | false ↦ given_goes es held shown x x.near refl
    ]

-- ---- a higher contact number

pub risen_seen : (x : PairEnds) (number : ℕ) → (risen x number).pair.seen ≡ number
risen_seen x number = elim (in_contact x) as (λ b. (if b then contact_ends (record x { seen = number }) (x.contact, x.seen) number else rests (forgotten x number)).pair.seen ≡ number) [ true ↦ refl | false ↦ refl ]

forgets_free : (more : ℕ) (end : Option LinkEnd) → is_up_at end ≡ false → is_held_at (option_map (forgetting more) end) ≡ false
forgets_free more None down = refl
forgets_free more (Some e) down = ap (λ (f : Fsm). is_held f.state) (forgotten-is e.fsm down)

forgotten_held : (x : PairEnds) (number : ℕ) → in_contact x ≡ false → HeldUp (forgotten x number)
forgotten_held x number none = record {
  near = λ is. (let free : is_held_at (forgotten x number).near ≡ false = forgets_free number x.near (near_down x none) in cc);
  far = λ is. (let free : is_held_at (forgotten x number).far ≡ false = forgets_free number x.far (far_down x none) in cc);
}

risen_held : (x : PairEnds) (number : ℕ) → HeldUp (risen x number).pair
risen_held x number = elim (in_contact x) as (λ b. in_contact x ≡ b → HeldUp (if b then contact_ends (record x { seen = number }) (x.contact, x.seen) number else rests (forgotten x number)).pair) [
  | true ↦ λ there. parted_held (record x { seen = number })
  | false ↦ λ none. forgotten_held x number none
] refl

not_seen : {A : Type 0} (number seen : ℕ) → (number == seen) ≡ false → number ≡ seen → A
not_seen number seen differs same = absurd (let wrong : ⊥ = grind (arith, nat_tests, differs, same) in wrong)

risen_far : (x : PairEnds) (number : ℕ) → (number == x.seen) ≡ false → GoesFar x (risen x number).pair
risen_far x number differs = record { held = λ up. risen_held x number; contact = λ same there. not_seen number x.seen differs (sym (risen_seen x number) ∙ same) }

behind_far : (x : PairEnds) (number : ℕ) (hear : PairEnds → Heard) → ((y : PairEnds) → GoesOn y (hear y).course.pair) → (number == x.seen) ≡ false → GoesFar x (behind (risen x number) hear).course.pair
behind_far x number hear goes differs =
    let y = (risen x number).pair in
    let far : GoesFar x (hear y).course.pair = record {
      held = λ up. (goes y).held (risen_held x number);
      contact = λ same there. not_seen number x.seen differs (sym (risen_seen x number) ∙ (sym (goes y).seen ∙ same));
    } in
    subst (GoesFar x) (sym (then_pair (risen x number) (λ z. (hear z).course))) far

by_number_far : (x : PairEnds) (number : ℕ) (same higher : Heard) → GoesFar x same.course.pair → ((number == x.seen) ≡ false → GoesFar x higher.course.pair) → GoesFar x (by_number x number same higher).course.pair
by_number_far x number same higher one two =
    elim (nat_lt number x.seen) as (λ b. GoesFar x (if b then passing x why.Contact else (if number == x.seen then same else higher)).course.pair) [
      | true ↦ far_of x x (goes_same x)
      | false ↦ elim (number == x.seen) as (λ b. (number == x.seen) ≡ b → GoesFar x (if b then same else higher).course.pair) [ true ↦ λ is. one | false ↦ λ differs. two differs ] refl
    ]

activates_far : (x : PairEnds) (number : ℕ) (hear : PairEnds → Heard) → ((y : PairEnds) → GoesOn y (hear y).course.pair) → (number == x.seen) ≡ false → GoesFar x (activate_higher number hear x).course.pair
activates_far x number hear goes differs = elim (in_contact x) as (λ b. GoesFar x (activates b (risen x number) (behind (risen x number) hear)).course.pair) [
  | true ↦ risen_far x number differs
  | false ↦ behind_far x number hear goes differs
]

hears_far : (h : Header) (es er : ℕ) (p : Fields) (by : ℕ) (shown : BroadcastState) (x : PairEnds) → GoesFar x (hears h es er p by shown x).course.pair
hears_far (header.Reset said) es er p by shown x =
    by_number_far x said.contact (reset_near es shown x) (behind (risen x said.contact) (reset_near es shown)) (far_of x _ (reset_goes es shown x).goes)
    (λ differs. behind_far x said.contact (reset_near es shown) (λ y. (reset_goes es shown y).goes) differs)
hears_far (header.Activate said) es er p by shown x =
    let hear = met_near es er p by shown in
    by_number_far x said.contact (hear x) (activate_higher said.contact hear x) (far_of x _ (met_goes es er p by shown x x.near refl))
    (λ differs. activates_far x said.contact hear (λ y. met_goes es er p by shown y y.near refl) differs)
hears_far other es er p by shown x = far_of x _ (met_goes es er p by shown x x.near refl)

-- ---- a tunnel packet

tunnelled_goes : (epoch : ℕ) (x : PairEnds) (end : Option LinkEnd) → x.near ≡ end → GoesQuietly x (tunnelled_at epoch x end).pair
tunnelled_goes epoch x None near = quietly_same x x refl
tunnelled_goes epoch x (Some e) near = near_quietly x e (tunnelled_down e epoch) (on_peer_tunnel e.fsm epoch) epoch near refl (tunnel_holds e.fsm epoch) (tunnel_quiet e.fsm epoch)

down_goes : (k : ChangeoverType) (epoch : ℕ) (x : PairEnds) → GoesQuietly x (taken_down k epoch x).pair
down_goes kind.Duplicate epoch x = quietly_same x x refl
down_goes kind.Original epoch x = quietly_turned x (tunnelled_at epoch (turned x) x.far).pair (tunnelled_goes epoch (turned x) x.far refl)

pub inner_fsm : (t : Tunnelled) (by : ℕ) (e : LinkEnd) → (inner_taken t by e).fsm ≡ e.fsm
inner_fsm t by e = elim (t.count == 0) as (λ b. (if b then named_end e t.old.epoch else tunnelled_end e t.old.epoch (inside_of t by)).fsm ≡ e.fsm) [ true ↦ refl | false ↦ refl ]

inner_goes : (t : Tunnelled) (by : ℕ) (x : PairEnds) (end : Option LinkEnd) → x.far ≡ end → GoesQuietly x (inner_at t by x end).pair
inner_goes t by x None far = quietly_same x x refl
inner_goes t by x (Some e) far =
    let shape : Shape x (with_far x (inner_taken t by e)) = record {
      near_up = refl;
      far_up = ap (λ (f : Fsm). is_up f.state) (inner_fsm t by e) ∙ sym (ap is_up_at far);
      near_held = refl;
      far_held = ap (λ (f : Fsm). is_held f.state) (inner_fsm t by e) ∙ sym (ap is_held_at far);
      contact = refl;
      seen = refl;
    } in
    shape_goes x (with_far x (inner_taken t by e)) shape

unwraps_goes : (x : PairEnds) (taken carried : List Taken) (c : Course) → Unwraps x taken c carried → GoesQuietly x c.pair
unwraps_goes x taken carried c none_taken = quietly_same x x refl
unwraps_goes x taken carried c (as_it_is first others none) = quietly_same x x refl
unwraps_goes x taken carried c (tunnel first others t speaks) =
    let one = taken_down t.kind t.old.epoch x in
    subst (GoesQuietly x) (sym (then_pair one (λ y. inner_at t first.by y y.far)))
    (quietly_then x one.pair (inner_at t first.by one.pair one.pair.far).pair (down_goes t.kind t.old.epoch x) (inner_goes t first.by one.pair one.pair.far refl))

begun_goes : (x y : PairEnds) (last : Joining) → GoesQuietly x y → GoesQuietly x (record y { begun = last })
begun_goes x y last h = record {
  goes = record { held = λ up. (let now = h.goes.held up in record { near = now.near; far = now.far }); seen = h.goes.seen; contact = h.goes.contact };
  stays = h.stays;
}

pub opens_goes : (x : PairEnds) (outcome : LinkOutcome) (c : Course) (given : PairOutcome) → OpensInto x outcome c given → GoesQuietly x c.pair
opens_goes x outcome c given (opens {taken = taken} {carried = carried} {c = course} {last = last} unwraps brings) = begun_goes x course.pair last (unwraps_goes x taken carried course unwraps)
opens_goes x outcome c given deferred = quietly_same x x refl
opens_goes x outcome c given ignored = quietly_same x x refl

-- ---- an arrival

pub arrived_pair : (x : PairEnds) (es er : ℕ) (p : Fields) (by : ℕ) (shown : BroadcastState) (c : Course) (given : PairOutcome) (a : Arrives x es er p by shown c given) → c.pair ≡ (released a.opened.pair).pair
arrived_pair x es er p by shown c given a =
    let first = (hears p.header es er p by shown x).course in
    let open_it = λ (y : PairEnds). a.opened in
    ap (λ (k : Course). k.pair) a.course ∙ (then_pair (going_on first open_it) released ∙ ap (λ y. (released y).pair) (then_pair first open_it))

pub opened_far : (x : PairEnds) (es er : ℕ) (p : Fields) (by : ℕ) (shown : BroadcastState) (c : Course) (given : PairOutcome) (a : Arrives x es er p by shown c given) → GoesFar x a.opened.pair
opened_far x es er p by shown c given a =
    let heard = hears p.header es er p by shown x in far_then x heard.course.pair a.opened.pair (hears_far p.header es er p by shown x) (opens_goes heard.course.pair heard.outcome a.opened given a.opens)

pub arrival_far : (x : PairEnds) (es er : ℕ) (p : Fields) (by : ℕ) (shown : BroadcastState) (c : Course) (given : PairOutcome) → Arrives x es er p by shown c given → GoesFar x c.pair
arrival_far x es er p by shown c given a =
    subst (GoesFar x) (sym (arrived_pair x es er p by shown c given a)) (far_then x a.opened.pair (released a.opened.pair).pair (opened_far x es er p by shown c given a) (released_goes a.opened.pair))

pub arrival_held : (x : PairEnds) (es er : ℕ) (p : Fields) (by : ℕ) (shown : BroadcastState) (c : Course) (given : PairOutcome) → Arrives x es er p by shown c given → HeldUp x → AreHeldRightly c.pair
arrival_held x es er p by shown c given a up =
    subst AreHeldRightly (sym (arrived_pair x es er p by shown c given a)) (released_held a.opened.pair ((opened_far x es er p by shown c given a).held up))

-- ---- seen from either link

pub far_facing : (bearer : ℕ) (x y : PairEnds) → GoesFar x y → GoesFar x (facing bearer y)
unfolding facing
far_facing bearer x y h = elim (y.bearer == bearer) as (λ b. GoesFar x (if b then y else turned y)) [
  | true ↦ h
  | false ↦ record { held = λ up. held_turned y (h.held up); contact = λ same there. h.contact same (or_turns (is_up_at y.near) (is_up_at y.far) ∙ there) }
]

pub facing_far_from : (bearer : ℕ) (x y : PairEnds) → GoesFar (facing bearer x) y → GoesFar x y
unfolding facing
facing_far_from bearer x y = elim (x.bearer == bearer) as (λ b. GoesFar (if b then x else turned x) y → GoesFar x y) [
  | true ↦ λ h. h
  | false ↦ λ h. record { held = λ up. h.held (held_turned x up); contact = h.contact }
]
