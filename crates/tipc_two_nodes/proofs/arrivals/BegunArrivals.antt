-- The message that is begun when a pair has heard a packet: that of before, where the contact lasts, and none, where one begins.
use Rattle.std.specs.Prelude.{nat_lt, not}
use Rattle.std.proofs.Common.{◌≡◌, ◌==◌, ◌||◌, ◌&&◌, ℕ, Bool, true, false, if◌then◌else◌, Option, Some, None, option_map, refl, sym, ap, ◌∙◌, subst, inl, inr, arith}
use Rattle.std.proofs.lemmas.Bool.{cases_Bool}
use Rattle.tipc_types.specs.LinkStates.{is_up}
use Rattle.tipc_types.specs.declared.link_words.BroadcastState.{BroadcastState}
use Rattle.tipc_types.specs.declared.link_words.Why.TheVariants as why
use Rattle.tipc_header.specs.declared.packet.Header.{Header}
use Rattle.tipc_header.specs.declared.packet.Header.TheVariants as header
use Rattle.tipc_header.specs.Spelling.{Fields}
use Rattle.tipc_fragments.specs.Joining.{fresh}
use Rattle.tipc_link.specs.Links.{LinkEnd, arrival_end, is_down, outcome_of}
use Rattle.tipc_link.specs.Sessions.{SessionEnd}
use Rattle.tipc_link_fsm.specs.declared.changes.Change.TheVariants.{Down, Up}
use Rattle.tipc_link_fsm.specs.Table.{Fsm, Outcome, on_reset}
use Rattle.tipc_link_fsm.proofs.Moves.{is_going_up}
use Rattle.tipc_pair.specs.declared.changes.PairOutcome.{PairOutcome}
use Rattle.tipc_pair.specs.Changeovers.{contact_begins, contact_ends, following, forgetting, forgotten, gone_up, released, risen, switch, switch_from, switching}
use Rattle.tipc_pair.specs.Courses.{Course, rests}
use Rattle.tipc_pair.specs.Facing.{PairEnds, in_contact, is_up_at, with_near}
use Rattle.tipc_pair.specs.PairArrivals.{Arrives, Heard, activate_higher, activates, behind, by_number, hears, linked, met_at, met_near, passing, reset_change, reset_given, reset_near}
use Rattle.tipc_pair.proofs.ArrivalLaws.{arrived_pair, opens_goes, reset_goes}
use Rattle.tipc_pair.proofs.CourseLaws.{then_pair}
use Rattle.tipc_pair.proofs.EndSteps.{fsm_arrived}
use Rattle.tipc_pair.proofs.Followings.{far_down, near_down}
use Rattle.tipc_pair.proofs.HeldLaws.{GoesQuietly, near_quietly, not_in, outcome_holds, quietly_same, quietly_then, released_goes, reset_quiet, or_true}
use Rattle.tipc_two_nodes.proofs.links.receiver.BegunKept.{KeepsBegun, begun_same, begun_then, following_begun}
use Rattle.tipc_two_nodes.proofs.links.calls.Noticing.{outcome_turns}
use Rattle.tipc_two_nodes.specs.links.Turning.{TurnsEnd, goes_down, is_rise, goes_up, stays_so}
use Rattle.tipc_two_nodes.proofs.messages.Begun.{stepped_begun}
use Rattle.tipc_two_nodes.proofs.calls.TurnCourses.{following_numbers}
use Rattle.tipc_two_nodes.proofs.links.receiver.Quiet.{going_up as going_up_is}
use Rattle.tipc_two_nodes.proofs.links.calls.Ending.{reset_down}
use Rattle.tipc_two_nodes.proofs.deeds.Noticing.{forgot_down as forgets_down}

-- What became of the contact of a pair and of its begun message: no link is up then; the contact lasts, with the message; or one begins, and none
-- is begun in it.
pub data HeardSo (x q : PairEnds) : Type 0 where
  out : in_contact q ≡ false → HeardSo x q
  lasts : in_contact x ≡ true → q.contact ≡ x.contact → q.seen ≡ x.seen → q.begun ≡ x.begun → HeardSo x q
  begins : in_contact x ≡ false → q.contact ≡ x.contact → q.begun ≡ fresh → HeardSo x q

quiet_so : (x q : PairEnds) → GoesQuietly x q → KeepsBegun x q → HeardSo x q
quiet_so x q h k = elim (cases_Bool (in_contact q)) [
  | inr down ↦ out down
  | inl up ↦
      let contact = h.goes.contact up in
      lasts (h.stays up) contact h.goes.seen (elim k.begun [ inl same ↦ same | inr more ↦ absurd (let wrong : ⊥ = omega arith in wrong) ])
]

same_so : (x : PairEnds) → HeardSo x x
same_so x = quiet_so x x (quietly_same x x refl) (begun_same x x refl refl)

-- ---- a link goes up

switching_same : (z : PairEnds) (near far : LinkEnd) (s old : Option SessionEnd) → (switching z near far s old).pair.begun ≡ z.begun
switching_same z near far None old = refl
switching_same z near far (Some s) None = refl
switching_same z near far (Some s) (Some old) = refl

switch_same : (z : PairEnds) (near far : Option LinkEnd) → (switch_from z near far).pair.begun ≡ z.begun
switch_same z None far = refl
switch_same z (Some e) None = refl
switch_same z (Some e) (Some f) = switching_same z e f e.session f.session

beside_same : (z : PairEnds) → is_up_at z.far ≡ true → (gone_up z).pair.begun ≡ z.begun
beside_same z far = subst (λ t. (if t then (if z.bearer == 0 then switch z else rests z) else contact_begins z).pair.begun ≡ z.begun) (sym far)
    (elim (z.bearer == 0) as (λ t. (if t then switch z else rests z).pair.begun ≡ z.begun) [ true ↦ switch_same z z.near z.far | false ↦ refl ])

first_fresh : (z : PairEnds) → is_up_at z.far ≡ false → (gone_up z).pair.begun ≡ fresh
first_fresh z far = subst (λ t. (if t then (if z.bearer == 0 then switch z else rests z) else contact_begins z).pair.begun ≡ fresh) (sym far) refl

-- it was down before
rose_down : (held : Bool) (fsm : Fsm) (o : Outcome) → TurnsEnd held fsm o → o.change ≡ Up → is_up fsm.state ≡ false
rose_down held fsm o (goes_down cause change was after) up = absurd (let wrong : Down cause ≡ Up = sym change ∙ up in let no : ⊥ = cc in no)
rose_down held fsm o (goes_up change reset own after) up = reset_down fsm.state reset
rose_down held fsm o (stays_so rise down own after) up = absurd (let wrong : true ≡ false = sym (ap (λ k. is_rise k) up) ∙ rise in let no : ⊥ = cc in no)

up_so : (x z : PairEnds) (e : LinkEnd) (epoch : ℕ) → x.near ≡ Some e → is_up e.fsm.state ≡ false → z.far ≡ x.far → z.contact ≡ x.contact → z.seen ≡ x.seen → z.begun ≡ x.begun → HeardSo x (following z Up epoch).pair
up_so x z e epoch near down far contact seen begun =
    let numbers = following_numbers z Up epoch (λ is. absurd (let wrong : ⊥ = cc in wrong)) in
    elim (cases_Bool (is_up_at z.far)) [
      | inl up ↦ lasts (ap (λ a. is_up_at x.near || a) (ap is_up_at (sym far) ∙ up) ∙ or_true (is_up_at x.near)) (numbers.contact ∙ contact) (numbers.seen ∙ seen) (beside_same z up ∙ begun)
      | inr alone ↦ begins (ap (λ a. a || is_up_at x.far) (ap is_up_at near ∙ down) ∙ (ap is_up_at (sym far) ∙ alone)) (numbers.contact ∙ contact) (first_fresh z alone)
    ]

-- ---- a packet at the near link

met_so : (es er : ℕ) (p : Fields) (by : ℕ) (shown : BroadcastState) (x : PairEnds) (end : Option LinkEnd) → x.near ≡ end → HeardSo x (met_at es er p by shown x end).course.pair
met_so es er p by shown x None near = same_so x
met_so es er p by shown x (Some e) near =
    let held = is_up_at x.far in
    let o = outcome_of e.fsm p.header es er held in
    let z = with_near x (arrival_end e o p by) in
    subst (HeardSo x) (sym (then_pair (linked x e o p by shown) (λ y. following y o.change es)))
    (elim (cases_Bool (is_going_up o.change)) [
      | inr quiet ↦ quiet_so x (following z o.change es).pair (near_quietly x e (arrival_end e o p by) o es near (fsm_arrived e o p by) (outcome_holds e.fsm p.header es er held) quiet) (begun_then x z _ (begun_same x z refl refl) (following_begun z o.change es quiet))
      | inl rising ↦
          let up = going_up_is o.change rising in
          subst (λ k. HeardSo x (following z k es).pair) (sym up) (up_so x z e es near (rose_down held e.fsm o (outcome_turns p.header e.fsm es er held) up) refl refl refl refl)
    ])

-- ---- a RESET

given_begun : (es : ℕ) (held : Bool) (shown : BroadcastState) (x : PairEnds) (end : Option LinkEnd) → KeepsBegun x (reset_given es held shown x end).course.pair
given_begun es held shown x None = begun_same x x refl refl
given_begun es held shown x (Some e) = stepped_begun x e (on_reset e.fsm es held) es shown (reset_quiet e.fsm es held)

reset_begun : (es : ℕ) (shown : BroadcastState) (x : PairEnds) → KeepsBegun x (reset_near es shown x).course.pair
reset_begun es shown x =
    let held = is_up_at x.far in
    let first = (reset_given es held shown x x.near).course in
    let again = λ (y : PairEnds). reset_given es false shown y y.near in
    elim (is_down (reset_change es held x.near) && not held) as (λ b. KeepsBegun x (if b then behind first again else reset_given es held shown x x.near).course.pair) [
      | true ↦ subst (KeepsBegun x) (sym (then_pair first (λ y. (again y).course))) (begun_then x first.pair _ (given_begun es held shown x x.near) (given_begun es false shown first.pair first.pair.near))
      | false ↦ given_begun es held shown x x.near
    ]

-- ---- a higher contact number

pub risen_out : (x : PairEnds) (number : ℕ) → in_contact (risen x number).pair ≡ false
risen_out x number = elim (in_contact x) as (λ t. in_contact x ≡ t → in_contact (if t then contact_ends (record x { seen = number }) (x.contact, x.seen) number else rests (forgotten x number)).pair ≡ false) [
  | true ↦ λ up. not_in (record x { seen = number })
  | false ↦ λ none. ap (λ a. a || is_up_at (option_map (forgetting number) x.far)) (forgets_down number x.near (near_down x none)) ∙ forgets_down number x.far (far_down x none)
] refl

pub risen_contact : (x : PairEnds) (number : ℕ) → in_contact x ≡ false → (risen x number).pair.contact ≡ x.contact
risen_contact x number none = subst (λ t. (if t then contact_ends (record x { seen = number }) (x.contact, x.seen) number else rests (forgotten x number)).pair.contact ≡ x.contact) (sym none) refl

-- a RESET goes on then, and takes no link up
risen_reset : (x : PairEnds) (number es : ℕ) (shown : BroadcastState) → HeardSo x (behind (risen x number) (reset_near es shown)).course.pair
risen_reset x number es shown =
    let y = (risen x number).pair in
    let q = (reset_near es shown y).course.pair in
    subst (HeardSo x) (sym (then_pair (risen x number) (λ z. (reset_near es shown z).course))) (elim (cases_Bool (in_contact q)) [
      | inr down ↦ out down
      | inl up ↦ absurd (let wrong : true ≡ false = sym ((reset_goes es shown y).stays up) ∙ risen_out x number in let no : ⊥ = cc in no)
    ])

-- and an ACTIVATE, where no contact ended
risen_meets : (x : PairEnds) (number : ℕ) (hear : PairEnds → Heard) → in_contact x ≡ false → ((y : PairEnds) → HeardSo y (hear y).course.pair) → HeardSo x (behind (risen x number) hear).course.pair
risen_meets x number hear none meets =
    let y = (risen x number).pair in
    subst (HeardSo x) (sym (then_pair (risen x number) (λ z. (hear z).course))) (elim (meets y) [
      | out down ↦ out down
      | lasts up contact seen begun ↦ absurd (let wrong : true ≡ false = sym up ∙ risen_out x number in let no : ⊥ = cc in no)
      | begins down contact begun ↦ begins none (contact ∙ risen_contact x number none) begun
    ])

higher_so : (x : PairEnds) (number : ℕ) (hear : PairEnds → Heard) → ((y : PairEnds) → HeardSo y (hear y).course.pair) → HeardSo x (activate_higher number hear x).course.pair
higher_so x number hear meets = elim (in_contact x) as (λ t. in_contact x ≡ t → HeardSo x (activates t (risen x number) (behind (risen x number) hear)).course.pair) [
  | true ↦ λ up. out (risen_out x number)
  | false ↦ λ none. risen_meets x number hear none meets
] refl

number_so : (x : PairEnds) (number : ℕ) (same higher : Heard) → HeardSo x same.course.pair → HeardSo x higher.course.pair → HeardSo x (by_number x number same higher).course.pair
number_so x number same higher one two = elim (nat_lt number x.seen) as (λ b. HeardSo x (if b then passing x why.Contact else (if number == x.seen then same else higher)).course.pair) [
  | true ↦ same_so x
  | false ↦ elim (number == x.seen) as (λ b. HeardSo x (if b then same else higher).course.pair) [ true ↦ one | false ↦ two ]
]

-- ---- any packet

pub hears_so : (h : Header) (es er : ℕ) (p : Fields) (by : ℕ) (shown : BroadcastState) (x : PairEnds) → HeardSo x (hears h es er p by shown x).course.pair
hears_so (header.Reset said) es er p by shown x = number_so x said.contact (reset_near es shown x) (behind (risen x said.contact) (reset_near es shown)) (quiet_so x _ (reset_goes es shown x) (reset_begun es shown x)) (risen_reset x said.contact es shown)
hears_so (header.Activate said) es er p by shown x =
    let hear = met_near es er p by shown in
    number_so x said.contact (hear x) (activate_higher said.contact hear x) (met_so es er p by shown x x.near refl) (higher_so x said.contact hear (λ y. met_so es er p by shown y y.near refl))
hears_so (header.Discovery said) es er p by shown x = met_so es er p by shown x x.near refl
hears_so (header.State said) es er p by shown x = met_so es er p by shown x x.near refl
hears_so (header.Payload said) es er p by shown x = met_so es er p by shown x x.near refl
hears_so (header.Bundler said) es er p by shown x = met_so es er p by shown x x.near refl
hears_so (header.Changeover said) es er p by shown x = met_so es er p by shown x x.near refl
hears_so (header.NameDistributor said) es er p by shown x = met_so es er p by shown x x.near refl
hears_so (header.Fragmenter said) es er p by shown x = met_so es er p by shown x x.near refl

-- ---- the whole arrival

-- from the pair as it had heard the packet to the one then
pub opened_quietly : (x : PairEnds) (es er : ℕ) (p : Fields) (by : ℕ) (shown : BroadcastState) (c : Course) (given : PairOutcome) → Arrives x es er p by shown c given → GoesQuietly (hears p.header es er p by shown x).course.pair c.pair
opened_quietly x es er p by shown c given a =
    let heard = hears p.header es er p by shown x in
    subst (GoesQuietly heard.course.pair) (sym (arrived_pair x es er p by shown c given a)) (quietly_then heard.course.pair a.opened.pair (released a.opened.pair).pair (opens_goes heard.course.pair heard.outcome a.opened given a.opens) (released_goes a.opened.pair))
