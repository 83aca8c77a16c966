-- A packet that takes the near link of a pair neither down nor out of its contact leaves the contact numbers and that link's epoch as they are,
-- also where a tunnel packet takes the far link down.
use Rattle.std.proofs.Common.{◌≡◌, ◌≤◌, ◌&&◌, ◌==◌, ◌∷◌, not, ℕ, Bool, true, false, if◌then◌else◌, List, Option, Some, None, option_map, refl, sym, ap, ◌∙◌, subst, inl, inr, arith}
use Rattle.std.specs.Prelude.{nat_lt}
use Rattle.tipc_types.specs.LinkStates.{is_up}
use Rattle.tipc_types.specs.declared.link_words.BroadcastState.{BroadcastState}
use Rattle.tipc_types.specs.declared.packet_lists.Taken.{Taken}
use Rattle.tipc_header.specs.declared.packet.ChangeoverType.{ChangeoverType}
use Rattle.tipc_header.specs.declared.packet.ChangeoverType.TheVariants as kind
use Rattle.tipc_header.specs.declared.packet.Header.{Header}
use Rattle.tipc_header.specs.declared.packet.Header.TheVariants as header
use Rattle.tipc_header.specs.declared.packet.Reset.{Reset}
use Rattle.tipc_header.specs.Spelling.{Fields}
use Rattle.tipc_tunnel.specs.Tunnels.{Tunnelled}
use Rattle.tipc_recv_window.specs.declared.outcomes.LinkOutcome.{LinkOutcome}
use Rattle.tipc_link_fsm.specs.declared.changes.Change.{Change}
use Rattle.tipc_link_fsm.specs.declared.changes.Change.TheVariants.{Down, Up}
use Rattle.tipc_link_fsm.specs.Table.{Fsm, Outcome, is_held, is_in_reset, is_last, is_reset_reset, is_session, on_activate, on_traffic, release}
use Rattle.tipc_link_fsm.proofs.Moves.{cases_on}
use Rattle.tipc_link.specs.Links.{LinkEnd, after, arrival_end, heard_end, is_down, is_heard, outcome_of, tunnelled_down}
use Rattle.tipc_link.specs.Sessions.{SessionEnd, content_of}
use Rattle.tipc_pair.specs.declared.changes.PairOutcome.{PairOutcome}
use Rattle.tipc_pair.specs.Changeovers.{contact_begins, contact_ends, fail_over, fail_over_to, failing, following, gone_down, is_clear, let_go, let_go_frames, release_near, released, switch, switch_from, switching}
use Rattle.tipc_pair.specs.Courses.{Course, going_on, rests}
use Rattle.tipc_pair.specs.Facing.{PairEnds, is_up_at, other, turned, with_near}
use Rattle.tipc_pair.specs.PairArrivals.{Arrives, Heard, OpensInto, Unwraps, activate_higher, as_it_is, deferred, hears, ignored, inner_at, met, met_at, met_near, none_taken, opens, taken_down, tunnel, tunnelled_at, tunnelled_through}
use Rattle.tipc_pair.proofs.EndSteps.{fsm_after}
use Rattle.tipc_two_nodes.specs.links.Turning.{TurnsEnd, goes_down, goes_up, stays_so}
use Rattle.tipc_pair.proofs.HeldLaws.{far_stays}
use Rattle.tipc_two_nodes.proofs.links.calls.Noticing.{outcome_turns}
use Rattle.tipc_two_nodes.proofs.links.receiver.Quiet.{number_shown}
use Rattle.tipc_two_nodes.proofs.deeds.Opening.{tunnel_change}
use Rattle.tipc_two_nodes.proofs.deeds.Pairs.{other_twice, up_end}
use Rattle.tipc_two_nodes.proofs.calls.QuietCourses.{released_numbers}

-- ---- pairs

-- the epoch of an end, where it is made
abbrev pub own_of : Option LinkEnd → Option ℕ
own_of o = option_map (λ (e : LinkEnd). e.fsm.own) o

pub record IsSteady (x y : PairEnds) : Type 0 where
  pub bearer : y.bearer ≡ x.bearer
  pub contact : y.contact ≡ x.contact
  pub seen : y.seen ≡ x.seen
  pub own : own_of y.near ≡ own_of x.near

steady_same : (x : PairEnds) → IsSteady x x
steady_same x = record { bearer = refl; contact = refl; seen = refl; own = refl }

steady_then : (x y z : PairEnds) → IsSteady x y → IsSteady y z → IsSteady x z
steady_then x y z h k = record { bearer = k.bearer ∙ h.bearer; contact = k.contact ∙ h.contact; seen = k.seen ∙ h.seen; own = k.own ∙ h.own }

steady_near : (x : PairEnds) (e e' : LinkEnd) → x.near ≡ Some e → e'.fsm.own ≡ e.fsm.own → IsSteady x (with_near x e')
steady_near x e e' is own = record { bearer = refl; contact = refl; seen = refl; own = ap Some own ∙ ap own_of (sym is) }

-- ---- what follows a change, but for a link that goes down

switching_steady : (z : PairEnds) (near far : LinkEnd) (s old : Option SessionEnd) → z.near ≡ Some near → IsSteady z (switching z near far s old).pair
switching_steady z near far None old is = steady_same z
switching_steady z near far (Some s) None is = steady_same z
switching_steady z near far (Some s) (Some old) is = record { bearer = refl; contact = refl; seen = refl; own = ap own_of (sym is) }

switch_steady : (z : PairEnds) (near far : Option LinkEnd) → z.near ≡ near → IsSteady z (switch_from z near far).pair
switch_steady z None far is = steady_same z
switch_steady z (Some e) None is = steady_same z
switch_steady z (Some e) (Some f) is = switching_steady z e f e.session f.session is

following_steady : (z : PairEnds) (k : Change) (epoch : ℕ) → is_down k ≡ false → IsSteady z (following z k epoch).pair
following_steady z Up epoch quiet = elim (is_up_at z.far) as (λ t. IsSteady z (if t then (if z.bearer == 0 then switch z else rests z) else contact_begins z).pair) [
  | true ↦ elim (z.bearer == 0) as (λ t. IsSteady z (if t then switch z else rests z).pair) [ true ↦ switch_steady z z.near z.far refl | false ↦ steady_same z ]
  | false ↦ record { bearer = refl; contact = refl; seen = refl; own = refl }
]
following_steady z (Down cause) epoch quiet = absurd (let wrong : ⊥ = cc in wrong)
following_steady z other epoch quiet = steady_same z

-- ---- a packet of any kind but a RESET

abbrev pub not_reset : Header → Bool
not_reset (header.Reset said) = false
not_reset other = true

activate_quiet : (fsm : Fsm) (es er : ℕ) → is_down (on_activate fsm es er).change ≡ false
unfolding on_activate
activate_quiet fsm es er =
    let P : Outcome → Type 0 = λ o. is_down o.change ≡ false in
    cases_on P (is_held fsm.state) _ _ (λ _. refl) (λ _.
    cases_on P ((is_in_reset fsm.state && not (is_last fsm.own)) && ((er == fsm.own) && not (nat_lt es fsm.highest))) _ _ (λ _. refl) (λ _.
    cases_on P (is_up fsm.state && is_session fsm es er) _ _ (λ _. refl) (λ _. refl)))

traffic_quiet : (fsm : Fsm) (es er : ℕ) → is_down (on_traffic fsm es er).change ≡ false
unfolding on_traffic
traffic_quiet fsm es er =
    let P : Outcome → Type 0 = λ o. is_down o.change ≡ false in
    cases_on P (is_session fsm es er && (is_reset_reset fsm.state && not (is_last fsm.own))) _ _ (λ _. refl) (λ _. cases_on P (is_session fsm es er && is_up fsm.state) _ _ (λ _. refl) (λ _. refl))

pub outcome_quiet : (h : Header) (fsm : Fsm) (es er : ℕ) (held : Bool) → not_reset h ≡ true → is_down (outcome_of fsm h es er held).change ≡ false
outcome_quiet (header.Reset said) fsm es er held other = absurd (let wrong : ⊥ = cc in wrong)
outcome_quiet (header.Activate said) fsm es er held other = activate_quiet fsm es er
outcome_quiet (header.Discovery said) fsm es er held other = refl
outcome_quiet (header.State said) fsm es er held other = traffic_quiet fsm es er
outcome_quiet (header.Payload said) fsm es er held other = traffic_quiet fsm es er
outcome_quiet (header.Bundler said) fsm es er held other = traffic_quiet fsm es er
outcome_quiet (header.Changeover said) fsm es er held other = traffic_quiet fsm es er
outcome_quiet (header.NameDistributor said) fsm es er held other = traffic_quiet fsm es er
outcome_quiet (header.Fragmenter said) fsm es er held other = traffic_quiet fsm es er

-- the end keeps its epoch
turn_own : (held : Bool) (fsm : Fsm) (o : Outcome) → TurnsEnd held fsm o → is_down o.change ≡ false → o.after.own ≡ fsm.own
turn_own held fsm o (goes_down cause down up low) quiet = absurd (let wrong : true ≡ false = sym (ap is_down down) ∙ quiet in let no : ⊥ = cc in no)
turn_own held fsm o (goes_up up reset own state) quiet = own
turn_own held fsm o (stays_so other so own state) quiet = own

arrival_own : (e : LinkEnd) (o : Outcome) (p : Fields) (by : ℕ) → o.after.own ≡ e.fsm.own → (arrival_end e o p by).fsm.own ≡ e.fsm.own
arrival_own e o p by own =
    let same : (after e o).fsm.own ≡ e.fsm.own = ap (λ (f : Fsm). f.own) (fsm_after e o) ∙ own in
    elim (is_heard p.header o.change) as (λ t. (if t then heard_end (after e o) by p.acknowledgement (content_of p) else after e o).fsm.own ≡ e.fsm.own) [ true ↦ same | false ↦ same ]

met_steady : (x : PairEnds) (e : LinkEnd) (o : Outcome) (p : Fields) (es by : ℕ) (shown : BroadcastState) → x.near ≡ Some e → o.after.own ≡ e.fsm.own → is_down o.change ≡ false → IsSteady x (met x e o p es by shown).course.pair
unfolding going_on
met_steady x e o p es by shown is own quiet =
    let d = arrival_end e o p by in
    let z = with_near x d in
    steady_then x z (following z o.change es).pair (steady_near x e d is (arrival_own e o p by own)) (following_steady z o.change es quiet)

met_at_steady : (x : PairEnds) (o : Option LinkEnd) (es er : ℕ) (p : Fields) (by : ℕ) (shown : BroadcastState) → x.near ≡ o → not_reset p.header ≡ true → IsSteady x (met_at es er p by shown x o).course.pair
met_at_steady x None es er p by shown is other = steady_same x
met_at_steady x (Some e) es er p by shown is other =
    let held = is_up_at x.far in
    let o = outcome_of e.fsm p.header es er held in
    let quiet = outcome_quiet p.header e.fsm es er held other in
    met_steady x e o p es by shown is (turn_own held e.fsm o (outcome_turns p.header e.fsm es er held) quiet) quiet

-- an ACTIVATE shows no higher contact number than the highest seen
abbrev pub ShowsNoHigher : Header → ℕ → Type 0
ShowsNoHigher h seen = (said : Reset) → h ≡ header.Activate said → said.contact ≤ seen

pub hears_steady : (h : Header) (x : PairEnds) (es er : ℕ) (p : Fields) (by : ℕ) (shown : BroadcastState) → p.header ≡ h → not_reset h ≡ true → ShowsNoHigher h x.seen → IsSteady x (hears h es er p by shown x).course.pair
hears_steady (header.Reset said) x es er p by shown is other low = absurd (let wrong : ⊥ = cc in wrong)
hears_steady (header.Activate said) x es er p by shown is other low =
    number_shown (λ (m : Heard). IsSteady x m.course.pair) x said.contact (met_near es er p by shown x) (activate_higher said.contact (met_near es er p by shown) x) (steady_same x)
    (λ _. met_at_steady x x.near es er p by shown refl (ap not_reset is)) (λ higher. absurd (let few = low said refl in let wrong : ⊥ = omega arith in wrong))
hears_steady other x es er p by shown is quiet low = met_at_steady x x.near es er p by shown refl (ap not_reset is)

-- ---- a tunnel packet takes the far link down

record IsSteadyFar (x y : PairEnds) : Type 0 where
  bearer : y.bearer ≡ x.bearer
  contact : y.contact ≡ x.contact
  seen : y.seen ≡ x.seen
  own : own_of y.far ≡ own_of x.far

failing_steady : (z : PairEnds) (near far : LinkEnd) (lost s : Option SessionEnd) → z.far ≡ Some far → IsSteadyFar z (failing z near far lost s).pair
failing_steady z near far None s is = record { bearer = refl; contact = refl; seen = refl; own = refl }
failing_steady z near far (Some lost) None is = record { bearer = refl; contact = refl; seen = refl; own = refl }
failing_steady z near far (Some lost) (Some s) is = record { bearer = refl; contact = refl; seen = refl; own = ap own_of (sym is) }

tunnelled_steady : (x : PairEnds) (o : Option LinkEnd) (epoch : ℕ) → is_up_at x.far ≡ true → IsSteadyFar x (tunnelled_at epoch x o).pair
tunnelled_steady x None epoch up = record { bearer = refl; contact = refl; seen = refl; own = refl }
tunnelled_steady x (Some e) epoch up =
    let d = tunnelled_down e epoch in
    let z = with_near x d in
    elim (tunnel_change e.fsm epoch) [
      | inl stay ↦ subst (λ c. IsSteadyFar x (following z c epoch).pair) (sym stay) (record { bearer = refl; contact = refl; seen = refl; own = refl })
      | inr down ↦
          let at = up_end x.far up in
          let same : gone_down z ≡ failing z d at.0 d.session at.0.session = ap (λ t. if t then fail_over z else contact_ends z (z.contact, z.seen) 0) up ∙ ap (fail_over_to z (Some d)) at.1 in
          let k = failing_steady z d at.0 d.session at.0.session at.1 in
          subst (λ c. IsSteadyFar x (following z c epoch).pair) (sym down.1) (subst (λ (c : Course). IsSteadyFar x c.pair) (sym same) (record { bearer = k.bearer; contact = k.contact; seen = k.seen; own = k.own }))
    ]

taken_down_steady : (x : PairEnds) (kind_is : ChangeoverType) (epoch : ℕ) → x.bearer ≤ 1 → is_up_at x.near ≡ true → IsSteady x (taken_down kind_is epoch x).pair
taken_down_steady x kind.Duplicate epoch two up = steady_same x
taken_down_steady x kind.Original epoch two up =
    let h = tunnelled_steady (turned x) x.far epoch up in
    record { bearer = ap other h.bearer ∙ other_twice x.bearer two; contact = h.contact; seen = h.seen; own = h.own }

inner_steady : (x : PairEnds) (o : Option LinkEnd) (t : Tunnelled) (by : ℕ) → IsSteady x (inner_at t by x o).pair
inner_steady x None t by = steady_same x
inner_steady x (Some e) t by = record { bearer = refl; contact = refl; seen = refl; own = refl }

through_steady : (x : PairEnds) (t : Tunnelled) (by : ℕ) → x.bearer ≤ 1 → is_up_at x.near ≡ true → IsSteady x (tunnelled_through x t by).pair
unfolding going_on
through_steady x t by two up =
    let z = (taken_down t.kind t.old.epoch x).pair in
    steady_then x z (inner_at t by z z.far).pair (taken_down_steady x t.kind t.old.epoch two up) (inner_steady z z.far t by)

-- ---- what the near link took is opened

unwraps_steady : (x : PairEnds) (taken : List Taken) (c : Course) (carried : List Taken) → x.bearer ≤ 1 → ((first : Taken) (others : List Taken) → taken ≡ first ∷ others → is_up_at x.near ≡ true) → Unwraps x taken c carried → IsSteady x c.pair
unwraps_steady x _ _ _ two up none_taken = steady_same x
unwraps_steady x _ _ _ two up (as_it_is first others plain) = steady_same x
unwraps_steady x _ _ _ two up (tunnel first others t speaks) = through_steady x t first.by two (up first others refl)

pub opens_steady : (x : PairEnds) (o : LinkOutcome) (c : Course) (given : PairOutcome) → x.bearer ≤ 1 → ((first : Taken) (others : List Taken) → o ≡ LinkOutcome.Took (first ∷ others) → is_up_at x.near ≡ true) → OpensInto x o c given → IsSteady x c.pair
opens_steady x _ _ _ two up (opens u brings) =
    let k = unwraps_steady x _ _ _ two (λ first others is. up first others (ap LinkOutcome.Took is)) u in
    record { bearer = k.bearer; contact = k.contact; seen = k.seen; own = k.own }
opens_steady x _ _ _ two up deferred = steady_same x
opens_steady x _ _ _ two up ignored = steady_same x

-- ---- ends are released

let_go_own : (o : Option LinkEnd) → own_of (option_map let_go o) ≡ own_of o
unfolding release
let_go_own None = refl
let_go_own (Some e) = cases_on (λ (o : Outcome). Some o.after.own ≡ Some e.fsm.own) (is_held e.fsm.state) _ _ (λ _. refl) (λ _. refl)

release_own : (x : PairEnds) → own_of (release_near x).pair.near ≡ own_of x.near
release_own x = elim (is_clear x.far) as (λ t. own_of (if t then record (rests (record x { near = option_map let_go x.near })) { states = let_go_frames x.near } else rests x).pair.near ≡ own_of x.near) [
  | true ↦ let_go_own x.near
  | false ↦ refl
]

pub released_steady : (x : PairEnds) → x.bearer ≤ 1 → IsSteady x (released x).pair
unfolding released going_on
released_steady x two =
    let n = released_numbers x two in
    let y = (release_near x).pair in
    record { bearer = n.bearer; contact = n.contact; seen = n.seen; own = ap own_of (far_stays (turned y)) ∙ release_own x }

-- ---- a whole arrival

pub arrival_steady : (x : PairEnds) (es er : ℕ) (p : Fields) (by : ℕ) (shown : BroadcastState) (c : Course) (given : PairOutcome) → x.bearer ≤ 1 → not_reset p.header ≡ true → ShowsNoHigher p.header x.seen
    → ((first : Taken) (others : List Taken) → (hears p.header es er p by shown x).outcome ≡ LinkOutcome.Took (first ∷ others) → is_up_at (hears p.header es er p by shown x).course.pair.near ≡ true)
    → Arrives x es er p by shown c given → IsSteady x c.pair
unfolding going_on
arrival_steady x es er p by shown c given two other low up a =
    let m = hears p.header es er p by shown x in
    let z = m.course.pair in
    let one = hears_steady p.header x es er p by shown refl other low in
    let two_then : z.bearer ≤ 1 = subst (λ n. n ≤ 1) (sym one.bearer) two in
    let more = opens_steady z m.outcome a.opened given two_then up a.opens in
    let both = steady_then x z a.opened.pair one more in
    let last = released_steady a.opened.pair (subst (λ n. n ≤ 1) (sym both.bearer) two) in
    subst (λ (d : Course). IsSteady x d.pair) (sym a.course) (steady_then x a.opened.pair (released a.opened.pair).pair both last)
