-- The near link of a pair stays up, with the same states, while packets that it took are opened and ends are released.
use Rattle.std.proofs.Common.{◌≡◌, ◌∷◌, ℕ, Bool, true, false, if◌then◌else◌, List, [], Option, Some, None, option_map, refl, sym, ap, ◌∙◌, subst, inl, inr}
use Rattle.tipc_types.specs.LinkStates.{is_up}
use Rattle.tipc_types.specs.declared.link_words.BroadcastState.{BroadcastState}
use Rattle.tipc_types.specs.declared.link_words.LinkState.{LinkState}
use Rattle.tipc_types.specs.declared.link_words.LinkState.TheVariants.{ResetUnknown, ResetReset, WorkingWorking, WorkingUnknown}
use Rattle.tipc_types.specs.declared.link_words.LinkState.TheVariants as link
use Rattle.tipc_types.specs.declared.packet_lists.Taken.{Taken}
use Rattle.tipc_header.specs.declared.packet.ChangeoverType.{ChangeoverType}
use Rattle.tipc_header.specs.declared.packet.ChangeoverType.TheVariants as kind
use Rattle.tipc_header.specs.Spelling.{Fields}
use Rattle.tipc_tunnel.specs.Tunnels.{Tunnelled}
use Rattle.tipc_recv_window.specs.declared.outcomes.LinkOutcome.{LinkOutcome}
use Rattle.tipc_link_fsm.specs.Table.{Fsm, Outcome, is_held, release}
use Rattle.tipc_link_fsm.proofs.Moves.{cases_on}
use Rattle.tipc_link.specs.Links.{LinkEnd, tunnelled_down}
use Rattle.tipc_link.specs.Sessions.{SessionEnd}
use Rattle.tipc_pair.specs.declared.changes.PairOutcome.{PairOutcome}
use Rattle.tipc_pair.specs.Changeovers.{contact_ends, fail_over, fail_over_to, failing, following, gone_down, is_clear, let_go, let_go_frames, release_near, released}
use Rattle.tipc_pair.specs.Courses.{Course, going_on, rests}
use Rattle.tipc_pair.specs.Facing.{PairEnds, in_contact, is_up_at, turned, with_near}
use Rattle.tipc_pair.specs.PairArrivals.{Arrives, OpensInto, Unwraps, as_it_is, deferred, hears, ignored, inner_at, none_taken, opens, taken_down, tunnel, tunnelled_at, tunnelled_through}
use Rattle.tipc_two_nodes.specs.links.Arriving.{Gives, brings, ignores, waits}
use Rattle.tipc_pair.proofs.HeldLaws.{far_stays}
use Rattle.tipc_two_nodes.proofs.deeds.Opening.{tunnel_change}
use Rattle.tipc_two_nodes.proofs.deeds.Pairs.{up_end}
use Rattle.tipc_pair.proofs.turns.Moves.{by_near as up_contact}

-- ---- the states of a link

-- the link states of an end, where it is made
abbrev pub states_at : Option LinkEnd → Option Fsm
states_at end = option_map (λ (e : LinkEnd). e.fsm) end

abbrev up_in : Option Fsm → Bool
up_in None = false
up_in (Some f) = is_up f.state

up_of : (end : Option LinkEnd) → is_up_at end ≡ up_in (states_at end)
up_of None = refl
up_of (Some e) = refl

up_by : (a b : Option LinkEnd) → states_at a ≡ states_at b → is_up_at b ≡ true → is_up_at a ≡ true
up_by a b same up = up_of a ∙ (ap up_in same ∙ (sym (up_of b) ∙ up))

-- ---- the far link goes down

failing_same : (z : PairEnds) (near far : LinkEnd) (lost s : Option SessionEnd) → z.far ≡ Some far → states_at (failing z near far lost s).pair.far ≡ states_at z.far
failing_same z near far None s is = refl
failing_same z near far (Some lost) None is = refl
failing_same z near far (Some lost) (Some s) is = sym (ap states_at is)

tunnelled_same : (x : PairEnds) (o : Option LinkEnd) (epoch : ℕ) → is_up_at x.far ≡ true → states_at (tunnelled_at epoch x o).pair.far ≡ states_at x.far
tunnelled_same x None epoch up = refl
tunnelled_same x (Some e) epoch up =
    let d = tunnelled_down e epoch in
    let z = with_near x d in
    elim (tunnel_change e.fsm epoch) [
      | inl stay ↦ subst (λ c. states_at (following z c epoch).pair.far ≡ states_at x.far) (sym stay) refl
      | inr down ↦
          let at = up_end x.far up in
          let same : gone_down z ≡ failing z d at.0 d.session at.0.session = ap (λ t. if t then fail_over z else contact_ends z (z.contact, z.seen) 0) up ∙ ap (fail_over_to z (Some d)) at.1 in
          subst (λ c. states_at (following z c epoch).pair.far ≡ states_at x.far) (sym down.1) (subst (λ (c : Course). states_at c.pair.far ≡ states_at x.far) (sym same) (failing_same z d at.0 d.session at.0.session at.1))
    ]

taken_down_same : (x : PairEnds) (kind_is : ChangeoverType) (epoch : ℕ) → is_up_at x.near ≡ true → states_at (taken_down kind_is epoch x).pair.near ≡ states_at x.near
taken_down_same x kind.Duplicate epoch up = refl
taken_down_same x kind.Original epoch up = tunnelled_same (turned x) x.far epoch up

inner_same : (x : PairEnds) (o : Option LinkEnd) (t : Tunnelled) (by : ℕ) → states_at (inner_at t by x o).pair.near ≡ states_at x.near
inner_same x None t by = refl
inner_same x (Some e) t by = refl

through_same : (x : PairEnds) (t : Tunnelled) (by : ℕ) → is_up_at x.near ≡ true → states_at (tunnelled_through x t by).pair.near ≡ states_at x.near
unfolding going_on
through_same x t by up = (let z = (taken_down t.kind t.old.epoch x).pair in inner_same z z.far t by ∙ taken_down_same x t.kind t.old.epoch up)

-- ---- what the near link took is opened

unwraps_same : (x : PairEnds) (taken : List Taken) (c : Course) (carried : List Taken) → Unwraps x taken c carried → is_up_at x.near ≡ true → states_at c.pair.near ≡ states_at x.near
unwraps_same x _ _ _ none_taken up = refl
unwraps_same x _ _ _ (as_it_is first others plain) up = refl
unwraps_same x _ _ _ (tunnel first others t speaks) up = through_same x t first.by up

opens_same : (x : PairEnds) (o : LinkOutcome) (c : Course) (given : PairOutcome) → OpensInto x o c given → is_up_at x.near ≡ true → states_at c.pair.near ≡ states_at x.near
opens_same x _ _ _ (opens u all) up = unwraps_same x _ _ _ u up
opens_same x _ _ _ deferred up = refl
opens_same x _ _ _ ignored up = refl

-- ---- ends are released

held_down : (s : LinkState) → is_held s ≡ true → is_up s ≡ true → ⊥
held_down ResetUnknown held up = (let wrong : ⊥ = cc in wrong)
held_down ResetReset held up = (let wrong : ⊥ = cc in wrong)
held_down WorkingWorking held up = (let wrong : ⊥ = cc in wrong)
held_down WorkingUnknown held up = (let wrong : ⊥ = cc in wrong)
held_down link.Held held up = (let wrong : ⊥ = cc in wrong)

let_go_same : (o : Option LinkEnd) → is_up_at o ≡ true → states_at (option_map let_go o) ≡ states_at o
unfolding release
let_go_same None up = refl
let_go_same (Some e) up = cases_on (λ (o : Outcome). Some o.after ≡ Some e.fsm) (is_held e.fsm.state) _ _ (λ held. absurd (held_down e.fsm.state held up)) (λ _. refl)

release_same : (x : PairEnds) → is_up_at x.near ≡ true → states_at (release_near x).pair.near ≡ states_at x.near
release_same x up = elim (is_clear x.far) as (λ t. states_at (if t then record (rests (record x { near = option_map let_go x.near })) { states = let_go_frames x.near } else rests x).pair.near ≡ states_at x.near) [
  | true ↦ let_go_same x.near up
  | false ↦ refl
]

released_same : (x : PairEnds) → is_up_at x.near ≡ true → states_at (released x).pair.near ≡ states_at x.near
unfolding released going_on
released_same x up = (let y = (release_near x).pair in ap states_at (far_stays (turned y)) ∙ release_same x up)

-- ---- an arrival

-- where the near link was up when packets were opened, its states are the same then
pub arrival_same : (x : PairEnds) (es er : ℕ) (p : Fields) (by : ℕ) (shown : BroadcastState) (c : Course) (given : PairOutcome) → Arrives x es er p by shown c given → is_up_at (hears p.header es er p by shown x).course.pair.near ≡ true
    → states_at c.pair.near ≡ states_at (hears p.header es er p by shown x).course.pair.near
unfolding going_on
arrival_same x es er p by shown c given a up =
    let m = hears p.header es er p by shown x in
    let opened = opens_same m.course.pair m.outcome a.opened given a.opens up in
    let still = up_by a.opened.pair.near m.course.pair.near opened up in
    subst (λ (d : Course). states_at d.pair.near ≡ states_at m.course.pair.near) (sym a.course) (released_same a.opened.pair still ∙ opened)

-- and the pair is in contact
pub arrival_up : (x : PairEnds) (es er : ℕ) (p : Fields) (by : ℕ) (shown : BroadcastState) (c : Course) (given : PairOutcome) → Arrives x es er p by shown c given → is_up_at (hears p.header es er p by shown x).course.pair.near ≡ true → in_contact c.pair ≡ true
arrival_up x es er p by shown c given a up =
    let m = hears p.header es er p by shown x in
    up_contact c.pair (up_by c.pair.near m.course.pair.near (arrival_same x es er p by shown c given a up) up)

-- what gives nothing, where the near link took nothing
pub nothing_given : (x : PairEnds) (o : LinkOutcome) (c : Course) (given : PairOutcome) → ((first : Taken) (others : List Taken) → o ≡ LinkOutcome.Took (first ∷ others) → ⊥) → OpensInto x o c given → Gives x.begun [] given c.pair.begun
nothing_given x _ _ _ none (opens none_taken all) = brings all
nothing_given x _ _ _ none (opens (as_it_is first others plain) all) = absurd (none first others refl)
nothing_given x _ _ _ none (opens (tunnel first others t speaks) all) = absurd (none first others refl)
nothing_given x _ _ _ none deferred = waits
nothing_given x _ _ _ none ignored = ignores
