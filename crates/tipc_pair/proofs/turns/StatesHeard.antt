-- A STATE that is given was heard by a link that is up, in the session that its frame names; and that link is still up after the arrival.
use Rattle.std.specs.Prelude.{◌&&◌, not, if◌then◌else◌}
use Rattle.std.proofs.lemmas.Bool.{and_parts}
use Rattle.std.proofs.Common.{◌≡◌, ◌≤◌, ◌⊎◌, ◌∙◌, ℕ, true, List, [], Option, Some, None, refl, sym, subst, ap, arith, inl, inr}
use Rattle.tipc_types.specs.LinkStates.{is_up}
use Rattle.tipc_types.specs.declared.link_words.BroadcastState.{BroadcastState}
use Rattle.tipc_types.specs.declared.link_words.Why.{Why}
use Rattle.tipc_types.specs.declared.link_words.Why.TheVariants as why
use Rattle.tipc_types.specs.declared.packet_lists.Taken.{Taken}
use Rattle.tipc_header.specs.declared.packet.Header.TheVariants as header
use Rattle.tipc_header.specs.declared.packet.State.{State}
use Rattle.tipc_header.specs.Spelling.{Fields}
use Rattle.tipc_fragments.specs.Joining.{Joining}
use Rattle.tipc_reassembly.specs.declared.opening.Opened.{Opened}
use Rattle.tipc_reassembly.specs.Opening.{BringsAll}
use Rattle.tipc_reassembly.specs.Opening.BringsAll.{go_on as brings_more, none as brings_nothing}
use Rattle.tipc_recv_window.specs.declared.outcomes.LinkOutcome.{LinkOutcome}
use Rattle.tipc_link_fsm.specs.declared.changes.Change.{Change}
use Rattle.tipc_link_fsm.specs.declared.changes.Change.TheVariants.{Ignore, Stay, Up}
use Rattle.tipc_link_fsm.specs.Table.{Fsm, Outcome, is_last, is_reset_reset, is_session, on_traffic}
use Rattle.tipc_link_fsm.proofs.Moves.{cases_on}
use Rattle.tipc_link.specs.Links.{LinkEnd, after, arrival_end, change_outcome, heard_outcome, is_heard, is_taken, link_outcome}
use Rattle.tipc_link.specs.Sessions.{SessionEnd, content_of}
use Rattle.tipc_pair.specs.declared.changes.PairOutcome.{PairOutcome}
use Rattle.tipc_pair.specs.Changeovers.{following, is_clear, release_near, released}
use Rattle.tipc_pair.specs.Courses.{Course, going_on}
use Rattle.tipc_pair.specs.Facing.{PairEnds, facing, is_up_at, turned, with_near}
use Rattle.tipc_pair.specs.PairTurns.{Happened, Opening, Outset}
use Rattle.tipc_pair.specs.PairArrivals.{Arrives, OpensInto, Unwraps, as_it_is, deferred, ignored, linked, met_at, none_taken, opens, tunnel, with_bytes}
use Rattle.tipc_pair.proofs.ArrivalLaws.{arrived_pair}
use Rattle.tipc_pair.proofs.CourseLaws.{then_pair}
use Rattle.tipc_pair.proofs.EndSteps.{fsm_arrived}
use Rattle.tipc_pair.proofs.HeldLaws.{far_stays, gone_up_shape, let_go_up}
use Rattle.tipc_pair.proofs.Facings.{facing_back, facing_two}
use Rattle.tipc_pair.proofs.acts.Acts.{Act}
use Rattle.tipc_pair.proofs.acts.Acting.{MayArrive, arrives_ran, hears_may, opens_may, ran_bearer}
use Rattle.tipc_pair.proofs.acts.Walks.{tested}
use Rattle.tipc_pair.proofs.turns.PairKept.{facing_bearer}

-- The end of the near link, as it was before, heard it in its session; and the link is up after the arrival.
pub record IsHeardState (x : PairEnds) (es er : ℕ) (c : Course) (opened : List Opened) : Type 0 where
  pub end : LinkEnd
  pub near : x.near ≡ Some end
  pub session : is_session end.fsm es er ≡ true
  pub taken : is_taken (on_traffic end.fsm es er).change ≡ true
  pub up : is_up_at c.pair.near ≡ true
  pub none : opened ≡ []

-- what the link states make of it: the link is up then, or it is ignored
pub record IsTraffic (f : Fsm) (es er : ℕ) (o : Outcome) : Type 0 where
  pub session : is_session f es er ≡ true
  pub taken : (o.change ≡ Up) ⊎ (o.change ≡ Stay)
  pub up : is_up o.after.state ≡ true

pub traffic : (f : Fsm) (es er : ℕ) → IsTraffic f es er (on_traffic f es er) ⊎ ((on_traffic f es er).change ≡ Ignore why.Epoch)
unfolding on_traffic
traffic f es er =
    let P : Outcome → Type 0 = λ o. IsTraffic f es er o ⊎ (o.change ≡ Ignore why.Epoch) in
    cases_on P (is_session f es er && (is_reset_reset f.state && not (is_last f.own))) _ _
    (λ both. inl (record { session = (and_parts (is_session f es er) _ both).0; taken = inl refl; up = refl }))
    (λ _. cases_on P (is_session f es er && is_up f.state) _ _ (λ both. inl (record { session = (and_parts (is_session f es er) _ both).0; taken = inr refl; up = refl })) (λ _. inr refl))

-- ---- what was taken

-- what isn't ignored wasn't ignored by the link
not_ignored : (y : PairEnds) (outcome : LinkOutcome) (d : Course) (given : PairOutcome) (opened : List Opened) (reason : Why) → OpensInto y outcome d given → given ≡ PairOutcome.Took opened → outcome ≡ LinkOutcome.Ignored reason → ⊥
not_ignored y _ _ _ opened reason (opens {taken} {carried} {c} {given} {last} unwraps brings) took is = cc
not_ignored y _ _ _ opened reason deferred took is = cc
not_ignored y _ _ _ opened reason ignored took is = cc

unwraps_none : (y : PairEnds) (taken carried : List Taken) (d : Course) → Unwraps y taken d carried → taken ≡ [] → (d.pair ≡ y) × (carried ≡ [])
unwraps_none y _ _ _ none_taken none = (refl, refl)
unwraps_none y _ _ _ (as_it_is first others apart) none = absurd (let wrong : ⊥ = cc in wrong)
unwraps_none y _ _ _ (tunnel first others t speaks) none = absurd (let wrong : ⊥ = cc in wrong)

brings_none : (begun last : Joining) (taken : List Taken) (given : List Opened) → BringsAll begun taken given last → taken ≡ [] → given ≡ []
brings_none begun last _ _ brings_nothing none = refl
brings_none begun last _ _ (brings_more first more) none = absurd (let wrong : ⊥ = cc in wrong)

-- nothing is opened where nothing was taken, and the near end stays
opens_none : (y : PairEnds) (outcome : LinkOutcome) (d : Course) (given : PairOutcome) (opened : List Opened) → OpensInto y outcome d given → outcome ≡ LinkOutcome.Took [] → given ≡ PairOutcome.Took opened → (d.pair.near ≡ y.near) × (opened ≡ [])
opens_none y _ _ _ opened (opens {taken = taken} {carried = carried} {c = c} {given = given} {last = last} unwraps brings) none took =
    let taken_none : taken ≡ [] = cc in
    let same : given ≡ opened = cc in
    let u = unwraps_none y taken carried c unwraps taken_none in
    (ap (λ (z : PairEnds). z.near) u.0, sym same ∙ brings_none c.pair.begun last (with_bytes carried) given brings (ap with_bytes u.1))
opens_none y _ _ _ opened deferred none took = absurd (let wrong : ⊥ = cc in wrong)
opens_none y _ _ _ opened ignored none took = absurd (let wrong : ⊥ = cc in wrong)

-- ---- the near link stays up

follows_up : (y : PairEnds) (change : Change) (epoch : ℕ) → (change ≡ Up) ⊎ (change ≡ Stay) → is_up_at (following y change epoch).pair.near ≡ is_up_at y.near
follows_up y change epoch taken = elim taken [
  | inl up ↦ subst (λ k. is_up_at (following y k epoch).pair.near ≡ is_up_at y.near) (sym up) (gone_up_shape y).near_up
  | inr stay ↦ subst (λ k. is_up_at (following y k epoch).pair.near ≡ is_up_at y.near) (sym stay) refl
]

release_up : (y : PairEnds) → is_up_at (release_near y).pair.near ≡ is_up_at y.near
release_up y = tested (λ (d : Course). is_up_at d.pair.near ≡ is_up_at y.near) (is_clear y.far) _ _ (λ _. let_go_up y.near) (λ _. refl)

released_up : (y : PairEnds) → is_up_at (released y).pair.near ≡ is_up_at y.near
unfolding released going_on
released_up y = ap is_up_at (far_stays (turned (release_near y).pair)) ∙ release_up y

-- ---- the arrival

-- a packet with this header
abbrev stated : Fields → State → Fields
stated q said = record q { header = header.State said }

module _ (x : PairEnds) (es er : ℕ) (q : Fields) (said : State) (by : ℕ) (shown : BroadcastState) (c : Course) (opened : List Opened) (a : Arrives x es er (stated q said) by shown c (PairOutcome.Took opened)) where
  heard_none : (session : Option SessionEnd) → heard_outcome session by (content_of (stated q said)) ≡ LinkOutcome.Took []
  unfolding content_of
  heard_none None = refl
  heard_none (Some s) = refl

  at_end : (e : LinkEnd) → x.near ≡ Some e → IsHeardState x es er c opened
  at_end e near = elim (traffic e.fsm es er) [
    | inl t ↦
        let took : link_outcome e o p by ≡ LinkOutcome.Took [] = ap (λ b. if b then heard_outcome (after e o).session by (content_of p) else change_outcome o.change) (heard t) ∙ heard_none (after e o).session in
        let none = opens_none y (link_outcome e o p by) a.opened _ opened opens_so took refl in
        let there : is_up_at y.near ≡ true =
        ap (λ (z : PairEnds). is_up_at z.near) (then_pair (linked x e o p by shown) (λ z. following z o.change es))
        ∙ (follows_up (with_near x (arrival_end e o p by)) o.change es t.taken ∙ (ap (λ (f : Fsm). is_up f.state) (fsm_arrived e o p by) ∙ t.up)) in
        record {
          end = e;
          near = near;
          session = t.session;
          taken = heard t;
          up = ap (λ (z : PairEnds). is_up_at z.near) (arrived_pair x es er p by shown c _ a) ∙ (released_up a.opened.pair ∙ (ap is_up_at none.0 ∙ there));
          none = none.1;
        }
    | inr apart ↦
        absurd (not_ignored y (link_outcome e o p by) a.opened _ opened why.Epoch opens_so refl (ap (λ k. if is_heard p.header k then heard_outcome (after e o).session by (content_of p) else change_outcome k) apart))
  ]
    where
      p : Fields
      p = stated q said

      o : Outcome
      o = on_traffic e.fsm es er

      y : PairEnds
      y = (met_at es er p by shown x (Some e)).course.pair

      opens_so : OpensInto y (link_outcome e o p by) a.opened (PairOutcome.Took opened)
      opens_so = subst (λ end. OpensInto (met_at es er p by shown x end).course.pair (met_at es er p by shown x end).outcome a.opened (PairOutcome.Took opened)) near a.opens

      heard : IsTraffic e.fsm es er o → is_taken o.change ≡ true
      heard t = elim t.taken [ inl up ↦ ap is_taken up | inr stay ↦ ap is_taken stay ]

  heard_so : IsHeardState x es er c opened
  heard_so = at x.near refl
    where
      at : (end : Option LinkEnd) → x.near ≡ end → IsHeardState x es er c opened
      at (Some e) near = at_end e near
      at None near =
          let there = subst (λ end. OpensInto (met_at es er (stated q said) by shown x end).course.pair (met_at es er (stated q said) by shown x end).outcome a.opened (PairOutcome.Took opened)) near a.opens in
          absurd (not_ignored x _ a.opened _ opened why.Unknown there refl refl)

pub state_heard : (x : PairEnds) (es er : ℕ) (p : Fields) (by : ℕ) (shown : BroadcastState) (c : Course) (opened : List Opened) (said : State) → p.header ≡ header.State said → Arrives x es er p by shown c (PairOutcome.Took opened)
    → IsHeardState x es er c opened
state_heard x es er p by shown c opened said is a = heard_so x es er p said by shown c opened (subst (λ q. Arrives x es er q by shown c (PairOutcome.Took opened)) (ap (λ h. record p { header = h }) is) a)

-- ---- in a turn

-- The link of this bearer heard it in its session, as it was before, and is up after what happened first.
pub record HeardFirst (x : PairEnds) (bearer es er : ℕ) (o : Outset) (opened : List Opened) : Type 0 where
  pub end : LinkEnd
  pub near : (facing bearer x).near ≡ Some end
  pub session : is_session end.fsm es er ≡ true
  pub up : is_up_at (facing bearer o.course.pair).near ≡ true
  pub none : opened ≡ []

-- an act may be done wherever it is
abbrev Anyhow : PairEnds → Act → Type 0
Anyhow y a = Unit {0}

pub state_heard_first : (x : PairEnds) (bearer es er : ℕ) (p : Fields) (by : ℕ) (shown : BroadcastState) (o : Outset) (opened : List Opened) (said : State) → x.bearer ≤ 1 → bearer ≤ 1
    → p.header ≡ header.State said → Happened x (Opening.hears bearer es er p by shown) o → o.given ≡ PairOutcome.Took opened → HeardFirst x bearer es er o opened
state_heard_first x bearer es er p by shown o opened said two one is happened took =
    let c = happened.0 in
    let given : happened.1 ≡ PairOutcome.Took opened = ap (λ (u : Outset). u.given) (sym happened.3) ∙ took in
    let h = state_heard (facing bearer x) es er p by shown c opened said is (subst (λ g. Arrives (facing bearer x) es er p by shown c g) given happened.2) in
    let y = facing bearer x in
    let may : MayArrive Anyhow y es er p by shown = record {
      hears = hears_may Anyhow p.header es er p by shown y (λ number. tt) (λ z. tt) (λ z. tt);
      opens = opens_may Anyhow _ _ (λ z epoch. tt) (λ z t by'. tt) (λ z packets got. tt);
    } in
    let at = facing_two bearer x two in
    let run = arrives_ran Anyhow (λ z. tt) y es er p by shown c happened.1 at may happened.2 in
    let on : c.pair.bearer ≡ bearer = ran_bearer Anyhow y c run at ∙ facing_bearer bearer x one two in
    let there : o.course.pair ≡ facing x.bearer c.pair = ap (λ (u : Outset). u.course.pair) happened.3 in
    let back : facing bearer (facing x.bearer c.pair) ≡ c.pair = ap (λ n. facing n (facing x.bearer c.pair)) (sym on) ∙ facing_back x.bearer c.pair two (omega (arith, on, one)) in
    record {
      end = h.end;
      near = h.near;
      session = h.session;
      up = ap (λ z. is_up_at (facing bearer z).near) there ∙ (ap (λ (z : PairEnds). is_up_at z.near) back ∙ h.up);
      none = h.none;
    }
