-- A still pair whose links are up where they hear tells nothing of links and contact.
use Rattle.std.specs.Prelude.{◌==◌}
use Rattle.std.proofs.Common.{◌≡◌, ◌≢◌, ◌≤◌, ◌∙◌, ℕ, true, false, List, [], ◌++◌, Option, Some, None, refl, sym, ap, subst, arith}
use Rattle.std.proofs.lemmas.Bool.{true≢false}
use Rattle.std.proofs.lemmas.Bool.Decides.{nat_tests}
use Rattle.tipc_types.specs.LinkStates.{is_up}
use Rattle.tipc_types.specs.declared.link_words.BroadcastState.{BroadcastState}
use Rattle.tipc_types.specs.declared.packet_lists.Taken.{Taken}
use Rattle.tipc_outside.specs.declared.outgoing.Outgoing.{Outgoing}
use Rattle.tipc_header.specs.declared.packet.ChangeoverType.{ChangeoverType}
use Rattle.tipc_header.specs.declared.packet.ChangeoverType.TheVariants as kind
use Rattle.tipc_header.specs.declared.packet.Header.{Header}
use Rattle.tipc_header.specs.declared.packet.Header.TheVariants as header
use Rattle.tipc_header.specs.Spelling.{Fields}
use Rattle.tipc_recv_window.specs.declared.outcomes.LinkOutcome.{LinkOutcome}
use Rattle.tipc_link_fsm.specs.declared.changes.Change.{Change}
use Rattle.tipc_link_fsm.specs.declared.changes.Change.TheVariants.{Answer, Down, Ignore, Stay, Up}
use Rattle.tipc_link_fsm.specs.Table.{Fsm, Outcome, on_tick}
use Rattle.tipc_link_fsm.proofs.Moves.{Moves, falls, is_going_up, is_up_in_reset, on_reset_moves, rises, stays as still_moves}
use Rattle.tipc_link.specs.Links.{LinkEnd, after, is_down, outcome_of}
use Rattle.tipc_pair.specs.declared.changes.PairOutcome.{PairOutcome}
use Rattle.tipc_pair.specs.declared.transitions.Transition.{Transition}
use Rattle.tipc_pair.specs.Changeovers.{following, released}
use Rattle.tipc_pair.specs.Courses.{Course, going_on}
use Rattle.tipc_pair.specs.Facing.{PairEnds, facing, is_up_at, other, turned, with_near}
use Rattle.tipc_pair.specs.LinkReadings.{silence_in}
use Rattle.tipc_pair.specs.PairArrivals.{Arrives, OpensInto, Unwraps, hears as heard_by, inner_at, taken_down}
use Rattle.tipc_pair.specs.PairArrivals.OpensInto.{deferred, ignored, opens}
use Rattle.tipc_pair.specs.PairArrivals.Unwraps.{as_it_is, none_taken, tunnel}
use Rattle.tipc_pair.specs.PairCalls.{at_bearer, tick_at, tick_near, ticked}
use Rattle.tipc_pair.specs.PairTurns.{Happened, IsOnOne, MakesNew, Opening, Outset}
use Rattle.tipc_pair.specs.PairTurns.Opening.{cuts, hears, makes, mends, rests, ticks}
use Rattle.tipc_pair.proofs.EndSteps.{tunnel_quiet}
use Rattle.tipc_pair.proofs.Facings.{facing_far, facing_near}
use Rattle.tipc_pair.proofs.HeldLaws.{tick_quiet}
use Rattle.tipc_pair.proofs.acts.Acts.{Act, Acts, Ran, Steps}
use Rattle.tipc_pair.proofs.acts.Acts.Act.{counts as counting, meets as meeting, resets as resetting}
use Rattle.tipc_pair.proofs.acts.Acts.Acts.{answered, counted, let_go_of, made, mended, moved, opened, put, raised}
use Rattle.tipc_pair.proofs.acts.Acts.Steps.{cut, meet, name, reset, tick}
use Rattle.tipc_pair.proofs.acts.Acting.{MayHear, hears_ran, released_ran, taken_down_ran}
use Rattle.tipc_pair.proofs.acts.Walks.{Walk, outcome_moves, walks}
use Rattle.tipc_pair.proofs.turns.HeardReasons.{inner_none}
use Rattle.tipc_pair.proofs.turns.Moves.{up_silence}
use Rattle.tipc_pair.proofs.turns.PairKept.{facing_bearer}
use Rattle.tipc_pair.proofs.turns.TurnMoves.{made_changes}
use Rattle.tipc_paired.specs.Views.{fsm_in}
use Rattle.tipc_settling.specs.Laws.{ComesToUp, TurnsTellNothing}
use Rattle.tipc_settling.specs.Stillness.{AreHeard, Footing, IsStill, IsStillAt, MayCome, ShowsNumber, ShowsPresent}
use Rattle.tipc_settling.proofs.Pairs.{May, Meets, act_still, near_still, step_still, still_facing, still_turned}
use Rattle.tipc_settling.proofs.Rows.{shown_quiet, tick_still}
use Rattle.tipc_settling.proofs.Turns.{NamesNone, names_none, opens_still, silence_states, tick_near_still}

-- ---- changes by which no link goes up or down

following_none : (x : PairEnds) (change : Change) (epoch : ℕ) → is_down change ≡ false → is_going_up change ≡ false → (following x change epoch).changes ≡ []
following_none x Up epoch up quiet = absurd (true≢false quiet)
following_none x (Down because) epoch up quiet = absurd (true≢false up)
following_none x Stay epoch up quiet = refl
following_none x (Answer back) epoch up quiet = refl
following_none x (Ignore reason) epoch up quiet = refl

none_both : (xs ys : List Transition) → xs ≡ [] → ys ≡ [] → xs ++ ys ≡ []
none_both xs ys one two = ap (λ ts. ts ++ ys) one ∙ two

-- a link that is up doesn't go up
up_quiet : (f : Fsm) (shown : Option (ℕ × ℕ)) (o : Outcome) → is_up f.state ≡ true → Moves f shown o → is_going_up o.change ≡ false
up_quiet f shown o up (still_moves own same quiet) = quiet
up_quiet f shown o up (rises es own was now last it peer rising) = absurd (true≢false (sym up ∙ is_up_in_reset f.state was))
up_quiet f shown o up (falls own down quiet) = quiet

module _ (own peer : Footing) where
  abbrev pub S : PairEnds → Type 0
  S x = IsStill own peer x

  -- what arrives comes where the link is up, and no contact number is shown for the first time
  abbrev Calmly : PairEnds → Act → Type 0
  Calmly x (resetting es shown) = own.up x.bearer ≡ true
  Calmly x (meeting es er p by shown) = own.up x.bearer ≡ true
  Calmly x (counting number) = ⊥
  Calmly x other = Unit {0}

  abbrev MayCalmly : PairEnds → Act → Type 0
  MayCalmly x a = May own peer x a × Calmly x a

  -- the link that was up there is up
  up_there : (x : PairEnds) (e : LinkEnd) → x.near ≡ Some e → S x → own.up x.bearer ≡ true → is_up e.fsm.state ≡ true
  up_there x e near h was = (let k = near_still own peer x e near h in k.lasts was)

  step_quiet : (x : PairEnds) (a : Act) (e : LinkEnd) (o : Outcome) (e' : LinkEnd) (states numbered : List Outgoing) (epoch : ℕ) → MayCalmly x a → x.near ≡ Some e → S x → Steps x e a o e' states numbered epoch → is_going_up o.change ≡ false
  step_quiet x _ e _ _ _ _ _ may near h cut = absurd may.0
  step_quiet x _ e _ _ _ _ _ may near h (tick shown) = absurd may.0
  step_quiet x _ e _ _ _ _ _ may near h (reset es held shown) = shown_quiet e.fsm _ (on_reset_moves e.fsm es held None)
  step_quiet x _ e _ _ _ _ _ may near h (name epoch) = tunnel_quiet e.fsm epoch
  step_quiet x _ e _ _ _ _ _ may near h (meet es er p by shown) =
      let up = up_there x e near h may.1 in
      up_quiet e.fsm (Some (es, er)) (outcome_of e.fsm p.header es er (is_up_at x.far)) up (outcome_moves e.fsm p.header es er (is_up_at x.far))

  act_none : (x : PairEnds) (a : Act) (c : Course) → MayCalmly x a → Acts x a c → S x → c.changes ≡ []
  unfolding going_on
  act_none _ _ _ may (made x) h = refl
  act_none _ _ _ may (mended x e near) h = refl
  act_none _ _ _ may (moved x a e o e' states numbered epoch near step) h =
      let s = step_still own peer x a e o e' states numbered epoch may.0 (near_still own peer x e near h) step in
      following_none (with_near x e') o.change epoch s.up (step_quiet x a e o e' states numbered epoch may near h step)
  act_none _ _ _ may (raised x number) h = absurd may.1
  act_none _ _ _ may (let_go_of x e near clear) h = refl
  act_none _ _ _ may (counted x e t by near) h = refl
  act_none _ _ _ may (opened x packets given last brings) h = refl
  act_none _ _ _ may (put x e s pieces s' near has is) h = refl
  act_none _ _ _ may (answered x e taken asks shown near) h = refl

  -- still, and nothing told
  abbrev pub Untold : Course → Type 0
  Untold c = S c.pair × (c.changes ≡ [])

  calm : Walk MayCalmly (λ x c. S x → Untold c)
  unfolding going_on
  calm = record {
    rests = λ x h. (h, refl);
    goes_on = λ x first step one two h. (let a = one h in let b = two a.0 in (b.0, none_both first.changes (step first.pair).changes a.1 b.1));
    turns = λ x c there h. (let a = there (still_turned own peer x h) in (still_turned own peer c.pair a.0, a.1));
    acts = λ x a c may does h. (act_still own peer x a c may.0 does h, act_none x a c may does h);
  }

  ran_untold : (x : PairEnds) (c : Course) → Ran MayCalmly x c → S x → Untold c
  ran_untold x c run h = walks MayCalmly (λ y d. IsStill own peer y → IsStill own peer d.pair × (d.changes ≡ [])) calm x c run h

  released_untold : (x : PairEnds) → S x → Untold (released x)
  released_untold x h = ran_untold x (released x) (released_ran MayCalmly (λ y. (tt, tt)) x) h

  -- ---- a tick

  tick_none : (shown : BroadcastState) (x : PairEnds) → S x → silence_in x.near ≤ 3 → (tick_near shown x).changes ≡ []
  unfolding going_on
  tick_none shown x h few = at x.near refl few
    where
      at : (o : Option LinkEnd) → x.near ≡ o → silence_in o ≤ 3 → (tick_at shown x o).changes ≡ []
      at None near silent = refl
      at (Some e) near silent =
          let o = on_tick e.fsm (is_up_at x.far) in
          let s = tick_still own peer x.seen x.bearer (is_up_at x.far) e.fsm (near_still own peer x e near h) (λ up. (let same = up_silence e up in omega (arith, same, silent))) in
          following_none (with_near x (after e o)) o.change 0 s.up (tick_quiet e.fsm (is_up_at x.far))

  ticked_none : (shown : BroadcastState) (x : PairEnds) → x.bearer ≡ 0 → AreHeard x → S x → (ticked shown x).changes ≡ []
  unfolding going_on
  ticked_none shown x zero_is heard h =
      let here : facing 0 x ≡ x = facing_near 0 x zero_is in
      let one = tick_near_still own peer shown x h heard.near in
      let y = (tick_near shown x).pair in
      let y_zero : y.bearer ≡ 0 = one.2 ∙ zero_is in
      let back : facing x.bearer y ≡ y = facing_near x.bearer y one.2 in
      let first : (at_bearer 0 x (tick_near shown)).pair ≡ y = ap (λ z. facing x.bearer (tick_near shown z).pair) here ∙ back in
      let apart : (y.bearer == 1) ≡ false = grind (arith, nat_tests, y_zero) in
      let there : facing 1 (at_bearer 0 x (tick_near shown)).pair ≡ turned y = ap (facing 1) first ∙ facing_far 1 y apart in
      let z = turned y in
      let few : silence_in y.far ≤ 3 = (let most = heard.far in let same = silence_states own peer x.far y.far one.1 in omega (arith, most, same)) in
      let two = tick_near_still own peer shown z (still_turned own peer y one.0) few in
      let w = (at_bearer 1 (at_bearer 0 x (tick_near shown)).pair (tick_near shown)).pair in
      let both : S w = subst (λ q. S (facing q.bearer (tick_near shown (facing 1 q)).pair)) (sym first)
      (still_facing own peer y.bearer (tick_near shown (facing 1 y)).pair (subst (λ q. S (tick_near shown q).pair) (sym (facing_far 1 y apart)) two.0)) in
      none_both ((tick_near shown (facing 0 x)).changes ++ (tick_near shown (facing 1 (at_bearer 0 x (tick_near shown)).pair)).changes) (released w).changes
      (none_both (tick_near shown (facing 0 x)).changes (tick_near shown (facing 1 (at_bearer 0 x (tick_near shown)).pair)).changes
      (ap (λ q. (tick_near shown q).changes) here ∙ tick_none shown x h heard.near) (ap (λ q. (tick_near shown q).changes) there ∙ tick_none shown z (still_turned own peer y one.0) few))
      (released_untold w both).1

  -- ---- an arrival

  calm_hear : (h : Header) (es er : ℕ) (p : Fields) (by : ℕ) (shown : BroadcastState) (x : PairEnds) → p.header ≡ h → x.bearer ≤ 1 → es ≡ peer.epoch x.bearer → ShowsNumber peer.contact h → own.up x.bearer ≡ true → x.seen ≡ peer.contact
      → MayHear MayCalmly h es er p by shown x
  calm_hear (header.Reset said) es er p by shown x is two same number up sees = record {
    counts = λ higher. absurd (omega (arith, higher, number, sees));
    resets = λ y bearer seen. ((same ∙ ap (λ b. peer.epoch b) (sym (bearer two)), seen ∙ number), ap (λ b. own.up b) (bearer two) ∙ up);
  }
  calm_hear (header.Activate said) es er p by shown x is two same number up sees = record {
    counts = λ higher. absurd (omega (arith, higher, number, sees));
    meets = λ y bearer seen. ((same ∙ ap (λ b. peer.epoch b) (sym (bearer two)), subst (Meets own peer y.seen) (sym is) (seen ∙ number)), ap (λ b. own.up b) (bearer two) ∙ up);
  }
  calm_hear other es er p by shown x is two same number up sees = ((same, subst (Meets own peer x.seen) (sym is) tt), up)

  -- where the near link was up its node has seen the peer's contact number
  seen_there : (seen bearer : ℕ) (o : Option LinkEnd) → IsStillAt own peer seen bearer (fsm_in o) → own.up bearer ≡ true → seen ≡ peer.contact
  seen_there seen bearer None h was = absurd (true≢false (sym was ∙ h.down))
  seen_there seen bearer (Some e) h was = h.contact (h.up (h.lasts was))

  down_none : (k : ChangeoverType) (epoch : ℕ) (x : PairEnds) → (k ≡ kind.Original → epoch ≢ peer.epoch (other x.bearer)) → S x → (taken_down k epoch x).changes ≡ []
  down_none kind.Duplicate epoch x names h = refl
  down_none kind.Original epoch x names h = (ran_untold x (taken_down kind.Original epoch x) (taken_down_ran MayCalmly kind.Original epoch x (names refl, tt)) h).1

  unwraps_none : (x : PairEnds) (taken carried : List Taken) (c : Course) → NamesNone own peer x taken → S x → Unwraps x taken c carried → c.changes ≡ []
  unfolding going_on
  unwraps_none x _ _ _ names h none_taken = refl
  unwraps_none x _ _ _ names h (as_it_is first others none) = refl
  unwraps_none x _ _ _ names h (tunnel first others t speaks) =
      let one = taken_down t.kind t.old.epoch x in
      none_both one.changes (inner_at t first.by one.pair one.pair.far).changes (down_none t.kind t.old.epoch x (λ is. names first others t refl speaks is) h) (inner_none t first.by one.pair one.pair.far)

  opens_none : (x : PairEnds) (outcome : LinkOutcome) (c : Course) (given : PairOutcome) → ((taken : List Taken) → outcome ≡ LinkOutcome.Took taken → NamesNone own peer x taken) → S x → OpensInto x outcome c given → c.changes ≡ []
  opens_none x _ _ _ names h (opens {taken} {carried} {c} {given} {last} unwraps brings) = unwraps_none x taken carried c (names taken refl) h unwraps
  opens_none x _ _ _ names h deferred = refl
  opens_none x _ _ _ names h ignored = refl

  arrives_none : (bearer : ℕ) (x : PairEnds) (es er : ℕ) (p : Fields) (by : ℕ) (shown : BroadcastState) (c : Course) (given : PairOutcome) → x.bearer ≡ bearer → ShowsPresent peer bearer es p → own.up bearer ≡ true → S x
      → Arrives x es er p by shown c given → c.changes ≡ []
  unfolding going_on
  arrives_none bearer x es er p by shown c given on shows up h a =
      let heard = heard_by p.header es er p by shown x in
      let same : es ≡ peer.epoch x.bearer = shows.epoch ∙ ap (λ b. peer.epoch b) (sym on) in
      let was : own.up x.bearer ≡ true = ap (λ b. own.up b) on ∙ up in
      let one = ran_untold x heard.course (hears_ran MayCalmly p.header es er p by shown x (calm_hear p.header es er p by shown x refl h.two same shows.number was (seen_there x.seen x.bearer x.near h.near was))) h in
      let y = heard.course.pair in
      let names = names_none own peer bearer x es er p by shown shows in
      let two = opens_none y heard.outcome a.opened given names one.0 a.opens in
      let z = a.opened.pair in
      let last = released_untold z (opens_still own peer y heard.outcome a.opened given names one.0 a.opens) in
      ap (λ (d : Course). d.changes) a.course ∙ none_both (heard.course.changes ++ a.opened.changes) (released z).changes (none_both heard.course.changes a.opened.changes one.1 two) last.1

  -- ---- what happens first in a turn

  first_none : (x : PairEnds) (opening : Opening) (o : Outset) → x.bearer ≡ 0 → IsOnOne opening → MakesNew x opening → MayCome peer x opening → ComesToUp own opening → Happened x opening o → S x → o.course.changes ≡ []
  first_none x rests o zero_is one new may up is h = ap (λ (u : Outset). u.course.changes) is
  first_none x (makes bearer is_mended) o zero_is one new may up is h = ap (λ (u : Outset). u.course.changes) is ∙ made_changes bearer is_mended x
  first_none x (mends bearer) o zero_is one new may up is h = ap (λ (u : Outset). u.course.changes) is
  first_none x (cuts bearer) o zero_is one new may up is h = absurd may
  first_none x (ticks shown) o zero_is one new may up is h = ap (λ (u : Outset). u.course.changes) is ∙ ticked_none shown x zero_is may h
  first_none x (hears bearer es er p by shown) o zero_is one new may up is h =
      let z = facing bearer x in
      let on = facing_bearer bearer x one h.two in
      ap (λ (u : Outset). u.course.changes) is.3 ∙ arrives_none bearer z es er p by shown is.0 is.1 on may up (still_facing own peer bearer x h) is.2

pub turns_tell_nothing : TurnsTellNothing
turns_tell_nothing own peer x x' opening messages reply frames zero_is one new may up t h = first_none own peer x opening t.first zero_is one new may up t.happened h
