-- A whole turn of a pair between which and its peer nothing goes down leaves it so.
use Rattle.std.specs.Prelude.{◌==◌, if◌then◌else◌}
use Rattle.std.proofs.Common.{◌≡◌, ◌≢◌, ◌≤◌, ◌∙◌, ℕ, false, List, ◌∷◌, Option, Some, None, refl, sym, ap, subst, arith}
use Rattle.std.proofs.lemmas.Bool.Decides.{nat_tests}
use Rattle.tipc_types.specs.LinkStates.{is_up}
use Rattle.tipc_types.specs.declared.link_words.BroadcastState.{BroadcastState}
use Rattle.tipc_types.specs.declared.packet_lists.Taken.{Taken}
use Rattle.tipc_outside.specs.declared.outgoing.Outgoing.{Outgoing}
use Rattle.tipc_header.specs.declared.packet.ChangeoverType.{ChangeoverType}
use Rattle.tipc_header.specs.declared.packet.ChangeoverType.TheVariants as kind
use Rattle.tipc_header.specs.declared.packet.Header.{Header}
use Rattle.tipc_header.specs.declared.packet.Header.TheVariants as header
use Rattle.tipc_header.specs.Spelling.{Fields, spelling}
use Rattle.tipc_header.proofs.Again.{again}
use Rattle.tipc_header.specs.Reading.{fields_at}
use Rattle.tipc_tunnel.specs.Tunnels.{Carries, Tunnelled}
use Rattle.tipc_recv_window.specs.declared.outcomes.LinkOutcome.{LinkOutcome}
use Rattle.tipc_link_fsm.specs.Table.{Fsm, on_tick}
use Rattle.tipc_link.specs.Links.{LinkEnd, after}
use Rattle.tipc_link.specs.Sessions.{as_waiting}
use Rattle.tipc_link.proofs.Standing.{waiting_fits}
use Rattle.tipc_pair.specs.declared.changes.PairOutcome.{PairOutcome}
use Rattle.tipc_pair.specs.Changeovers.{following, released}
use Rattle.tipc_pair.specs.Courses.{Course, going_on, rests as nothing}
use Rattle.tipc_pair.specs.Facing.{PairEnds, facing, is_up_at, other, turned, with_far, with_near}
use Rattle.tipc_pair.specs.LinkReadings.{silence_in}
use Rattle.tipc_pair.specs.PairArrivals.{Arrives, OpensInto, SpeaksOfFar, Unwraps, hears as heard_by, inner_at, inner_taken, taken_down, with_begun}
use Rattle.tipc_pair.specs.PairArrivals.OpensInto.{deferred, ignored, opens}
use Rattle.tipc_pair.specs.PairArrivals.Unwraps.{as_it_is, none_taken, tunnel}
use Rattle.tipc_pair.specs.PairCalls.{at_bearer, tick_at, tick_near, ticked}
use Rattle.tipc_pair.specs.PairTurns.{Happened, IsOnOne, MakesNew, Opening, Outset, PutsAll, Reply, replied, seen_as}
use Rattle.tipc_pair.specs.PairTurns.Opening.{cuts, hears, makes, mends, rests, ticks}
use Rattle.tipc_pair.proofs.ArrivalLaws.{inner_fsm}
use Rattle.tipc_pair.proofs.EndSteps.{fsm_after}
use Rattle.tipc_pair.proofs.Facings.{facing_far, facing_near}
use Rattle.tipc_pair.proofs.acts.Acts.{Ran}
use Rattle.tipc_pair.proofs.acts.Acting.{MayHappen, MayHear, happened_ran, hears_ran, puts_ran, released_ran, replied_ran, taken_down_ran}
use Rattle.tipc_pair.proofs.acts.Walks.{walks}
use Rattle.tipc_pair.proofs.turns.FirstTaken.{FirstIs, TakesFirst, hears_first}
use Rattle.tipc_pair.proofs.turns.Moves.{up_silence}
use Rattle.tipc_pair.proofs.turns.PairKept.{facing_bearer}
use Rattle.tipc_paired.specs.Views.{fsm_in}
use Rattle.tipc_settling.specs.Laws.{TurnsStayStill}
use Rattle.tipc_settling.specs.Stillness.{AreHeard, Footing, IsStill, MayCome, ShowsNumber, ShowsPresent}
use Rattle.tipc_settling.proofs.Pairs.{May, Meets, following_same, near_still, other_near, same_far, same_still, still, still_facing, still_turned}
use Rattle.tipc_settling.proofs.Rows.{tick_still}

module _ (own peer : Footing) where
  abbrev pub S : PairEnds → Type 0
  S x = IsStill own peer x

  -- what is done act by act leaves a still pair still
  pub ran_still : (x : PairEnds) (c : Course) → Ran (May own peer) x c → S x → S c.pair
  ran_still x c run h = walks (May own peer) (λ y d. IsStill own peer y → IsStill own peer d.pair) (still own peer) x c run h

  pub released_still : (x : PairEnds) → S x → S (released x).pair
  released_still x h = ran_still x (released x) (released_ran (May own peer) (λ y. tt) x) h

  -- ---- a tick

  -- at the near link: the far one keeps its link states
  pub tick_near_still : (shown : BroadcastState) (x : PairEnds) → S x → silence_in x.near ≤ 3 → S (tick_near shown x).pair × (fsm_in (tick_near shown x).pair.far ≡ fsm_in x.far) × ((tick_near shown x).pair.bearer ≡ x.bearer)
  unfolding going_on
  tick_near_still shown x h few = at x.near refl few
    where
      at : (o : Option LinkEnd) → x.near ≡ o → silence_in o ≤ 3 → S (tick_at shown x o).pair × (fsm_in (tick_at shown x o).pair.far ≡ fsm_in x.far) × ((tick_at shown x o).pair.bearer ≡ x.bearer)
      at None near silent = (h, refl, refl)
      at (Some e) near silent =
          let o = on_tick e.fsm (is_up_at x.far) in
          let y = with_near x (after e o) in
          let s = tick_still own peer x.seen x.bearer (is_up_at x.far) e.fsm (near_still own peer x e near h) (λ up. (let same = up_silence e up in omega (arith, same, silent))) in
          let goes = following_same y o.change 0 s.up in
          (same_still own peer y (following y o.change 0).pair goes (other_near own peer x (after e o) o.after (fsm_after e o) s.still h), goes.far, goes.bearer)

  pub silence_states : (o p : Option LinkEnd) → fsm_in p ≡ fsm_in o → silence_in p ≡ silence_in o
  silence_states o p same = by_states p ∙ (ap silent same ∙ sym (by_states o))
    where
      silent : Option Fsm → ℕ
      silent None = 0
      silent (Some f) = if is_up f.state then f.silent else 0

      by_states : (o : Option LinkEnd) → silence_in o ≡ silent (fsm_in o)
      by_states None = refl
      by_states (Some e) = refl

  ticked_still : (shown : BroadcastState) (x : PairEnds) → x.bearer ≡ 0 → AreHeard x → S x → S (ticked shown x).pair
  unfolding going_on
  ticked_still shown x zero_is heard h =
      let here : facing 0 x ≡ x = facing_near 0 x zero_is in
      let one = tick_near_still shown x h heard.near in
      let y = (tick_near shown x).pair in
      let y_zero : y.bearer ≡ 0 = one.2 ∙ zero_is in
      let back : facing x.bearer y ≡ y = facing_near x.bearer y one.2 in
      let first : (at_bearer 0 x (tick_near shown)).pair ≡ y = ap (λ z. facing x.bearer (tick_near shown z).pair) here ∙ back in
      let apart : (y.bearer == 1) ≡ false = grind (arith, nat_tests, y_zero) in
      let z = turned y in
      let there : facing 1 y ≡ z = facing_far 1 y apart in
      let two = tick_near_still shown z (still_turned own peer y one.0) (let few = heard.far in let same = silence_states x.far y.far one.1 in omega (arith, few, same)) in
      let second : S (at_bearer 1 y (tick_near shown)).pair = still_facing own peer y.bearer (tick_near shown (facing 1 y)).pair (subst (λ w. S (tick_near shown w).pair) (sym there) two.0) in
      let both : S (at_bearer 1 (at_bearer 0 x (tick_near shown)).pair (tick_near shown)).pair = subst (λ w. S (at_bearer 1 w (tick_near shown)).pair) (sym first) second in
      released_still (at_bearer 1 (at_bearer 0 x (tick_near shown)).pair (tick_near shown)).pair both

  -- ---- an arrival

  -- what the near link may hear
  pub may_hear : (h : Header) (es er : ℕ) (p : Fields) (by : ℕ) (shown : BroadcastState) (x : PairEnds) → p.header ≡ h → x.bearer ≤ 1 → S x → es ≡ peer.epoch x.bearer → ShowsNumber peer.contact h → MayHear (May own peer) h es er p by shown x
  may_hear (header.Reset said) es er p by shown x is two h same number = record {
    counts = λ higher. (number, λ sees. omega (arith, higher, number, sees));
    resets = λ y bearer seen. (same ∙ ap (λ b. peer.epoch b) (sym (bearer two)), seen ∙ number);
  }
  may_hear (header.Activate said) es er p by shown x is two h same number = record {
    counts = λ higher. (number, λ sees. omega (arith, higher, number, sees));
    meets = λ y bearer seen. (same ∙ ap (λ b. peer.epoch b) (sym (bearer two)), subst (Meets own peer y.seen) (sym is) (seen ∙ number));
  }
  may_hear other es er p by shown x is two h same number = (same, subst (Meets own peer x.seen) (sym is) tt)

  -- the first packet that was taken, where it is an original tunnel packet for the far link, names another epoch than the peer's there
  abbrev pub NamesNone : PairEnds → List Taken → Type 0
  NamesNone x taken = (first : Taken) (others : List Taken) (t : Tunnelled) → taken ≡ first ∷ others → SpeaksOfFar x first.packet t → t.kind ≡ kind.Original → t.old.epoch ≢ peer.epoch (other x.bearer)

  down_still : (k : ChangeoverType) (epoch : ℕ) (x : PairEnds) → (k ≡ kind.Original → epoch ≢ peer.epoch (other x.bearer)) → S x → S (taken_down k epoch x).pair
  down_still kind.Duplicate epoch x names h = h
  down_still kind.Original epoch x names h = ran_still x (taken_down kind.Original epoch x) (taken_down_ran (May own peer) kind.Original epoch x (names refl)) h

  inner_still : (t : Tunnelled) (by : ℕ) (x : PairEnds) (o : Option LinkEnd) → x.far ≡ o → S x → S (inner_at t by x o).pair
  inner_still t by x None far h = h
  inner_still t by x (Some e) far h = same_still own peer x (with_far x (inner_taken t by e)) (same_far x e (inner_taken t by e) far (inner_fsm t by e)) h

  pub unwraps_still : (x : PairEnds) (taken carried : List Taken) (c : Course) → NamesNone x taken → S x → Unwraps x taken c carried → S c.pair
  unfolding going_on
  unwraps_still x _ _ _ names h none_taken = h
  unwraps_still x _ _ _ names h (as_it_is first others none) = h
  unwraps_still x _ _ _ names h (tunnel first others t speaks) =
      let y = (taken_down t.kind t.old.epoch x).pair in
      inner_still t first.by y y.far refl (down_still t.kind t.old.epoch x (λ is. names first others t refl speaks is) h)

  pub opens_still : (x : PairEnds) (outcome : LinkOutcome) (c : Course) (given : PairOutcome) → ((taken : List Taken) → outcome ≡ LinkOutcome.Took taken → NamesNone x taken) → S x → OpensInto x outcome c given → S c.pair
  opens_still x _ _ _ names h (opens {taken} {carried} {c} {given} {last} unwraps brings) =
      same_still own peer c.pair (with_begun c last).pair (record { bearer = refl; contact = refl; seen = refl; near = refl; far = refl }) (unwraps_still x taken carried c (names taken refl) h unwraps)
  opens_still x _ _ _ names h deferred = h
  opens_still x _ _ _ names h ignored = h

  -- so it is at an arrival that shows the present
  pub names_none : (bearer : ℕ) (x : PairEnds) (es er : ℕ) (p : Fields) (by : ℕ) (shown : BroadcastState) → ShowsPresent peer bearer es p
      → (taken : List Taken) → (heard_by p.header es er p by shown x).outcome ≡ LinkOutcome.Took taken → NamesNone (heard_by p.header es er p by shown x).course.pair taken
  names_none bearer x es er p by shown shows taken took first others t is speaks original =
      let bytes : first.packet ≡ spelling (as_waiting p) = subst (FirstIs (spelling (as_waiting p))) is (subst (TakesFirst (spelling (as_waiting p))) took (hears_first p.header x es er p by shown)) in
      let far = speaks.tunnel in
      let same : as_waiting p ≡ far.packet = sym (again (as_waiting p) (waiting_fits p shows.fits)) ∙ ap fields_at (sym bytes ∙ far.spelled) ∙ again far.packet far.fits in
      let waited : Carries (as_waiting p) t = subst (λ (q : Fields). Carries q t) (sym same) far.carries in
      let low = shows.ended t (record { broadcast_acknowledgement = waited.broadcast_acknowledgement; header = waited.header; rest = waited.rest; inner = waited.inner }) original in
      subst (λ b. t.old.epoch ≢ peer.epoch b) speaks.bearer (λ is. omega (arith, low, is))

  arrives_still : (bearer : ℕ) (x : PairEnds) (es er : ℕ) (p : Fields) (by : ℕ) (shown : BroadcastState) (c : Course) (given : PairOutcome) → x.bearer ≡ bearer → ShowsPresent peer bearer es p → S x → Arrives x es er p by shown c given → S c.pair
  unfolding going_on
  arrives_still bearer x es er p by shown c given on shows h a =
      let heard = heard_by p.header es er p by shown x in
      let same : es ≡ peer.epoch x.bearer = shows.epoch ∙ ap (λ b. peer.epoch b) (sym on) in
      let one = ran_still x heard.course (hears_ran (May own peer) p.header es er p by shown x (may_hear p.header es er p by shown x refl h.two h same shows.number)) h in
      let y = heard.course.pair in
      let names = names_none bearer x es er p by shown shows in
      let two = opens_still y heard.outcome a.opened given names one a.opens in
      subst (λ (d : Course). S d.pair) (sym a.course) (released_still a.opened.pair two)

  -- ---- a turn

  as_so : {given : PairOutcome} (o : Outset) (c : Course) → o ≡ record { course = c; given = given } → S c.pair → S o.course.pair
  as_so o c is h = subst (λ (u : Outset). S u.course.pair) (sym is) h

  pub ran_first : (x : PairEnds) (opening : Opening) (o : Outset) → S x → MayHappen (May own peer) x opening → Happened x opening o → S o.course.pair
  ran_first x opening o h may is = ran_still x o.course (happened_ran (May own peer) (λ y. tt) x opening o h.two may is) h

  first_still : (x : PairEnds) (opening : Opening) (o : Outset) → x.bearer ≡ 0 → IsOnOne opening → MakesNew x opening → MayCome peer x opening → Happened x opening o → S x → S o.course.pair
  first_still x rests o zero_is one new may is h = ran_first x rests o h tt is
  first_still x (makes bearer is_mended) o zero_is one new may is h = ran_first x (makes bearer is_mended) o h (new, tt) is
  first_still x (mends bearer) o zero_is one new may is h = ran_first x (mends bearer) o h tt is
  first_still x (cuts bearer) o zero_is one new may is h = absurd may
  first_still x (ticks shown) o zero_is one new may is h = as_so o (ticked shown x) is (ticked_still shown x zero_is may h)
  first_still x (hears bearer es er p by shown) o zero_is one new may is h =
      let z = facing bearer x in
      let on = facing_bearer bearer x one h.two in
      let after = arrives_still bearer z es er p by shown is.0 is.1 on may (still_facing own peer bearer x h) is.2 in
      as_so o (seen_as x is.0) is.3 (still_facing own peer x.bearer is.0.pair after)

  pub rest_still : (x x' : PairEnds) (messages : List (List ℕ)) (reply : Option Reply) (frames : List Outgoing) (put : PairEnds) → PutsAll x messages frames put → x' ≡ (replied reply put).pair → S x → S x'
  rest_still x x' messages reply frames put puts after h =
      let second : S put = ran_still x (record (nothing put) { numbered = frames }) (puts_ran (May own peer) x messages frames put h.two (λ i d within z up. tt) puts) h in
      subst S (sym after) (ran_still put (replied reply put) (replied_ran (May own peer) reply put second.two (λ r is z. tt)) second)

pub turns_still : TurnsStayStill
turns_still own peer x x' opening messages reply frames zero_is one new may t h =
    rest_still own peer t.first.course.pair x' messages reply t.put_frames t.put t.puts t.after (first_still own peer x opening t.first zero_is one new may t.happened h)
