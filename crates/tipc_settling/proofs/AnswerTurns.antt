-- In a whole turn of a still pair an ACTIVATE that shows the peer's present epoch leaves only from an end that answers it when the turn is over.
use Rattle.std.specs.Prelude.{All, IfSome, ◌==◌, ◌-◌}
use Rattle.std.proofs.Common.{◌≡◌, ◌≢◌, ◌≤◌, ◌<◌, ◌^◌, ◌⊎◌, ◌∙◌, ℕ, zero, suc, true, false, List, [], ◌∷◌, ◌++◌, Option, Some, None, append-nil, append_assoc, drop, inl, inr, length, refl, sym, ap, subst, arith}
use Rattle.std.proofs.lemmas.Bool.Decides.{nat_tests}
use Rattle.std.proofs.lemmas.List.{drop_at}
use Rattle.std.proofs.lemmas.List.Concat.{flat_map-cons}
use Rattle.std.proofs.lemmas.List.Elements.{All-weaker}
use Rattle.tipc_types.specs.LinkStates.{is_up}
use Rattle.tipc_types.specs.declared.link_words.BroadcastState.{BroadcastState}
use Rattle.tipc_types.specs.declared.packet_lists.Taken.{Taken}
use Rattle.tipc_outside.specs.declared.outgoing.Outgoing.{Outgoing}
use Rattle.tipc_header.specs.declared.packet.ChangeoverType.{ChangeoverType}
use Rattle.tipc_header.specs.declared.packet.ChangeoverType.TheVariants as kind
use Rattle.tipc_header.specs.declared.packet.Header.{Header}
use Rattle.tipc_header.specs.declared.packet.Header.TheVariants as header
use Rattle.tipc_header.specs.declared.packet.Reset.{Reset}
use Rattle.tipc_header.specs.Frames.{envelope, frame_of}
use Rattle.tipc_header.specs.Grammar.{Fits}
use Rattle.tipc_header.specs.Reading.{word_at}
use Rattle.tipc_header.specs.Spelling.{Fields, number_words, spelling, user_words, word, words, word_0, word_1, word_2}
use Rattle.tipc_header.proofs.FrameWords.{length-envelope}
use Rattle.tipc_header.proofs.Words.{word_at-words}
use Rattle.tipc_tunnel.specs.Tunnels.{Tunnelled}
use Rattle.tipc_fragments.specs.Joining.{Joining}
use Rattle.tipc_recv_window.specs.declared.outcomes.LinkOutcome.{LinkOutcome}
use Rattle.tipc_link_fsm.specs.Table.{Fsm, is_reset_reset}
use Rattle.tipc_link.specs.Links.{LinkEnd, known, notice, notice_fields}
use Rattle.tipc_pair.specs.declared.changes.PairOutcome.{PairOutcome}
use Rattle.tipc_pair.specs.Changeovers.{released}
use Rattle.tipc_pair.specs.Courses.{Course, going_on, rests as nothing}
use Rattle.tipc_pair.specs.Facing.{PairEnds, facing, is_up_at, other, turned, with_far}
use Rattle.tipc_pair.specs.LinkReadings.{AreAbreast, IsAbreast, silence_in}
use Rattle.tipc_pair.specs.PairArrivals.{Arrives, OpensInto, Unwraps, hears as heard_by, inner_at, inner_taken, taken_down, with_begun, with_bytes}
use Rattle.tipc_pair.specs.PairArrivals.OpensInto.{deferred, ignored, opens}
use Rattle.tipc_pair.specs.PairArrivals.Unwraps.{as_it_is, none_taken, tunnel}
use Rattle.tipc_pair.specs.PairCalls.{at_bearer, tick_near, ticked}
use Rattle.tipc_pair.specs.PairTurns.{Happened, IsOnOne, MakesNew, Opening, Outset, PairTurn, Reply, replied}
use Rattle.tipc_pair.specs.PairTurns.Opening.{cuts, hears, makes, mends, rests, ticks}
use Rattle.tipc_pair.proofs.Facings.{facing_far, facing_near, facing_two}
use Rattle.tipc_pair.proofs.acts.Acts.{Ran}
use Rattle.tipc_pair.proofs.acts.Acts.Act.{carries as carrying, opens as unpacking, ticks as ticking}
use Rattle.tipc_pair.proofs.acts.Acts.Acts.{counted, opened}
use Rattle.tipc_pair.proofs.acts.Acts.Ran.{acts, goes_on, stays, turns}
use Rattle.tipc_pair.proofs.acts.Acting.{MayHear, at_ran, happened_ran, hears_ran, puts_ran, ran_bearer, ran_two, released_ran, replied_ran, taken_down_ran, tick_ran, turn_course, turn_frames, turn_pair}
use Rattle.tipc_pair.proofs.turns.PairKept.{Both, facing_bearer}
use Rattle.tipc_paired.specs.Views.{er_of, fsm_in}
use Rattle.tipc_paired.proofs.wires.Frames.{er_of-frame}
use Rattle.tipc_two_nodes.specs.Sights.{AreSeen, Sight, pair_seen}
use Rattle.tipc_two_nodes.proofs.sights.Sights.{ends}
use Rattle.tipc_settling.specs.Rises.{AnswersAt, HeardOn, ShowsAnswering, TurnsTellAnswer, UpsWereHeard}
use Rattle.tipc_settling.specs.Stillness.{AnswersTo, AreHeard, Footing, IsStill, MayCome, ShowsNumber, ShowsPresent}
use Rattle.tipc_settling.proofs.Answering.{Asks, IsKnowing, KnowsOther, On, Said, Wakes, by_far, by_near, either_so, names, ran_leaves, resets}
use Rattle.tipc_settling.proofs.Pairs.{Meets}
use Rattle.tipc_settling.proofs.Saying.{tick_far}
use Rattle.tipc_settling.proofs.Sending.{framed_at}
use Rattle.tipc_settling.proofs.Turns.{NamesNone, names_none, tick_near_still}

-- the begun message is that of a course
begun_after : (c : Course) (last : Joining) → going_on c (λ y. nothing (record y { begun = last })) ≡ with_begun c last
unfolding going_on
begun_after c last =
    ap (λ ts. record { pair = record c.pair { begun = last }; changes = ts; states = c.states ++ []; numbered = c.numbered ++ [] }) (append-nil c.changes)
    ∙ (ap (λ fs. record { pair = record c.pair { begun = last }; changes = c.changes; states = fs; numbered = c.numbered ++ [] }) (append-nil c.states)
    ∙ ap (λ fs. record { pair = record c.pair { begun = last }; changes = c.changes; states = c.states; numbered = fs }) (append-nil c.numbered))

-- a header by which a link may go up comes so on its bearer
module _ (own peer : Footing) (Came : ℕ → Type 0) where
  -- ---- what is asked

  hear_asks : (h : Header) (es er : ℕ) (p : Fields) (by : ℕ) (shown : BroadcastState) (x : PairEnds) → p.header ≡ h → x.bearer ≤ 1 → es ≡ peer.epoch x.bearer → ShowsNumber peer.contact h → (er ≡ own.epoch x.bearer → Wakes p.header → Came x.bearer)
      → MayHear (Asks own peer Came) h es er p by shown x
  hear_asks (header.Reset said) es er p by shown x is two same number comes = record {
    counts = λ higher. (number, λ sees. omega (arith, higher, number, sees));
    resets = λ y bearer seen. (same ∙ ap (λ b. peer.epoch b) (sym (bearer two)), seen ∙ number);
  }
  hear_asks (header.Activate said) es er p by shown x is two same number comes = record {
    counts = λ higher. (number, λ sees. omega (arith, higher, number, sees));
    meets = λ y bearer seen. (same ∙ ap (λ b. peer.epoch b) (sym (bearer two)), subst (Meets own peer y.seen) (sym is) (seen ∙ number), λ ours wakes. subst Came (sym (bearer two)) (comes (ours ∙ ap (λ b. own.epoch b) (bearer two)) wakes));
  }
  hear_asks other es er p by shown x is two same number comes = (same, subst (Meets own peer x.seen) (sym is) tt, comes)

  -- ---- an arrival is a run of such acts

  down_ran : (k : ChangeoverType) (epoch : ℕ) (x : PairEnds) → (k ≡ kind.Original → epoch ≢ peer.epoch (other x.bearer)) → Ran (Asks own peer Came) x (taken_down k epoch x)
  down_ran kind.Duplicate epoch x names_it = stays x
  down_ran kind.Original epoch x names_it = taken_down_ran (Asks own peer Came) kind.Original epoch x (names_it refl)

  carried_ran : (t : Tunnelled) (by : ℕ) (x : PairEnds) → x.bearer ≤ 1 → Ran (Asks own peer Came) x (inner_at t by x x.far)
  carried_ran t by x two = at x.far refl
    where
      at : (o : Option LinkEnd) → x.far ≡ o → Ran (Asks own peer Came) x (inner_at t by x o)
      at None far = stays x
      at (Some e) far =
          let back : 1 - (1 - x.bearer) ≡ x.bearer = omega arith in
          subst (λ b. Ran (Asks own peer Came) x (nothing (record (with_far x (inner_taken t by e)) { bearer = b }))) back
          (turns x _ (acts (turned x) (carrying t by) _ tt (counted (turned x) e t by far)))

  unwrapped_ran : (x : PairEnds) (taken carried : List Taken) (c : Course) → x.bearer ≤ 1 → NamesNone own peer x taken → Unwraps x taken c carried → Ran (Asks own peer Came) x c
  unwrapped_ran x _ _ _ two names_it none_taken = stays x
  unwrapped_ran x _ _ _ two names_it (as_it_is first others none) = stays x
  unwrapped_ran x _ _ _ two names_it (tunnel first others t speaks) =
      let one = taken_down t.kind t.old.epoch x in
      let down = down_ran t.kind t.old.epoch x (λ is. names_it first others t refl speaks is) in
      let same = ran_bearer (Asks own peer Came) x one down two in
      goes_on x one (λ y. inner_at t first.by y y.far) down (carried_ran t first.by one.pair (omega (arith, same, two)))

  opened_ran : (x : PairEnds) (outcome : LinkOutcome) (c : Course) (given : PairOutcome) → x.bearer ≤ 1 → ((taken : List Taken) → outcome ≡ LinkOutcome.Took taken → NamesNone own peer x taken) → OpensInto x outcome c given
      → Ran (Asks own peer Came) x c
  opened_ran x _ _ _ two names_it (opens {taken = taken} {carried = carried} {c = c} {given = given} {last = last} unwraps brings) =
      let first = unwrapped_ran x taken carried c two (names_it taken refl) unwraps in
      subst (Ran (Asks own peer Came) x) (begun_after c last)
      (goes_on x c (λ y. nothing (record y { begun = last })) first (acts c.pair (unpacking (with_bytes carried) given) _ tt (opened c.pair (with_bytes carried) given last brings)))
  opened_ran x _ _ _ two names_it deferred = stays x
  opened_ran x _ _ _ two names_it ignored = stays x

  arrived_ran : (bearer : ℕ) (x : PairEnds) (es er : ℕ) (p : Fields) (by : ℕ) (shown : BroadcastState) (c : Course) (given : PairOutcome) → x.bearer ≤ 1 → x.bearer ≡ bearer → ShowsPresent peer bearer es p
      → (er ≡ own.epoch bearer → Wakes p.header → Came bearer) → Arrives x es er p by shown c given → Ran (Asks own peer Came) x c
  arrived_ran bearer x es er p by shown c given two on shows comes a =
      let A = Asks own peer Came in
      let heard = heard_by p.header es er p by shown x in
      let same : es ≡ peer.epoch x.bearer = shows.epoch ∙ ap (λ b. peer.epoch b) (sym on) in
      let one = hears_ran A p.header es er p by shown x (hear_asks p.header es er p by shown x refl two same shows.number (λ ours wakes. subst Came (sym on) (comes (ours ∙ ap (λ b. own.epoch b) on) wakes))) in
      let y = heard.course.pair in
      let both = going_on heard.course (λ z. a.opened) in
      let second = opened_ran y heard.outcome a.opened given (ran_two A x heard.course one two) (names_none own peer bearer x es er p by shown shows) a.opens in
      subst (Ran A x) (sym a.course) (goes_on x both released (goes_on x heard.course (λ z. a.opened) one second) (released_ran A (λ z. tt) both.pair))

  -- ---- and so is a tick

  ticked_asks : (shown : BroadcastState) (x : PairEnds) → x.bearer ≡ 0 → IsStill own peer x → AreHeard x → IfSome x.near IsKnowing → IfSome x.far IsKnowing → Ran (Asks own peer Came) x (ticked shown x)
  unfolding going_on
  ticked_asks shown x zero_is h heard near far =
      let A = Asks own peer Came in
      let call = tick_near shown in
      let two : x.bearer ≤ 1 = omega (arith, zero_is) in
      let here : facing 0 x ≡ x = facing_near 0 x zero_is in
      let first = at_bearer 0 x call in
      let one : Ran A x first = at_ran A 0 x call two (subst (λ z. Ran A z (call z)) (sym here) (tick_ran A shown x (heard.near, near))) in
      let w = (call x).pair in
      let ticks_near = tick_near_still own peer shown x h heard.near in
      let stays_on : w.bearer ≡ 0 = ticks_near.2 ∙ zero_is in
      let y = first.pair in
      let same : y ≡ w = ap (λ z. facing x.bearer (call z).pair) here ∙ ap (λ b. facing b w) zero_is ∙ facing_near 0 w stays_on in
      let apart : (w.bearer == 1) ≡ false = grind (arith, nat_tests, stays_on) in
      let there : (facing 1 y).near ≡ x.far = ap (λ (z : PairEnds). (facing 1 z).near) same ∙ ap (λ (z : PairEnds). z.near) (facing_far 1 w apart) ∙ tick_far own peer shown x x.near refl h heard.near in
      let back = sym there in
      let asks : A (facing 1 y) (ticking shown) = (subst (λ o. silence_in o ≤ 3) back heard.far, subst (λ o. IfSome o IsKnowing) back far) in
      let both = going_on first (λ z. at_bearer 1 z call) in
      let second = at_ran A 1 y call (ran_two A x first one two) (tick_ran A shown (facing 1 y) asks) in
      goes_on x both released (goes_on x first (λ z. at_bearer 1 z call) one second) (released_ran A (λ z. tt) both.pair)

  -- ---- a turn

  -- what is heard
  abbrev pub Comes : Opening → Type 0
  Comes (hears bearer es er p by shown) = er ≡ own.epoch bearer → Wakes p.header → Came bearer
  Comes other = Unit {0}

  opening_ran : (x : PairEnds) (opening : Opening) (o : Outset) → x.bearer ≡ 0 → IsOnOne opening → MakesNew x opening → MayCome peer x opening → IfSome x.near IsKnowing → IfSome x.far IsKnowing → IsStill own peer x
      → Comes opening → Happened x opening o → Ran (Asks own peer Came) x o.course
  opening_ran x rests o zero_is one new may near far h comes is = happened_ran (Asks own peer Came) (λ y. tt) x rests o h.two tt is
  opening_ran x (makes bearer is_mended) o zero_is one new may near far h comes is = happened_ran (Asks own peer Came) (λ y. tt) x (makes bearer is_mended) o h.two (new, tt) is
  opening_ran x (mends bearer) o zero_is one new may near far h comes is = happened_ran (Asks own peer Came) (λ y. tt) x (mends bearer) o h.two tt is
  opening_ran x (cuts bearer) o zero_is one new may near far h comes is = absurd may
  opening_ran x (ticks shown) o zero_is one new may near far h comes is = as_run o (ticked shown x) is (ticked_asks shown x zero_is h may near far)
    where
      as_run : {given : PairOutcome} (o : Outset) (c : Course) → o ≡ record { course = c; given = given } → Ran (Asks own peer Came) x c → Ran (Asks own peer Came) x o.course
      as_run o c same run = subst (λ (u : Outset). Ran (Asks own peer Came) x u.course) (sym same) run
  opening_ran x (hears bearer es er p by shown) o zero_is one new may near far h comes is =
      let z = facing bearer x in
      let on = facing_bearer bearer x one h.two in
      let run = arrived_ran bearer z es er p by shown is.0 is.1 (facing_two bearer x h.two) on may comes is.2 in
      subst (λ (u : Outset). Ran (Asks own peer Came) x u.course) (sym is.3) (at_ran (Asks own peer Came) bearer x (λ y. is.0) h.two run)

  -- what a turn leaves
  pub record TurnLeaves (x x' : PairEnds) (frames : List Outgoing) : Type 0 where
    pub said : All (Said peer x') frames
    pub bearer : x'.bearer ≡ x.bearer
    pub near : is_up_at x'.near ≡ true → (is_up_at x.near ≡ true) ⊎ Came x.bearer
    pub far : is_up_at x'.far ≡ true → (is_up_at x.far ≡ true) ⊎ Came (other x.bearer)

  turn_leaves : (x x' : PairEnds) (opening : Opening) (messages : List (List ℕ)) (reply : Option Reply) (frames : List Outgoing) → x.bearer ≡ 0 → IsOnOne opening → MakesNew x opening → MayCome peer x opening
      → IfSome x.near IsKnowing → IfSome x.far IsKnowing → Comes opening → IsStill own peer x → Both On x → PairTurn x opening messages reply x' frames → TurnLeaves x x' frames
  unfolding going_on
  turn_leaves x x' opening messages reply frames zero_is one new may near far comes h both t =
      let A = Asks own peer Came in
      let two = h.two in
      let c = t.first.course in
      let begins = opening_ran x opening t.first zero_is one new may near far h comes t.happened in
      let there = ran_two A x c begins two in
      let step = λ (y : PairEnds). record (nothing t.put) { numbered = t.put_frames } in
      let second = puts_ran A c.pair messages t.put_frames t.put there (λ i d within z up. up) t.puts in
      let all = goes_on x c step begins second in
      let run = goes_on x (going_on c step) (replied reply) all (replied_ran A reply t.put (ran_two A x (going_on c step) all two) (λ r is z. tt)) in
      let k = ran_leaves own peer Came x (turn_course t) run h both in
      let said = turn_frames (Said peer (turn_course t).pair) x x' opening messages reply frames t k.states k.numbered in
      let same = turn_pair x x' opening messages reply frames t in
      record {
        said = subst (λ z. All (Said peer z) frames) (sym same) said;
        bearer = ap (λ (z : PairEnds). z.bearer) same ∙ k.bearer;
        near = λ up. k.near_up (ap (λ (z : PairEnds). is_up_at z.near) (sym same) ∙ up);
        far = λ up. k.far_up (ap (λ (z : PairEnds). is_up_at z.far) (sym same) ∙ up);
      }

-- ---- what is read of a frame

spelled : (q : Fields) → spelling q ≡ word (word_0 q) ++ (word (word_1 q.header) ++ (word (word_2 q) ++ (word q.previous ++ (words (user_words q.header ++ number_words q.header) ++ q.rest))))
unfolding spelling
spelled q = simp (flat_map-cons, append_assoc)

-- the second word of a packet
second_word : (q : Fields) → word_0 q < 2 ^ 32 → word_1 q.header < 2 ^ 32 → word_at 1 (spelling q) ≡ word_1 q.header
second_word q low high =
    let more = word (word_2 q) ++ (word q.previous ++ (words (user_words q.header ++ number_words q.header) ++ q.rest)) in
    let first = word_0 q in
    let second = word_1 q.header in
    let two : words (first ∷ second ∷ []) ≡ word first ++ word second = ap (λ xs. word first ++ xs) (append-nil (word second)) in
    ap (word_at 1) (spelled q ∙ sym (append_assoc (word first) (word second) more) ∙ ap (λ xs. xs ++ more) (sym two)) ∙ word_at-words 1 (first ∷ second ∷ []) more (low, (high, tt)) (omega arith)

-- it tells a RESET from an ACTIVATE
reset_word : (acknowledgement sequence previous : ℕ) (said : Reset) → word_at 1 (spelling (record { acknowledgement = acknowledgement; sequence = sequence; previous = previous; header = header.Reset said; rest = [] })) ≡ 536870912
unfolding word_0 word_1
reset_word acknowledgement sequence previous said =
    let q : Fields = record { acknowledgement = acknowledgement; sequence = sequence; previous = previous; header = header.Reset said; rest = [] } in
    second_word q (omega arith) (omega arith)

activate_word : (acknowledgement sequence previous : ℕ) (said : Reset) (rest : List ℕ) → length rest < 2 ^ 17 → word_at 1 (spelling (record { acknowledgement = acknowledgement; sequence = sequence; previous = previous; header = header.Activate said; rest = rest })) ≡ 1073741824
unfolding word_0 word_1
activate_word acknowledgement sequence previous said rest small =
    let q : Fields = record { acknowledgement = acknowledgement; sequence = sequence; previous = previous; header = header.Activate said; rest = rest } in
    second_word q (omega (arith, small)) (omega arith)

two_words_apart : (n : ℕ) → n ≡ 536870912 → n ≡ 1073741824 → ⊥
two_words_apart n one two = omega (arith, one, two)

packet_in : (es er es' er' : ℕ) (a b : List ℕ) → frame_of es er a ≡ frame_of es' er' b → a ≡ b
packet_in es er es' er' a b same = sym (drop_at (envelope es er) a 16 (length-envelope es er)) ∙ ap (drop 16) same ∙ drop_at (envelope es' er') b 16 (length-envelope es' er')

not_an_activate : (e : LinkEnd) (said told : Reset) (es er : ℕ) (p : Fields) → Fits p → (notice e (header.Reset said)).frame ≡ frame_of es er (spelling p) → p.header ≡ header.Activate told → ⊥
not_an_activate e said told es er p fits same is =
    let q : Fields = record { acknowledgement = p.acknowledgement; sequence = p.sequence; previous = p.previous; header = header.Activate told; rest = p.rest } in
    let here : p ≡ q = ap (λ (h : Header). record { acknowledgement = p.acknowledgement; sequence = p.sequence; previous = p.previous; header = h; rest = p.rest }) is in
    let size = fits.size in
    let small : length p.rest < 2 ^ 17 = omega (arith, size) in
    let bytes : spelling (notice_fields e (header.Reset said)) ≡ spelling q = packet_in _ _ es er _ (spelling p) same ∙ ap spelling here in
    two_words_apart (word_at 1 (spelling q)) (sym (ap (word_at 1) bytes) ∙ reset_word 0 0 e.own said) (activate_word p.acknowledgement p.sequence p.previous told p.rest small)

-- an end that knows another epoch shows another one
shows_other : (e : LinkEnd) (said : Reset) (es er epoch : ℕ) (p : Fields) → es < 2 ^ 64 → er < 2 ^ 64 → KnowsOther epoch e.fsm → (notice e (header.Activate said)).frame ≡ frame_of es er (spelling p) → er ≡ epoch → ⊥
shows_other e said es er epoch p es_fits er_fits knows same is =
    let k = knows.known_epoch in
    let shown : known e.fsm.peer ≡ k = ap known knows.knows in
    let told : er_of (frame_of e.fsm.own k (spelling (notice_fields e (header.Activate said)))) ≡ k = er_of-frame e.fsm.own k (spelling (notice_fields e (header.Activate said))) knows.own knows.fits in
    let read : er_of (frame_of es er (spelling p)) ≡ er = er_of-frame es er (spelling p) es_fits er_fits in
    knows.differs (sym told ∙ ap (λ n. er_of (frame_of e.fsm.own n (spelling (notice_fields e (header.Activate said))))) (sym shown) ∙ ap er_of same ∙ read ∙ is)

-- ---- the law

answers_at : (epoch : ℕ) (o : Option LinkEnd) (f : Fsm) → fsm_in o ≡ Some f → AnswersTo epoch f → AnswersAt epoch o
answers_at epoch None f is says = absurd (let wrong : ⊥ = cc in wrong)
answers_at epoch (Some e) f is says = (let same : f ≡ e.fsm = cc in record { end = e; there = refl; answers = subst (AnswersTo epoch) same says })

said_tells : (peer : Footing) (x : PairEnds) (o : Outgoing) → x.bearer ≤ 1 → Said peer x o → ShowsAnswering peer x o
said_tells peer x o two (resets e said is) es er p told es_fits er_fits fits same header_is present = absurd (not_an_activate e said told es er p fits (ap (λ (u : Outgoing). u.frame) (sym is) ∙ same) header_is)
said_tells peer x o two (names e said is knows) es er p told es_fits er_fits fits same header_is present =
    absurd (shows_other e said es er (peer.epoch o.bearer) p es_fits er_fits knows (ap (λ (u : Outgoing). u.frame) (sym is) ∙ same) present)
said_tells peer x o two (by_near on says) es er p told es_fits er_fits fits same header_is present =
    let k = answers_at (peer.epoch x.bearer) x.near says.0 says.1 says.2 in
    subst (AnswersAt (peer.epoch o.bearer)) (ap (λ (z : PairEnds). z.near) (sym (facing_near o.bearer x (sym on)))) (subst (λ b. AnswersAt (peer.epoch b) x.near) (sym on) k)
said_tells peer x o two (by_far on says) es er p told es_fits er_fits fits same header_is present =
    let k = answers_at (peer.epoch (other x.bearer)) x.far says.0 says.1 says.2 in
    let apart : (x.bearer == o.bearer) ≡ false = grind (arith, nat_tests, on, two) in
    subst (AnswersAt (peer.epoch o.bearer)) (ap (λ (z : PairEnds). z.near) (sym (facing_far o.bearer x apart))) (subst (λ b. AnswersAt (peer.epoch b) x.far) (sym on) k)

-- an end of nodes that talk
known_end : (v w : Sight) (bearer : ℕ) → AreSeen v w → (o : Option LinkEnd) → v.ends bearer ≡ o → IfSome o IsAbreast → IfSome o IsKnowing
known_end v w bearer h None is abreast = tt
known_end v w bearer h (Some e) is abreast =
    let end = ends v w bearer e h is in
    record {
      own = (framed_at v w bearer h (Some e) is).1;
      knows = λ reset. (
          let knows : e.fsm.peer ≡ Some e.fsm.highest = abreast.peer_is (either_so (is_up e.fsm.state) (is_reset_reset e.fsm.state) reset) in
          (e.fsm.highest, knows, (end.peer_fits e.fsm.highest knows).0));
    }

on_end : (v w : Sight) (bearer : ℕ) → AreSeen v w → (o : Option LinkEnd) → v.ends bearer ≡ o → IfSome o (On bearer)
on_end v w bearer h None is = tt
on_end v w bearer h (Some e) is = record { end = (framed_at v w bearer h (Some e) is).0; mended = λ was. refl; up = λ was. refl }

-- a turn of nodes that talk
turn_of : (v w : Sight) (own peer : Footing) (Came : ℕ → Type 0) (opening : Opening) (messages : List (List ℕ)) (reply : Option Reply) (x' : PairEnds) (frames : List Outgoing) → AreSeen v w → AreAbreast (pair_seen v) → IsStill own peer (pair_seen v)
    → IsOnOne opening → MakesNew (pair_seen v) opening → MayCome peer (pair_seen v) opening → Comes own peer Came opening → PairTurn (pair_seen v) opening messages reply x' frames → TurnLeaves own peer Came (pair_seen v) x' frames
turn_of v w own peer Came opening messages reply x' frames h abreast still one new may comes t =
    let x = pair_seen v in
    let both : Both On x = record { two = omega arith; near = on_end v w 0 h (v.ends 0) refl; far = on_end v w 1 h (v.ends 1) refl } in
    turn_leaves own peer Came x x' opening messages reply frames refl one new may (known_end v w 0 h (v.ends 0) refl abreast.near) (known_end v w 1 h (v.ends 1) refl abreast.far) comes still both t

pub turns_tell_answer : TurnsTellAnswer
turns_tell_answer v w own peer opening messages reply x' frames h abreast still one new may t =
    let k = turn_of v w own peer (λ bearer. Unit {0}) opening messages reply x' frames h abreast still one new may (by opening) t in
    let at = k.bearer in
    All-weaker (Said peer x') (ShowsAnswering peer x') (λ o said. said_tells peer x' o (omega (arith, at)) said) frames k.said
  where
    by : (opening : Opening) → Comes own peer (λ bearer. Unit {0}) opening
    by (hears bearer es er p number shown) = λ ours wakes. tt
    by _ = tt

-- a link goes up by what is heard on its bearer
pub ups_were_heard : UpsWereHeard
ups_were_heard v w own peer opening messages reply x' frames bearer h abreast still one new may t two up =
    let Came : ℕ → Type 0 = λ b. HeardOn own b opening in
    let k = turn_of v w own peer Came opening messages reply x' frames h abreast still one new may (by opening) t in
    at bearer k two up
  where
    by : (opening : Opening) → Comes own peer (λ b. HeardOn own b opening) opening
    by (hears on es er p number shown) = λ ours wakes. (refl, ours, wakes)
    by _ = tt

    at : (bearer : ℕ) → TurnLeaves own peer (λ b. HeardOn own b opening) (pair_seen v) x' frames → bearer ≤ 1 → is_up_at (facing bearer x').near ≡ true → (is_up_at (facing bearer (pair_seen v)).near ≡ true) ⊎ HeardOn own bearer opening
    at zero k two up =
        elim (k.near (ap (λ (z : PairEnds). is_up_at z.near) (sym (facing_near 0 x' k.bearer)) ∙ up)) [
          | inl was ↦ inl (ap (λ (z : PairEnds). is_up_at z.near) (facing_near 0 (pair_seen v) refl) ∙ was)
          | inr came ↦ inr came
        ]
    at (suc zero) k two up =
        let on = k.bearer in
        let apart : (x'.bearer == 1) ≡ false = grind (arith, nat_tests, on) in
        elim (k.far (ap (λ (z : PairEnds). is_up_at z.near) (sym (facing_far 1 x' apart)) ∙ up)) [
          | inl was ↦ inl (ap (λ (z : PairEnds). is_up_at z.near) (facing_far 1 (pair_seen v) refl) ∙ was)
          | inr came ↦ inr came
        ]
    at (suc (suc more)) k two up = absurd (omega (arith, two))
