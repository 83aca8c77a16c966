-- Each link end of a pair tells whether its bearer is mended, and its link is up only where it is: what a turn keeps of that.
use Rattle.std.proofs.Common.{◌≡◌, ◌≤◌, ◌+◌, ◌==◌, ◌∙◌, ℕ, Bool, true, false, List, Option, Some, None, option_map, refl, sym, ap, subst, arith}
use Rattle.std.specs.Prelude.{IfSome, if◌then◌else◌}
use Rattle.std.proofs.lemmas.Bool.{true≢false}
use Rattle.tipc_types.specs.LinkStates.{is_up}
use Rattle.tipc_types.specs.declared.link_words.Reply.TheVariants as reply
use Rattle.tipc_outside.specs.declared.outgoing.Outgoing.{Outgoing}
use Rattle.tipc_link_fsm.specs.declared.changes.Change.{Change}
use Rattle.tipc_link_fsm.specs.declared.changes.Change.TheVariants.{Answer, Down, Ignore, Stay, Up}
use Rattle.tipc_link_fsm.specs.Table.{Fsm, Outcome, forget_peer, is_held, lowered, on_cut, release}
use Rattle.tipc_link_fsm.proofs.Moves.{Moves, cases_on, falls, on_peer_tunnel_moves, on_reset_moves, on_tick_moves, rises, stays as still}
use Rattle.tipc_link.specs.Links.{LinkEnd, after, cut_end, followed, handed_over, heard_end, is_heard, named_end, outcome_of, tunnelled_end, with_fsm, with_session, without_waiting}
use Rattle.tipc_link.specs.Sessions.{SessionEnd, answered as said, content_of, flushed, with_broadcast}
use Rattle.tipc_link.proofs.Ends.{ended-is}
use Rattle.tipc_pair.specs.Changeovers.{contact_begins, contact_ends, fail_over, fail_over_to, failing, following, forgetting, forgotten, gone_down, gone_up, is_clear, let_go, let_go_frames, parted, parted_end, release_near, released, switch, switch_from, switching}
use Rattle.tipc_pair.specs.Courses.{Course, going_on, rests as nothing}
use Rattle.tipc_pair.specs.Facing.{PairEnds, facing, in_contact, is_up_at, other, turned, with_near}
use Rattle.tipc_pair.specs.PairArrivals.{inside_of}
use Rattle.tipc_pair.specs.PairCalls.{at_bearer, cut_at, cut_near, mended as mended_of, mended_near}
use Rattle.tipc_pair.specs.PairTurns.{Opening, PairTurn, Reply, made_near}
use Rattle.tipc_pair.specs.PairTurns.Opening.{cuts, hears, makes, mends, rests, ticks}
use Rattle.tipc_header.specs.declared.packet.Header.{Header}
use Rattle.tipc_header.specs.declared.packet.Header.TheVariants as header
use Rattle.tipc_header.specs.Spelling.{Fields}
use Rattle.tipc_types.specs.declared.link_words.BroadcastState.{BroadcastState}
use Rattle.tipc_pair.proofs.acts.Acting.{MayHappen, MayHear, MayTurn, opens_may, turn_course, turn_pair, turn_ran}
use Rattle.tipc_pair.proofs.EndSteps.{fsm_after}
use Rattle.tipc_pair.proofs.acts.Acts.{Act, Acts, Steps}
use Rattle.tipc_pair.proofs.acts.Acts.Act.{cuts as cutting, makes as making, meets as meeting, mends as mending}
use Rattle.tipc_pair.proofs.acts.Acts.Acts.{answered, counted, let_go_of, made, mended, moved, opened, put, raised}
use Rattle.tipc_pair.proofs.acts.Acts.Steps.{cut, meet, name, reset, tick}
use Rattle.tipc_pair.proofs.acts.Walks.{Walk, tested, walks}
use Rattle.tipc_pair.proofs.turns.PairKept.{Both, both_facing, both_turned, facing_bearer}
use Rattle.tipc_node.specs.Ends.{StandsOn}

-- an end that stands so stays so, where its bearer is told as before and it is up only where it was
stands_as : (m : Bool) (e d : LinkEnd) → StandsOn m e → d.mended ≡ e.mended → (is_up d.fsm.state ≡ true → is_up e.fsm.state ≡ true) → StandsOn m d
stands_as m e d h same up = record { same = same ∙ h.same; up = λ is. h.up (up is) }

-- or where it is down
stands_down : (m : Bool) (e d : LinkEnd) → StandsOn m e → d.mended ≡ e.mended → is_up d.fsm.state ≡ false → StandsOn m d
stands_down m e d h same down = stands_as m e d h same (λ is. absurd (true≢false (sym is ∙ down)))

ended_down : (contact seen : ℕ) (e : LinkEnd) → is_up (parted_end contact seen e).fsm.state ≡ false
ended_down contact seen e = ap (λ (f : Fsm). is_up f.state) (ended-is e.fsm)

forgot_down : (f : Fsm) → is_up (forget_peer f).after.state ≡ false
unfolding forget_peer
forgot_down f = cases_on (λ o. is_up o.after.state ≡ false) (is_up f.state) _ _ (λ _. refl) (λ _. refl)

released_up : (f : Fsm) → is_up (release f).after.state ≡ true → is_up f.state ≡ true
unfolding release
released_up f = cases_on (λ o. is_up o.after.state ≡ true → is_up f.state ≡ true) (is_held f.state) _ _ (λ _ up. absurd (true≢false (sym up))) (λ _ up. up)

-- what follows a change of its link states leaves the bearer of an end as it is told
followed_mended : (e : LinkEnd) (change : Change) → (followed e change).mended ≡ e.mended
followed_mended e Up = refl
followed_mended e (Answer (reply.State probe)) = refl
followed_mended e (Answer reply.Reset) = refl
followed_mended e (Answer reply.Activate) = refl
followed_mended e Stay = refl
followed_mended e (Down cause) = refl
followed_mended e (Ignore reason) = refl

-- by a call whose frame shows no epochs no link goes up
no_rise : (f : Fsm) (o : Outcome) → Moves f None o → is_up o.after.state ≡ true → is_up f.state ≡ true
no_rise f o (still own up quiet) is = sym up ∙ is
no_rise f o (rises es own was up last shown peer rising) is = absurd (let wrong : ⊥ = cc in wrong)
no_rise f o (falls own down quiet) is = absurd (true≢false (sym is ∙ down))

module _ (M : ℕ → Bool) where
  -- both ends stand so, each by its bearer
  abbrev pub Stand : PairEnds → Type 0
  Stand x = Both (λ b e. StandsOn (M b) e) x

  -- what may be done here: no end is made, no bearer is mended or cut, and a packet comes on a mended bearer alone
  abbrev pub MayStand : PairEnds → Act → Type 0
  MayStand x making = ⊥
  MayStand x mending = ⊥
  MayStand x cutting = ⊥
  MayStand x (meeting es er p by shown) = M x.bearer ≡ true
  MayStand x other = Unit {0}

  near_stands : (x : PairEnds) (e : LinkEnd) → x.near ≡ Some e → Stand x → StandsOn (M x.bearer) e
  near_stands x e is h = subst (λ o. IfSome o (StandsOn (M x.bearer))) is h.near

  far_stands : (x : PairEnds) (e : LinkEnd) → x.far ≡ Some e → Stand x → StandsOn (M (other x.bearer)) e
  far_stands x e is h = subst (λ o. IfSome o (StandsOn (M (other x.bearer)))) is h.far

  near_other : (x : PairEnds) (e : LinkEnd) → StandsOn (M x.bearer) e → Stand x → Stand (with_near x e)
  near_other x e stands h = record { two = h.two; near = stands; far = h.far }

  -- ---- what follows a change of the near link

  parts_one : (m : Bool) (contact seen : ℕ) (o : Option LinkEnd) → IfSome o (StandsOn m) → IfSome (option_map (parted_end contact seen) o) (StandsOn m)
  parts_one m contact seen None h = tt
  parts_one m contact seen (Some e) h = stands_down m e (parted_end contact seen e) h refl (ended_down contact seen e)

  parts_stand : (x : PairEnds) → Stand x → Stand (parted x)
  parts_stand x h = record { two = h.two; near = parts_one (M x.bearer) (x.contact + 1) x.seen x.near h.near; far = parts_one (M (other x.bearer)) (x.contact + 1) x.seen x.far h.far }

  forgets_one : (m : Bool) (seen : ℕ) (o : Option LinkEnd) → IfSome o (StandsOn m) → IfSome (option_map (forgetting seen) o) (StandsOn m)
  forgets_one m seen None h = tt
  forgets_one m seen (Some e) h = stands_down m e (forgetting seen e) h refl (forgot_down e.fsm)

  failing_stand : (x : PairEnds) (near far : LinkEnd) (lost s : Option SessionEnd) → x.near ≡ Some near → x.far ≡ Some far → Stand x → Stand (failing x near far lost s).pair
  failing_stand x near far (Some lost) (Some s) one two h = record {
    two = h.two;
    near = stands_as _ near (handed_over near) (near_stands x near one h) refl (λ up. up);
    far = stands_as _ far _ (far_stands x far two h) refl (λ up. up);
  }
  failing_stand x near far (Some lost) None one two h = h
  failing_stand x near far None s one two h = h

  fail_over_stand : (x : PairEnds) (o p : Option LinkEnd) → x.near ≡ o → x.far ≡ p → Stand x → Stand (fail_over_to x o p).pair
  fail_over_stand x (Some near) (Some far) one two h = failing_stand x near far near.session far.session one two h
  fail_over_stand x (Some near) None one two h = h
  fail_over_stand x None p one two h = h

  switching_stand : (x : PairEnds) (near far : LinkEnd) (s old : Option SessionEnd) → x.near ≡ Some near → x.far ≡ Some far → Stand x → Stand (switching x near far s old).pair
  switching_stand x near far (Some s) (Some old) one two h = record {
    two = h.two;
    near = stands_as _ near _ (near_stands x near one h) refl (λ up. up);
    far = stands_as _ far (without_waiting far) (far_stands x far two h) refl (λ up. up);
  }
  switching_stand x near far (Some s) None one two h = h
  switching_stand x near far None old one two h = h

  switch_stand : (x : PairEnds) (o p : Option LinkEnd) → x.near ≡ o → x.far ≡ p → Stand x → Stand (switch_from x o p).pair
  switch_stand x (Some near) (Some far) one two h = switching_stand x near far near.session far.session one two h
  switch_stand x (Some near) None one two h = h
  switch_stand x None p one two h = h

  abbrev Stands : Course → Type 0
  Stands c = Stand c.pair

  up_stand : (x : PairEnds) → Stand x → Stand (gone_up x).pair
  up_stand x h = tested Stands (is_up_at x.far) (if x.bearer == 0 then switch x else nothing x) (contact_begins x)
      (λ _. tested Stands (x.bearer == 0) (switch x) (nothing x) (λ _. switch_stand x x.near x.far refl refl h) (λ _. h)) (λ _. record { two = h.two; near = h.near; far = h.far })

  down_stand : (x : PairEnds) → Stand x → Stand (gone_down x).pair
  down_stand x h = tested Stands (is_up_at x.far) (fail_over x) (contact_ends x (x.contact, x.seen) 0) (λ _. fail_over_stand x x.near x.far refl refl h) (λ _. parts_stand x h)

  pub following_stand : (x : PairEnds) (change : Change) (epoch : ℕ) → Stand x → Stand (following x change epoch).pair
  following_stand x Up epoch h = up_stand x h
  following_stand x (Down cause) epoch h = down_stand x h
  following_stand x Stay epoch h = h
  following_stand x (Answer reply) epoch h = h
  following_stand x (Ignore reason) epoch h = h

  -- ---- the acts

  after_stands : (m : Bool) (e : LinkEnd) (o : Outcome) → StandsOn m e → (is_up o.after.state ≡ true → m ≡ true) → StandsOn m (after e o)
  after_stands m e o h up = record { same = followed_mended (with_fsm e o.after) o.change ∙ h.same; up = λ is. up (ap (λ (f : Fsm). is_up f.state) (sym (fsm_after e o)) ∙ is) }

  step_stands : (x : PairEnds) (a : Act) (e : LinkEnd) (o : Outcome) (e' : LinkEnd) (states numbered : List Outgoing) (epoch : ℕ) → MayStand x a → StandsOn (M x.bearer) e → Steps x e a o e' states numbered epoch
      → StandsOn (M x.bearer) e'
  step_stands x _ e _ _ _ _ _ may h cut = absurd may
  step_stands x _ e _ _ _ _ _ may h (tick shown) = after_stands _ e _ h (λ up. h.up (no_rise e.fsm _ (on_tick_moves e.fsm (is_up_at x.far) None) up))
  step_stands x _ e _ _ _ _ _ may h (reset es held shown) = after_stands _ e _ h (λ up. h.up (no_rise e.fsm _ (on_reset_moves e.fsm es held None) up))
  step_stands x _ e _ _ _ _ _ may h (name epoch) = stands_as _ e _ h refl (λ up. no_rise e.fsm _ (on_peer_tunnel_moves e.fsm epoch None) up)
  step_stands x _ e _ _ _ _ _ may h (meet es er p by shown) =
      let o = outcome_of e.fsm p.header es er (is_up_at x.far) in
      let next = after_stands (M x.bearer) e o h (λ up. may) in
      tested (StandsOn (M x.bearer)) (is_heard p.header o.change) (heard_end (after e o) by p.acknowledgement (content_of p)) (after e o) (λ _. record { same = next.same; up = next.up }) (λ _. next)

  act_stands : (x : PairEnds) (a : Act) (c : Course) → MayStand x a → Acts x a c → Stand x → Stand c.pair
  unfolding going_on
  act_stands _ _ _ may (made x) h = absurd may
  act_stands _ _ _ may (mended x e near) h = absurd may
  act_stands _ _ _ may (moved x a e o e' states numbered epoch near step) h =
      following_stand (with_near x e') o.change epoch (near_other x e' (step_stands x a e o e' states numbered epoch may (near_stands x e near h) step) h)
  act_stands _ _ _ may (raised x number) h =
      tested Stands (in_contact x) (contact_ends (record x { seen = number }) (x.contact, x.seen) number) (nothing (forgotten x number))
      (λ _. parts_stand (record x { seen = number }) (record { two = h.two; near = h.near; far = h.far }))
      (λ _. record { two = h.two; near = forgets_one (M x.bearer) number x.near h.near; far = forgets_one (M (other x.bearer)) number x.far h.far })
  act_stands _ _ _ may (let_go_of x e near clear) h = let q = near_stands x e near h in near_other x (let_go e) (stands_as _ e (let_go e) q refl (λ up. released_up e.fsm up)) h
  act_stands _ _ _ may (counted x e t by near) h =
      let q = near_stands x e near h in
      tested (λ d. Stand (with_near x d)) (t.count == 0) (named_end e t.old.epoch) (tunnelled_end e t.old.epoch (inside_of t by))
      (λ _. near_other x (named_end e t.old.epoch) (stands_as _ e _ q refl (λ up. up)) h) (λ _. near_other x (tunnelled_end e t.old.epoch (inside_of t by)) (stands_as _ e _ q refl (λ up. up)) h)
  act_stands _ _ _ may (opened x packets given last brings) h = record { two = h.two; near = h.near; far = h.far }
  act_stands _ _ _ may (put x e s pieces s' near has is) h = near_other x (with_session e (flushed s')) (stands_as _ e _ (near_stands x e near h) refl (λ up. up)) h
  act_stands _ _ _ may (answered x e taken asks shown near) h =
      let q = near_stands x e near h in
      tested (λ d. Stand (with_near x d)) (is_up e.fsm.state) (record e { session = option_map (λ s. said (with_broadcast s taken asks)) e.session }) e
      (λ _. near_other x (record e { session = option_map (λ s. said (with_broadcast s taken asks)) e.session }) (stands_as _ e _ q refl (λ up. up)) h) (λ _. near_other x e q h)

  pub standing : Walk MayStand (λ x c. Stand x → Stand c.pair)
  unfolding going_on
  standing = record {
    rests = λ x h. h;
    goes_on = λ x first step one two h. two (one h);
    turns = λ x c there h. both_turned (λ b e. StandsOn (M b) e) c.pair (there (both_turned (λ b e. StandsOn (M b) e) x h));
    acts = λ x a c may does h. act_stands x a c may does h;
  }

  -- ---- a turn in which no bearer is mended or cut and no end is made, and what is heard comes on a mended bearer

  abbrev pub IsOnMended : Opening → Type 0
  IsOnMended (makes bearer is_mended) = ⊥
  IsOnMended (mends bearer) = ⊥
  IsOnMended (cuts bearer) = ⊥
  IsOnMended (hears bearer es er p by shown) = (bearer ≤ 1) × (M bearer ≡ true)
  IsOnMended other = Unit {0}

  may_hear : (h : Header) (es er : ℕ) (p : Fields) (by : ℕ) (shown : BroadcastState) (x : PairEnds) → x.bearer ≤ 1 → M x.bearer ≡ true → MayHear MayStand h es er p by shown x
  may_hear (header.Reset said) es er p by shown x two on = record { counts = λ higher. tt; resets = λ y bearer seen. tt }
  may_hear (header.Activate said) es er p by shown x two on = record { counts = λ higher. tt; meets = λ y bearer seen. ap M (bearer two) ∙ on }
  may_hear other es er p by shown x two on = on

  may_happen : (x : PairEnds) (opening : Opening) → x.bearer ≤ 1 → IsOnMended opening → MayHappen MayStand x opening
  may_happen x (makes bearer is_mended) two on = absurd on
  may_happen x (mends bearer) two on = absurd on
  may_happen x (cuts bearer) two on = absurd on
  may_happen x (ticks shown) two on = λ y. tt
  may_happen x (hears bearer es er p by shown) two on =
      let at = facing_bearer bearer x on.0 two in
      record {
        hears = may_hear p.header es er p by shown (facing bearer x) (let one = on.0 in omega (arith, at, one)) (ap M at ∙ on.1);
        opens = opens_may MayStand _ _ (λ y epoch. tt) (λ y t by'. tt) (λ y packets given. tt);
      }
  may_happen x rests two on = tt

  pub turn_stands : (x y : PairEnds) (opening : Opening) (messages : List (List ℕ)) (reply : Option Reply) (frames : List Outgoing) → IsOnMended opening → PairTurn x opening messages reply y frames → Stand x → Stand y
  turn_stands x y opening messages reply frames on t h =
      let may : MayTurn MayStand x opening messages reply = record { happens = may_happen x opening h.two on; puts = λ i d within z up. tt; answers = λ r is z. tt } in
      subst Stand (sym (turn_pair x y opening messages reply frames t)) (walks MayStand (λ z c. Stand z → Stand c.pair) standing x (turn_course t) (turn_ran MayStand (λ z. tt) x y opening messages reply frames h.two may t) h)

-- ---- a bearer is mended or cut, and an end is made

-- one bearer is told to be this now, and the other one as before
pub record Tells (M M' : ℕ → Bool) (bearer : ℕ) (now : Bool) : Type 0 where
  pub here : M' bearer ≡ now
  pub there : M' (other bearer) ≡ M (other bearer)

far_as : (M M' : ℕ → Bool) (bearer : ℕ) (now : Bool) (x : PairEnds) → Tells M M' bearer now → x.bearer ≡ bearer → Stand M x → IfSome x.far (StandsOn (M' (other x.bearer)))
far_as M M' bearer now x tells at h =
    subst (λ m. IfSome x.far (StandsOn m)) (ap (λ b. M (other b)) at ∙ sym tells.there ∙ ap (λ b. M' (other b)) (sym at)) h.far

mends_near : (M M' : ℕ → Bool) (bearer : ℕ) (x : PairEnds) → Tells M M' bearer true → x.bearer ≡ bearer → Stand M x → Stand M' (mended_near x x.near)
mends_near M M' bearer x tells at h = by x.near refl
  where
    far : IfSome x.far (StandsOn (M' (other x.bearer)))
    far = far_as M M' bearer true x tells at h

    now : M' x.bearer ≡ true
    now = ap M' at ∙ tells.here

    by : (o : Option LinkEnd) → x.near ≡ o → Stand M' (mended_near x o)
    by None is = record { two = h.two; near = subst (λ o. IfSome o (StandsOn (M' x.bearer))) (sym is) tt; far = far }
    by (Some e) is = record { two = h.two; near = record { same = sym now; up = λ up. now }; far = far }

pub mend_stands : (M M' : ℕ → Bool) (bearer : ℕ) (x : PairEnds) → bearer ≤ 1 → Tells M M' bearer true → Stand M x → Stand M' (at_bearer bearer x mended_of).pair
mend_stands M M' bearer x one tells h =
    let at = facing_bearer bearer x one h.two in
    both_facing (λ b e. StandsOn (M' b) e) x.bearer _ (mends_near M M' bearer (facing bearer x) tells at (both_facing (λ b e. StandsOn (M b) e) bearer x h))

lowered_down : (f : Fsm) (held : Bool) → is_up (lowered f held).state ≡ false
lowered_down f true = refl
lowered_down f false = refl

cut_down : (f : Fsm) (held : Bool) → is_up (on_cut f held).after.state ≡ false
unfolding on_cut
cut_down f held = cases_on (λ o. is_up o.after.state ≡ false) (is_up f.state) _ _ (λ _. lowered_down f held) (λ down. down)

let_go_one : (m : Bool) (o : Option LinkEnd) → IfSome o (StandsOn m) → IfSome (option_map let_go o) (StandsOn m)
let_go_one m None h = tt
let_go_one m (Some e) h = stands_as m e (let_go e) h refl (λ up. released_up e.fsm up)

release_stands : (M : ℕ → Bool) (x : PairEnds) → Stand M x → Stand M (release_near x).pair
release_stands M x h =
    tested (λ (c : Course). Stand M c.pair) (is_clear x.far) (record (nothing (record x { near = option_map let_go x.near })) { states = let_go_frames x.near }) (nothing x)
    (λ _. record { two = h.two; near = let_go_one (M x.bearer) x.near h.near; far = h.far }) (λ _. h)

released_stands : (M : ℕ → Bool) (x : PairEnds) → Stand M x → Stand M (released x).pair
unfolding going_on released
released_stands M x h =
    let Q : ℕ → LinkEnd → Type 0 = λ b e. StandsOn (M b) e in
    let y = (release_near x).pair in
    both_turned Q (release_near (turned y)).pair (release_stands M (turned y) (both_turned Q y (release_stands M x h)))

cuts_near : (M M' : ℕ → Bool) (bearer : ℕ) (x : PairEnds) → Tells M M' bearer false → x.bearer ≡ bearer → Stand M x → Stand M' (cut_at x x.near).pair
cuts_near M M' bearer x tells at h = by x.near refl
  where
    far : IfSome x.far (StandsOn (M' (other x.bearer)))
    far = far_as M M' bearer false x tells at h

    now : M' x.bearer ≡ false
    now = ap M' at ∙ tells.here

    by : (o : Option LinkEnd) → x.near ≡ o → Stand M' (cut_at x o).pair
    by None is = record { two = h.two; near = subst (λ o. IfSome o (StandsOn (M' x.bearer))) (sym is) tt; far = far }
    by (Some e) is =
        let held = is_up_at x.far in
        following_stand M' (with_near x (cut_end e held)) (on_cut e.fsm held).change 0
        (record { two = h.two; near = record { same = sym now; up = λ up. absurd (true≢false (sym up ∙ cut_down e.fsm held)) }; far = far })

pub cut_stands : (M M' : ℕ → Bool) (bearer : ℕ) (x : PairEnds) → bearer ≤ 1 → Tells M M' bearer false → Stand M x → Stand M' (at_bearer bearer x cut_near).pair
unfolding going_on
cut_stands M M' bearer x one tells h =
    let at = facing_bearer bearer x one h.two in
    let f = facing bearer x in
    both_facing (λ b e. StandsOn (M' b) e) x.bearer _ (released_stands M' (cut_at f f.near).pair (cuts_near M M' bearer f tells at (both_facing (λ b e. StandsOn (M b) e) bearer x h)))

-- an end that is made on a mended bearer tells so, and is down
pub make_stands : (M : ℕ → Bool) (bearer : ℕ) (x : PairEnds) → bearer ≤ 1 → M bearer ≡ true → Stand M x → Stand M (at_bearer bearer x (made_near true)).pair
unfolding going_on
make_stands M bearer x one on h =
    let at = facing_bearer bearer x one h.two in
    let f = facing bearer x in
    let hf = both_facing (λ b e. StandsOn (M b) e) bearer x h in
    let now : M f.bearer ≡ true = ap M at ∙ on in
    both_facing (λ b e. StandsOn (M b) e) x.bearer _ (record { two = hf.two; near = record { same = sym now; up = λ up. now }; far = hf.far })
