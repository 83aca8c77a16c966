-- What every call leaves true of the ends of a pair, and of the frames that leave: it is shown once for whatever each step of a link end keeps.
use Rattle.std.specs.Prelude.{All, IfSome, ◌==◌, ◌-◌, if◌then◌else◌}
use Rattle.std.specs.List.{flat_map}
use Rattle.std.proofs.Common.{◌≡◌, ◌≤◌, ◌∙◌, ◌+◌, ℕ, Bool, true, false, List, [], Option, Some, None, option_map, refl, sym, subst, ap, arith}
use Rattle.std.proofs.lemmas.Bool.Decides.{nat_tests}
use Rattle.std.proofs.lemmas.Grind.{flat_map-append}
use Rattle.std.proofs.lemmas.List.Elements.{All-append, All-nil}
use Rattle.tipc_types.specs.declared.link_words.BroadcastState.{BroadcastState}
use Rattle.tipc_outside.specs.declared.outgoing.Outgoing.{Outgoing}
use Rattle.tipc_header.specs.declared.packet.ChangeoverType.{ChangeoverType}
use Rattle.tipc_header.specs.declared.packet.Header.{Header}
use Rattle.tipc_header.specs.Spelling.{Fields}
use Rattle.tipc_recv_window.specs.declared.outcomes.LinkOutcome.{LinkOutcome}
use Rattle.tipc_link_fsm.specs.Table.{Fsm, Outcome, on_reset, on_tick}
use Rattle.tipc_link.specs.Links.{LinkEnd, after, answered_with, cut_end, frames, frames_with, handed_over, heard_end, is_heard, mend_frames, mended_end, named_end, newly_numbered, outcome_of, recorded, release_frames, repeats_at, reset_frames, sent_again, tunnelled_down, tunnelled_end, with_session, without_waiting}
use Rattle.tipc_link.specs.Records.{Received}
use Rattle.tipc_link.specs.Sessions.{Content, IsPut, SessionEnd, content_of, flush_frames, flushed, put}
use Rattle.tipc_pair.specs.declared.changes.PairOutcome.{PairOutcome}
use Rattle.tipc_pair.specs.Changeovers.{forgetting, let_go, loaded, parted, parted_end, risen}
use Rattle.tipc_pair.specs.Courses.{Course, going_on, rests as nothing}
use Rattle.tipc_pair.specs.Facing.{PairEnds, ends_of, facing, is_up_at, made_of, other, turned, with_made}
use Rattle.tipc_pair.specs.Messages.{pieces_for}
use Rattle.tipc_pair.specs.PairArrivals.{OpensInto, hears as heard_by, inside_of, reset_given, taken_down}
use Rattle.tipc_pair.specs.PairCalls.{at_bearer, cut_at, tick_near}
use Rattle.tipc_pair.specs.PairTurns.{Happened, Opening, Outset, PairTurn, PutsOne, Reply, replied}
use Rattle.tipc_pair.specs.PairTurns.Opening.{hears, makes, ticks}
use Rattle.tipc_pair.proofs.acts.Acts.{Act, Ran, Steps, near_course}
use Rattle.tipc_pair.proofs.acts.Acts.Act.{answers as answering, makes as making, meets as meeting, puts as putting, resets as resetting, ticks as ticking}
use Rattle.tipc_pair.proofs.acts.Acts.Steps.{cut, meet, name, reset, tick}
use Rattle.tipc_pair.proofs.acts.Acting.{MayHappen, MayHear, MayOpen, MayTurn, at_ran, cut_at_ran, given_ran, happened_ran, hears_may, hears_ran, opens_may, opens_ran, put_one_ran, ran_bearer, ran_own, ran_peer, replied_ran, risen_ran, taken_down_ran, tick_ran, turn_course, turn_frames, turn_pair, turn_ran}
use Rattle.tipc_pair.proofs.acts.Walks.{Parts, tested, walks_by_parts}

-- ---- the ends

-- so it is with both ends, each on its bearer
pub record Both (Q : ℕ → LinkEnd → Type 0) (x : PairEnds) : Type 0 where
  pub two : x.bearer ≤ 1
  pub near : IfSome x.near (Q x.bearer)
  pub far : IfSome x.far (Q (other x.bearer))

pub both_turned : (Q : ℕ → LinkEnd → Type 0) (x : PairEnds) → Both Q x → Both Q (turned x)
both_turned Q x h =
    let two = h.two in
    let back : x.bearer ≡ 1 - (1 - x.bearer) = omega (arith, two) in
    record { two = omega arith; near = h.far; far = subst (λ b. IfSome x.near (Q b)) back h.near }

pub both_facing : (Q : ℕ → LinkEnd → Type 0) (bearer : ℕ) (x : PairEnds) → Both Q x → Both Q (facing bearer x)
unfolding facing
both_facing Q bearer x h = elim (x.bearer == bearer) as (λ b. Both Q (if b then x else turned x)) [ true ↦ h | false ↦ both_turned Q x h ]

pub facing_bearer : (bearer : ℕ) (x : PairEnds) → bearer ≤ 1 → x.bearer ≤ 1 → (facing bearer x).bearer ≡ bearer
unfolding facing
facing_bearer bearer x one two = elim (x.bearer == bearer) as (λ b. (x.bearer == bearer) ≡ b → (if b then x else turned x).bearer ≡ bearer) [
  | true ↦ λ same. grind (arith, nat_tests, same)
  | false ↦ λ differs. grind (arith, nat_tests, differs, one, two)
] refl

pub facing_peer : (bearer : ℕ) (x : PairEnds) → (facing bearer x).peer ≡ x.peer
unfolding facing
facing_peer bearer x = elim (x.bearer == bearer) as (λ b. (if b then x else turned x).peer ≡ x.peer) [ true ↦ refl | false ↦ refl ]

-- ---- what the steps of a link end keep

-- what the link states make of an end, but for what takes it down without an answer
pub data Made (f : Fsm) : Outcome → Type 0 where
  by_packet : (h : Header) (es er : ℕ) (held : Bool) → Made f (outcome_of f h es er held)
  by_reset : (es : ℕ) (held : Bool) → Made f (on_reset f es held)
  by_tick : (held : Bool) → Made f (on_tick f held)

-- Each step of an end leaves it so, and its frames are so, where a STATE shows of the broadcast what one of these is shown as.
pub record ClosedBy (S : Type 0) (show : S → BroadcastState) (Q : ℕ → LinkEnd → Type 0) (F : Outgoing → Type 0) : Type 0 where
  pub steps : (b : ℕ) (e : LinkEnd) (o : Outcome) → Made e.fsm o → Q b e → Q b (after e o)
  pub step_frames : (b : ℕ) (e : LinkEnd) (o : Outcome) (shown : S) → Made e.fsm o → Q b e → All F (frames e o (show shown))
  pub hears : (b : ℕ) (e : LinkEnd) (by acknowledgement : ℕ) (c : Content) → Q b e → Q b (heard_end e by acknowledgement c)
  pub again : (b : ℕ) (e : LinkEnd) (acknowledgement : ℕ) (c : Content) → Q b e → All F (sent_again e.session acknowledgement c)
  pub newly : (b : ℕ) (e : LinkEnd) (by acknowledgement : ℕ) (c : Content) → Q b e → All F (newly_numbered e.session by acknowledgement c)
  pub mends : (b : ℕ) (e : LinkEnd) → Q b e → Q b (mended_end e)
  pub mend_frames : (b : ℕ) (e : LinkEnd) → Q b e → All F (mend_frames e)
  pub cuts : (b : ℕ) (e : LinkEnd) (held : Bool) → Q b e → Q b (cut_end e held)
  pub tunnels : (b : ℕ) (e : LinkEnd) (epoch : ℕ) → Q b e → Q b (tunnelled_down e epoch)
  pub parts : (b : ℕ) (e : LinkEnd) (contact seen : ℕ) → Q b e → Q b (parted_end contact seen e)
  pub resets : (b : ℕ) (e : LinkEnd) → Q b e → All F (reset_frames e)
  pub forgets : (b : ℕ) (e : LinkEnd) (seen : ℕ) → Q b e → Q b (forgetting seen e)
  pub hands : (b : ℕ) (e : LinkEnd) → Q b e → Q b (handed_over e)
  pub loads : (b : ℕ) (e : LinkEnd) (s : SessionEnd) (packets : List (List ℕ)) → e.session ≡ Some s → Q b e → Q b (loaded e s packets)
  pub load_frames : (b : ℕ) (e : LinkEnd) (s : SessionEnd) (packets : List (List ℕ)) → e.session ≡ Some s → Q b e → All F (flush_frames (put s packets))
  pub empties : (b : ℕ) (e : LinkEnd) → Q b e → Q b (without_waiting e)
  pub lets_go : (b : ℕ) (e : LinkEnd) → Q b e → Q b (let_go e)
  pub go_frames : (b : ℕ) (e : LinkEnd) → Q b e → All F (release_frames e)
  pub records : (b : ℕ) (e : LinkEnd) (r : Received) → Q b e → Q b (recorded e r)
  pub puts : (b : ℕ) (e : LinkEnd) (s : SessionEnd) (pieces : List (List ℕ)) (p : SessionEnd) → e.session ≡ Some s → IsPut s pieces p → Q b e → Q b (with_session e (flushed p))
  pub put_frames : (b : ℕ) (e : LinkEnd) (s : SessionEnd) (pieces : List (List ℕ)) (p : SessionEnd) → e.session ≡ Some s → IsPut s pieces p → Q b e → All F (flush_frames p)
  pub answers : (b : ℕ) (e : LinkEnd) (taken : ℕ) (asks : Bool) → Q b e → Q b (answered_with e taken asks)
  pub answer_frames : (b : ℕ) (e : LinkEnd) (taken : ℕ) (asks : Bool) (shown : S) → Q b e → All F (frames_with e taken asks (show shown))

-- whatever a STATE shows
abbrev pub Closed : (ℕ → LinkEnd → Type 0) → (Outgoing → Type 0) → Type 0
Closed Q F = ClosedBy BroadcastState (λ shown. shown) Q F

-- ---- courses

pub record Kept (Q : ℕ → LinkEnd → Type 0) (F : Outgoing → Type 0) (x : PairEnds) (c : Course) : Type 0 where
  pub both : Both Q c.pair
  pub bearer : c.pair.bearer ≡ x.bearer
  pub peer : c.pair.peer ≡ x.peer
  pub own : c.pair.own ≡ x.own
  pub states : All F c.states
  pub numbered : All F c.numbered

-- what is shown of the broadcast is one of these
abbrev pub IsShown : (S : Type 0) → (S → BroadcastState) → BroadcastState → Type 0
IsShown S show shown = (s : S) × (show s ≡ shown)

-- What is asked of an act: a new end is so, and what is shown of the broadcast is one of those.
abbrev pub MayKeep : (S : Type 0) → (S → BroadcastState) → (ℕ → LinkEnd → Type 0) → PairEnds → Act → Type 0
MayKeep S show Q x making = Both Q (with_made x)
MayKeep S show Q x (ticking shown) = IsShown S show shown
MayKeep S show Q x (resetting es shown) = IsShown S show shown
MayKeep S show Q x (meeting es er p by shown) = IsShown S show shown
MayKeep S show Q x (answering taken asks shown) = IsShown S show shown
MayKeep S show Q x other = Unit {0}

-- what a course leaves of that
record Keeps (Q : ℕ → LinkEnd → Type 0) (F : Outgoing → Type 0) (c : Course) : Type 0 where
  both : Both Q c.pair
  states : All F c.states
  numbered : All F c.numbered

abbrev Keeping : (ℕ → LinkEnd → Type 0) → (Outgoing → Type 0) → PairEnds → Course → Type 0
Keeping Q F x c = Both Q x → Keeps Q F c

module _ (S : Type 0) (show : S → BroadcastState) (Q : ℕ → LinkEnd → Type 0) (F : Outgoing → Type 0) (k : ClosedBy S show Q F) where
  near_so : (x : PairEnds) (e : LinkEnd) → x.near ≡ Some e → Both Q x → Q x.bearer e
  near_so x e is h = subst (λ o. IfSome o (Q x.bearer)) is h.near

  far_so : (x : PairEnds) (e : LinkEnd) → x.far ≡ Some e → Both Q x → Q (other x.bearer) e
  far_so x e is h = subst (λ o. IfSome o (Q (other x.bearer))) is h.far

  -- by another near end, and these frames
  near_keeps : (x : PairEnds) (e : LinkEnd) (states numbered : List Outgoing) → Both Q x → Q x.bearer e → All F states → All F numbered → Keeps Q F (near_course x e states numbered)
  near_keeps x e states numbered h q one two = record { both = record { two = h.two; near = q; far = h.far }; states = one; numbered = two }

  alone_keeps : (y : PairEnds) → Both Q y → Keeps Q F (nothing y)
  alone_keeps y h = record { both = h; states = All-nil F; numbered = All-nil F }

  mapped_so : (g : LinkEnd → LinkEnd) (b : ℕ) (o : Option LinkEnd) → ((e : LinkEnd) → Q b e → Q b (g e)) → IfSome o (Q b) → IfSome (option_map g o) (Q b)
  mapped_so g b None keeps q = q
  mapped_so g b (Some e) keeps q = keeps e q

  -- both ends change so, whatever else of the pair does
  mapped_both : (g : LinkEnd → LinkEnd) (x y : PairEnds) → ((b : ℕ) (e : LinkEnd) → Q b e → Q b (g e)) → y.bearer ≡ x.bearer → y.near ≡ option_map g x.near → y.far ≡ option_map g x.far → Both Q x → Both Q y
  mapped_both g x y keeps same near far h =
      let two = h.two in
      record {
        two = omega (arith, same, two);
        near = subst (λ b. IfSome y.near (Q b)) (sym same) (subst (λ o. IfSome o (Q x.bearer)) (sym near) (mapped_so g x.bearer x.near (keeps x.bearer) h.near));
        far = subst (λ b. IfSome y.far (Q (other b))) (sym same) (subst (λ o. IfSome o (Q (other x.bearer))) (sym far) (mapped_so g (other x.bearer) x.far (keeps (other x.bearer)) h.far));
      }

  reset_one : (b : ℕ) (o : Option LinkEnd) → IfSome o (Q b) → All F (flat_map reset_frames (made_of o))
  reset_one b None q = All-nil F
  reset_one b (Some e) q = All-append F (reset_frames e) [] (k.resets b e q) (All-nil F)

  reset_all : (x : PairEnds) → Both Q x → All F (flat_map reset_frames (ends_of x))
  reset_all x h =
      let zero_end = both_facing Q 0 x h in
      let one_end = both_facing Q 1 x h in
      subst (All F) (sym (flat_map-append reset_frames (made_of (facing 0 x).near) (made_of (facing 1 x).near)))
      (All-append F (flat_map reset_frames (made_of (facing 0 x).near)) (flat_map reset_frames (made_of (facing 1 x).near))
      (reset_one (facing 0 x).bearer (facing 0 x).near zero_end.near) (reset_one (facing 1 x).bearer (facing 1 x).near one_end.near))

  shown_frames : (x : PairEnds) (e : LinkEnd) (o : Outcome) (shown : BroadcastState) → Made e.fsm o → Q x.bearer e → IsShown S show shown → All F (frames e o shown)
  shown_frames x e o shown made q may = subst (λ s. All F (frames e o s)) may.1 (k.step_frames x.bearer e o may.0 made q)

  -- the step of an end, and its frames
  steps_keep : (x : PairEnds) (a : Act) (e : LinkEnd) (o : Outcome) (e' : LinkEnd) (states numbered : List Outgoing) (epoch : ℕ) → Q x.bearer e → MayKeep S show Q x a → Steps x e a o e' states numbered epoch
      → Q x.bearer e' × All F states × All F numbered
  steps_keep x _ e _ _ _ _ _ q may cut = (k.cuts x.bearer e (is_up_at x.far) q, All-nil F, All-nil F)
  steps_keep x _ e _ _ _ _ _ q may (tick shown) = let made = by_tick (is_up_at x.far) in (k.steps x.bearer e _ made q, shown_frames x e _ shown made q may, All-nil F)
  steps_keep x _ e _ _ _ _ _ q may (reset es held shown) = let made = by_reset es held in (k.steps x.bearer e _ made q, shown_frames x e _ shown made q may, All-nil F)
  steps_keep x _ e _ _ _ _ _ q may (name epoch) = (k.tunnels x.bearer e epoch q, All-nil F, All-nil F)
  steps_keep x _ e _ _ _ _ _ q may (meet es er p by shown) =
      let o = outcome_of e.fsm p.header es er (is_up_at x.far) in
      let made = by_packet p.header es er (is_up_at x.far) in
      let next = k.steps x.bearer e o made q in
      let c = content_of p in (
        tested (Q x.bearer) (is_heard p.header o.change) _ _ (λ _. k.hears x.bearer (after e o) by p.acknowledgement c next) (λ _. next),
        All-append F (frames e o shown) (repeats_at e o p) (shown_frames x e o shown made q may)
            (tested (All F) (is_heard p.header o.change) _ [] (λ _. k.again x.bearer (after e o) p.acknowledgement c next) (λ _. All-nil F)),
        tested (All F) (is_heard p.header o.change) _ [] (λ _. k.newly x.bearer (after e o) by p.acknowledgement c next) (λ _. All-nil F),
      )

  keeping : Parts (MayKeep S show Q) (Keeping Q F)
  unfolding going_on
  keeping = record {
    rests = λ x h. alone_keeps x h;
    goes_on = λ x first step one two h.
        let a = one h in
        let b = two a.both in
        record { both = b.both; states = All-append F first.states (step first.pair).states a.states b.states; numbered = All-append F first.numbered (step first.pair).numbered a.numbered b.numbered };
    turns = λ x c there h. let a = there (both_turned Q x h) in record { both = both_turned Q c.pair a.both; states = a.states; numbered = a.numbered };
    makes = λ x may h. alone_keeps (with_made x) may;
    mends = λ x e near h. let q = near_so x e near h in near_keeps x _ _ [] h (k.mends x.bearer e q) (k.mend_frames x.bearer e q) (All-nil F);
    steps = λ x a e o e' states numbered epoch near may step h.
        let s = steps_keep x a e o e' states numbered epoch (near_so x e near h) may step in record { both = record { two = h.two; near = s.0; far = h.far }; states = s.1; numbered = s.2 };
    begins = λ x here down h. record { both = record { two = h.two; near = h.near; far = h.far }; states = All-nil F; numbered = All-nil F };
    ends = λ x contact shown h.
        let there = mapped_both (parted_end (x.contact + 1) x.seen) x (parted x) (λ b e. k.parts b e (x.contact + 1) x.seen) refl refl refl h in
        record { both = there; states = reset_all (parted x) there; numbered = All-nil F };
    counts = λ x number may h. alone_keeps (record x { seen = number }) (record { two = h.two; near = h.near; far = h.far });
    forgets = λ x number may h. alone_keeps _ (mapped_both (forgetting number) x _ (λ b e. k.forgets b e number) refl refl refl h);
    hands_over = λ x near far lost s one two first second up h.
        let q = far_so x far two h in
        record { both = record { two = h.two; near = k.hands x.bearer near (near_so x near one h); far = k.loads (other x.bearer) far s _ second q }; states = All-nil F; numbered = k.load_frames (other x.bearer) far s _ second q };
    takes_over = λ x near far s old one two first second here up h.
        let q = near_so x near one h in
        record { both = record { two = h.two; near = k.loads x.bearer near s _ first q; far = k.empties (other x.bearer) far (far_so x far two h) }; states = All-nil F; numbered = k.load_frames x.bearer near s _ first q };
    lets_go = λ x e near may clear h. let q = near_so x e near h in near_keeps x _ _ [] h (k.lets_go x.bearer e q) (k.go_frames x.bearer e q) (All-nil F);
    carries = λ x e t by near may h.
        let q = near_so x e near h in
        near_keeps x _ [] [] h
        (tested (Q x.bearer) (t.count == 0) (named_end e t.old.epoch) (tunnelled_end e t.old.epoch (inside_of t by)) (λ _. k.records x.bearer e _ q) (λ _. k.records x.bearer e _ q)) (All-nil F) (All-nil F);
    opens = λ x packets given last may brings h. alone_keeps (record x { begun = last }) (record { two = h.two; near = h.near; far = h.far });
    puts = λ x e s pieces s' near may has is h. let q = near_so x e near h in near_keeps x _ [] _ h (k.puts x.bearer e s pieces s' has is q) (All-nil F) (k.put_frames x.bearer e s pieces s' has is q);
    answers = λ x e taken asks shown near may h.
        let q = near_so x e near h in
        near_keeps x _ _ [] h (k.answers x.bearer e taken asks q) (subst (λ s. All F (frames_with e taken asks s)) may.1 (k.answer_frames x.bearer e taken asks may.0 q)) (All-nil F);
  }

  -- so it is with the course of a run
  pub ran_kept : (x : PairEnds) (c : Course) → Ran (MayKeep S show Q) x c → Both Q x → Kept Q F x c
  ran_kept x c run h =
      let A = MayKeep S show Q in
      let r = walks_by_parts A (Keeping Q F) keeping x c run h in
      record { both = r.both; bearer = ran_bearer A x c run h.two; peer = ran_peer A x c run; own = ran_own A x c run; states = r.states; numbered = r.numbered }

-- ---- a turn

-- what a turn shows of the broadcast is one of these, first and at last
abbrev pub IsShownIn : (S : Type 0) → (S → BroadcastState) → Opening → Type 0
IsShownIn S show (ticks shown) = IsShown S show shown
IsShownIn S show (hears bearer es er p by shown) = IsShown S show shown
IsShownIn S show other = Unit {0}

abbrev pub IsShownAtLast : (S : Type 0) → (S → BroadcastState) → Option Reply → Type 0
IsShownAtLast S show None = Unit {0}
IsShownAtLast S show (Some r) = IsShown S show r.shown

module _ (S : Type 0) (show : S → BroadcastState) (Q : ℕ → LinkEnd → Type 0) where
  may_hear : (h : Header) (es er : ℕ) (p : Fields) (by : ℕ) (shown : BroadcastState) (x : PairEnds) → IsShown S show shown → MayHear (MayKeep S show Q) h es er p by shown x
  may_hear h es er p by shown x may = hears_may (MayKeep S show Q) h es er p by shown x (λ number. tt) (λ y. may) (λ y. may)

  may_open : (x : PairEnds) (outcome : LinkOutcome) → MayOpen (MayKeep S show Q) x outcome
  may_open x outcome = opens_may (MayKeep S show Q) x outcome (λ y epoch. tt) (λ y t by. tt) (λ y packets given. tt)

  may_happen : (x : PairEnds) (opening : Opening) → ((bearer : ℕ) → Both Q (with_made (facing bearer x))) → IsShownIn S show opening → MayHappen (MayKeep S show Q) x opening
  may_happen x (makes bearer is_mended) made may = (made bearer, tt)
  may_happen x (ticks shown) made may = λ y. may
  may_happen x (hears bearer es er p by shown) made may = record { hears = may_hear p.header es er p by shown (facing bearer x) may; opens = may_open _ _ }
  may_happen x other made may = tt

  may_answer : (reply : Option Reply) → IsShownAtLast S show reply → (r : Reply) → reply ≡ Some r → IsShown S show r.shown
  may_answer reply may r is = subst (IsShownAtLast S show) is may

-- the pair after a turn of it, and the frames that left
pub turn_kept_by : (S : Type 0) (show : S → BroadcastState) (Q : ℕ → LinkEnd → Type 0) (F : Outgoing → Type 0) → ClosedBy S show Q F
    → (x y : PairEnds) (opening : Opening) (messages : List (List ℕ)) (reply : Option Reply) (fs : List Outgoing) → ((bearer : ℕ) → Both Q (with_made (facing bearer x))) → Both Q x
    → IsShownIn S show opening → IsShownAtLast S show reply → PairTurn x opening messages reply y fs → Both Q y × (y.bearer ≡ x.bearer) × (y.peer ≡ x.peer) × (y.own ≡ x.own) × All F fs
turn_kept_by S show Q F k x y opening messages reply fs made h first last t =
    let A = MayKeep S show Q in
    let may : MayTurn A x opening messages reply = record {
      happens = may_happen S show Q x opening made first;
      puts = all_puts messages;
      answers = λ r is z. may_answer S show Q reply last r is;
    } in
    let c = turn_course t in
    let r = ran_kept S show Q F k x c (turn_ran A (λ z. tt) x y opening messages reply fs h.two may t) h in
    let is : y ≡ c.pair = turn_pair x y opening messages reply fs t in (
      subst (Both Q) (sym is) r.both,
      ap (λ (z : PairEnds). z.bearer) is ∙ r.bearer,
      ap (λ (z : PairEnds). z.peer) is ∙ r.peer,
      ap (λ (z : PairEnds). z.own) is ∙ r.own,
      turn_frames F x y opening messages reply fs t r.states r.numbered,
    )
  where
    all_puts : (messages : List (List ℕ)) → All (λ message. (z : PairEnds) → is_up_at z.near ≡ true → MayKeep S show Q z (putting (pieces_for message))) messages
    all_puts messages = λ i d within z up. tt

-- ---- whatever a STATE shows

abbrev Shows : BroadcastState → BroadcastState
Shows shown = shown

abbrev Freely : (ℕ → LinkEnd → Type 0) → PairEnds → Act → Type 0
Freely Q = MayKeep BroadcastState Shows Q

any_first : (opening : Opening) → IsShownIn BroadcastState Shows opening
any_first (ticks shown) = (shown, refl)
any_first (hears bearer es er p by shown) = (shown, refl)
any_first other = tt

any_last : (reply : Option Reply) → IsShownAtLast BroadcastState Shows reply
any_last None = tt
any_last (Some r) = (r.shown, refl)

module _ (Q : ℕ → LinkEnd → Type 0) (F : Outgoing → Type 0) (k : Closed Q F) where
  runs : (x : PairEnds) (c : Course) → Both Q x → Ran (Freely Q) x c → Kept Q F x c
  runs x c h run = ran_kept BroadcastState Shows Q F k x c run h

  pub cut_at_kept : (x : PairEnds) → Both Q x → Kept Q F x (cut_at x x.near)
  cut_at_kept x h = runs x _ h (cut_at_ran (Freely Q) x tt)

  pub tick_on : (bearer : ℕ) (shown : BroadcastState) (x : PairEnds) → Both Q x → Kept Q F x (at_bearer bearer x (tick_near shown))
  tick_on bearer shown x h = runs x _ h (at_ran (Freely Q) bearer x (tick_near shown) h.two (tick_ran (Freely Q) shown (facing bearer x) (shown, refl)))

  pub given_kept : (es : ℕ) (held : Bool) (shown : BroadcastState) (x : PairEnds) → Both Q x → Kept Q F x (reset_given es held shown x x.near).course
  given_kept es held shown x h = runs x _ h (given_ran (Freely Q) es held shown x (shown, refl))

  pub risen_kept : (x : PairEnds) (number : ℕ) → Both Q x → Kept Q F x (risen x number)
  risen_kept x number h = runs x _ h (risen_ran (Freely Q) x number tt)

  pub hears_kept : (t : Header) (es er : ℕ) (p : Fields) (by : ℕ) (shown : BroadcastState) (x : PairEnds) → Both Q x → Kept Q F x (heard_by t es er p by shown x).course
  hears_kept t es er p by shown x h = runs x _ h (hears_ran (Freely Q) t es er p by shown x (may_hear BroadcastState Shows Q t es er p by shown x (shown, refl)))

  pub down_kept : (t : ChangeoverType) (epoch : ℕ) (x : PairEnds) → Both Q x → Kept Q F x (taken_down t epoch x)
  down_kept t epoch x h = runs x _ h (taken_down_ran (Freely Q) t epoch x tt)

  pub opens_kept : (x : PairEnds) (outcome : LinkOutcome) (c : Course) (given : PairOutcome) → OpensInto x outcome c given → Both Q x → Kept Q F x c
  opens_kept x outcome c given o h = runs x c h (opens_ran (Freely Q) x outcome c given h.two (may_open BroadcastState Shows Q x outcome) o)

  pub happened_kept : (x : PairEnds) (opening : Opening) (o : Outset) → ((bearer : ℕ) → Both Q (with_made (facing bearer x))) → Both Q x → Happened x opening o → Kept Q F x o.course
  happened_kept x opening o made h is = runs x o.course h (happened_ran (Freely Q) (λ y. tt) x opening o h.two (may_happen BroadcastState Shows Q x opening made (any_first opening)) is)

  pub put_kept : (x : PairEnds) (pieces : List (List ℕ)) (y : PairEnds) (fs : List Outgoing) → PutsOne x pieces y fs → Both Q x → Kept Q F x (record (nothing y) { numbered = fs })
  put_kept x pieces y fs put h = runs x _ h (put_one_ran (Freely Q) x pieces y fs h.two (λ z up. tt) put)

  pub replied_kept : (reply : Option Reply) (x : PairEnds) → Both Q x → Kept Q F x (replied reply x)
  replied_kept reply x h = runs x _ h (replied_ran (Freely Q) reply x h.two (λ r is y. may_answer BroadcastState Shows Q reply (any_last reply) r is))

  -- the pair after a turn of it, and the frames that left
  pub turn_kept : (x y : PairEnds) (opening : Opening) (messages : List (List ℕ)) (reply : Option Reply) (fs : List Outgoing) → ((bearer : ℕ) → Both Q (with_made (facing bearer x))) → Both Q x
      → PairTurn x opening messages reply y fs → Both Q y × (y.bearer ≡ x.bearer) × (y.peer ≡ x.peer) × All F fs
  turn_kept x y opening messages reply fs made h t =
      let r = turn_kept_by BroadcastState Shows Q F k x y opening messages reply fs made h (any_first opening) (any_last reply) t in (r.0, r.1, r.2, r.4)

  -- the pair is still of the same node
  pub turn_own : (x y : PairEnds) (opening : Opening) (messages : List (List ℕ)) (reply : Option Reply) (fs : List Outgoing) → ((bearer : ℕ) → Both Q (with_made (facing bearer x))) → Both Q x
      → PairTurn x opening messages reply y fs → y.own ≡ x.own
  turn_own x y opening messages reply fs made h t = (turn_kept_by BroadcastState Shows Q F k x y opening messages reply fs made h (any_first opening) (any_last reply) t).3
