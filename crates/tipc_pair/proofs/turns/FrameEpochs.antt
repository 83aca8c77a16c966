-- Each frame of a turn is under an epoch of this end that is no lower than that of before, and no higher than that of afterwards, on its bearer;
-- and each STATE among them shows what is given of the broadcast.
use Rattle.std.specs.Prelude.{All, IfSome, ◌==◌, ◌-◌, if◌then◌else◌}
use Rattle.std.specs.List.{flat_map}
use Rattle.std.proofs.Common.{◌≡◌, ◌≤◌, ◌+◌, ◌∙◌, ℕ, true, false, List, [], Option, Some, None, option_map, refl, sym, subst, ap, arith}
use Rattle.std.proofs.lemmas.Grind.{flat_map-append}
use Rattle.std.proofs.lemmas.List.Elements.{All-append, All-nil, All-weaker}
use Rattle.tipc_types.specs.LinkStates.{is_up}
use Rattle.tipc_types.specs.declared.link_words.BroadcastState.{BroadcastState}
use Rattle.tipc_outside.specs.declared.outgoing.Outgoing.{Outgoing}
use Rattle.tipc_link_fsm.specs.Table.{Fsm, Outcome, forget_peer, on_reset, on_tick, release}
use Rattle.tipc_link_fsm.proofs.Moves.{contact_ended_moves, forget_peer_moves, on_cut_moves, on_peer_tunnel_moves, on_reset_moves, on_tick_moves, release_moves}
use Rattle.tipc_link.specs.Links.{LinkEnd, cut_end, frames, frames_with, is_answer, is_reset_unknown, mend_frames, mended_end, named_end, outcome_of, recorded, release_frames, repeats_at, reset_frames, tunnelled_down, tunnelled_end, with_fsm, with_session}
use Rattle.tipc_link.specs.Records.{Received}
use Rattle.tipc_link.specs.Sessions.{SessionEnd, answered, flush_frames, flushed, given_up, put, waiting_given, with_broadcast, with_record}
use Rattle.tipc_pair.specs.Changeovers.{forgetting, let_go, parted, parted_end}
use Rattle.tipc_pair.specs.Courses.{Course, going_on, rests as nothing}
use Rattle.tipc_pair.specs.Facing.{PairEnds, ends_of, facing, is_up_at, made_of, other, turned, with_made}
use Rattle.tipc_pair.specs.PairArrivals.{inside_of}
use Rattle.tipc_pair.specs.PairTurns.{MakesNew, Opening, PairTurn, Reply}
use Rattle.tipc_pair.specs.PairTurns.Opening.{hears, makes, ticks}
use Rattle.tipc_pair.specs.Runs.{left_by, taken_over}
use Rattle.tipc_pair.proofs.EndSteps.{cut_quiet, tunnel_quiet}
use Rattle.tipc_pair.proofs.acts.Acts.{Act, Steps, near_course}
use Rattle.tipc_pair.proofs.acts.Acts.Act.{answers as answering, makes as making, meets as meeting, puts as putting, resets as resetting, ticks as ticking}
use Rattle.tipc_pair.proofs.acts.Acts.Steps.{cut, meet, name, reset, tick}
use Rattle.tipc_pair.proofs.acts.Acting.{MayHappen, MayTurn, hears_may, opens_may, turn_course, turn_frames, turn_pair, turn_ran}
use Rattle.tipc_pair.proofs.acts.Walks.{Parts, outcome_moves, step_moves, tested, walks_by_parts}
use Rattle.tipc_pair.proofs.turns.EndEpochs.{after_at, arrival_at, forget_quiet, heard_up, moved_at, moves_rise, outcome_says, parted_at, release_quiet, reset_says, tick_says}
use Rattle.tipc_pair.proofs.turns.FrameKinds.{IsEndAt, IsSameSession, MadeOf, answers_at, at_end, flush_at, flushed_same, mapped_at, mends_made, put_same, resets_made, same_at, some_at}
use Rattle.tipc_pair.proofs.turns.PairKept.{Both, IsShown, IsShownAtLast, IsShownIn, both_turned}

-- ---- epochs between those of two moments

-- the own epoch of an end; 0 where it isn't made
abbrev pub own_at : Option LinkEnd → ℕ
own_at None = 0
own_at (Some e) = e.fsm.own

-- The frame left on the bearer of the near link or of the far one, under an epoch between that of its end in x and that of its end in y.
pub data Within (S : Type 0) (show : S → BroadcastState) (x y : PairEnds) (o : Outgoing) : Type 0 where
  on_near : (epoch : ℕ) → MadeOf S show x.bearer epoch o → own_at x.near ≤ epoch → epoch ≤ own_at y.near → Within S show x y o
  on_far : (epoch : ℕ) → MadeOf S show (other x.bearer) epoch o → own_at x.far ≤ epoch → epoch ≤ own_at y.far → Within S show x y o

-- so it is with the frames of a course, and its ends are as they were said to be
record Under (S : Type 0) (show : S → BroadcastState) (x : PairEnds) (c : Course) : Type 0 where
  both : Both IsEndAt c.pair
  bearer : c.pair.bearer ≡ x.bearer
  near : own_at x.near ≤ own_at c.pair.near
  far : own_at x.far ≤ own_at c.pair.far
  states : All (Within S show x c.pair) c.states
  numbered : All (Within S show x c.pair) c.numbered

-- What is asked of an act: an end is made where there is none, packets are put on a link that is up, and what is shown of the broadcast is given.
abbrev May : (S : Type 0) → (S → BroadcastState) → PairEnds → Act → Type 0
May S show x making = x.near ≡ None
May S show x (ticking shown) = IsShown S show shown
May S show x (resetting es shown) = IsShown S show shown
May S show x (meeting es er p by shown) = IsShown S show shown
May S show x (putting pieces) = is_up_at x.near ≡ true
May S show x (answering taken asks shown) = IsShown S show shown
May S show x other = Unit {0}

abbrev Going : (S : Type 0) → (S → BroadcastState) → PairEnds → Course → Type 0
Going S show x c = Both IsEndAt x → Under S show x c

module _ (S : Type 0) (show : S → BroadcastState) where
  later : (x y z : PairEnds) → own_at y.near ≤ own_at z.near → own_at y.far ≤ own_at z.far → (o : Outgoing) → Within S show x y o → Within S show x z o
  later x y z near far o (on_near epoch m low high) = on_near epoch m low (omega (arith, high, near))
  later x y z near far o (on_far epoch m low high) = on_far epoch m low (omega (arith, high, far))

  sooner : (x y z : PairEnds) → y.bearer ≡ x.bearer → own_at x.near ≤ own_at y.near → own_at x.far ≤ own_at y.far → (o : Outgoing) → Within S show y z o → Within S show x z o
  sooner x y z same near far o (on_near epoch m low high) = on_near epoch (subst (λ b. MadeOf S show b epoch o) same m) (omega (arith, low, near)) high
  sooner x y z same near far o (on_far epoch m low high) = on_far epoch (subst (λ b. MadeOf S show (other b) epoch o) same m) (omega (arith, low, far)) high

  flip : (x y : PairEnds) → x.bearer ≤ 1 → (o : Outgoing) → Within S show (turned x) y o → Within S show x (turned y) o
  flip x y two o (on_near epoch m low high) = on_far epoch m low high
  flip x y two o (on_far epoch m low high) = let back : 1 - (1 - x.bearer) ≡ x.bearer = omega (arith, two) in on_near epoch (subst (λ b. MadeOf S show b epoch o) back m) low high

  near_end : (x : PairEnds) (e : LinkEnd) → x.near ≡ Some e → Both IsEndAt x → IsEndAt x.bearer e
  near_end x e is h = subst (λ o. IfSome o (IsEndAt x.bearer)) is h.near

  far_end : (x : PairEnds) (e : LinkEnd) → x.far ≡ Some e → Both IsEndAt x → IsEndAt (other x.bearer) e
  far_end x e is h = subst (λ o. IfSome o (IsEndAt (other x.bearer))) is h.far

  -- the frames of the near end, under the epoch that it has then
  near_frames : (x y : PairEnds) (e : LinkEnd) (own : ℕ) (fs : List Outgoing) → x.near ≡ Some e → e.fsm.own ≤ own → own ≤ own_at y.near → All (MadeOf S show x.bearer own) fs → All (Within S show x y) fs
  near_frames x y e own fs near low high made =
      All-weaker (MadeOf S show x.bearer own) (Within S show x y) (λ o m. on_near own m (subst (λ n. own_at n ≤ own) (sym near) low) high) fs made

  far_frames : (x y : PairEnds) (e : LinkEnd) (own : ℕ) (fs : List Outgoing) → x.far ≡ Some e → e.fsm.own ≤ own → own ≤ own_at y.far → All (MadeOf S show (other x.bearer) own) fs → All (Within S show x y) fs
  far_frames x y e own fs far low high made =
      All-weaker (MadeOf S show (other x.bearer) own) (Within S show x y) (λ o m. on_far own m (subst (λ n. own_at n ≤ own) (sym far) low) high) fs made

  near_under : (x : PairEnds) (e e' : LinkEnd) (own : ℕ) (states numbered : List Outgoing) → Both IsEndAt x → x.near ≡ Some e → IsEndAt x.bearer e' → e.fsm.own ≤ own → own ≡ e'.fsm.own
      → All (MadeOf S show x.bearer own) states → All (MadeOf S show x.bearer own) numbered → Under S show x (near_course x e' states numbered)
  near_under x e e' own states numbered h near end low is one two =
      let y = (near_course x e' states numbered).pair in
      let was : own_at x.near ≡ e.fsm.own = ap own_at near in
      record {
        both = record { two = h.two; near = end; far = h.far };
        bearer = refl;
        near = omega (arith, was, low, is);
        far = omega arith;
        states = near_frames x y e own states near low (omega (arith, is)) one;
        numbered = near_frames x y e own numbered near low (omega (arith, is)) two;
      }

  -- with no frame, and the same link states
  quiet_under : (x : PairEnds) (e e' : LinkEnd) → Both IsEndAt x → x.near ≡ Some e → IsEndAt x.bearer e' → e'.fsm ≡ e.fsm → Under S show x (near_course x e' [] [])
  quiet_under x e e' h near end same = near_under x e e' e.fsm.own [] [] h near end (omega arith) (ap (λ (f : Fsm). f.own) (sym same)) (All-nil _) (All-nil _)

  none_under : (x y : PairEnds) → Both IsEndAt y → y.bearer ≡ x.bearer → own_at x.near ≤ own_at y.near → own_at x.far ≤ own_at y.far → Under S show x (nothing y)
  none_under x y both bearer near far = record { both = both; bearer = bearer; near = near; far = far; states = All-nil _; numbered = All-nil _ }

  steps_at : (x : PairEnds) (a : Act) (e : LinkEnd) (o : Outcome) (e' : LinkEnd) (states numbered : List Outgoing) (epoch : ℕ) → IsEndAt x.bearer e → May S show x a → Steps x e a o e' states numbered epoch
      → IsEndAt x.bearer e' × All (MadeOf S show x.bearer o.after.own) states × All (MadeOf S show x.bearer o.after.own) numbered
  steps_at x _ e _ _ _ _ _ h may cut = (moved_at x.bearer e (cut_end e (is_up_at x.far)) None _ h (on_cut_moves e.fsm (is_up_at x.far) None) (cut_quiet e.fsm (is_up_at x.far)) refl refl refl, All-nil _, All-nil _)
  steps_at x _ e _ _ _ _ _ h may (name epoch) = (moved_at x.bearer e (tunnelled_down e epoch) None _ h (on_peer_tunnel_moves e.fsm epoch None) (tunnel_quiet e.fsm epoch) refl refl refl, All-nil _, All-nil _)
  steps_at x _ e _ _ _ _ _ h may (tick shown) =
      let held = is_up_at x.far in let k = after_at S show x.bearer e None (on_tick e.fsm held) shown may h (on_tick_moves e.fsm held None) (tick_says e.fsm held) in (k.0, k.1, All-nil _)
  steps_at x _ e _ _ _ _ _ h may (reset es held shown) =
      let k = after_at S show x.bearer e None (on_reset e.fsm es held) shown may h (on_reset_moves e.fsm es held None) (reset_says e.fsm es held) in (k.0, k.1, All-nil _)
  steps_at x _ e _ _ _ _ _ h may (meet es er p by shown) =
      let held = is_up_at x.far in
      let o = outcome_of e.fsm p.header es er held in
      let k = after_at S show x.bearer e (Some (es, er)) o shown may h (outcome_moves e.fsm p.header es er held) (outcome_says e.fsm p.header es er held) in
      let r = arrival_at S show x.bearer e o p by (heard_up e.fsm p.header es er held) k.0 in
      (r.0, All-append (MadeOf S show x.bearer o.after.own) (frames e o shown) (repeats_at e o p) k.1 r.1, r.2)

  -- ---- both ends change so

  mapped_end : (g : LinkEnd → LinkEnd) (b : ℕ) (o : Option LinkEnd) → ((e : LinkEnd) → IsEndAt b e → IsEndAt b (g e)) → IfSome o (IsEndAt b) → IfSome (option_map g o) (IsEndAt b)
  mapped_end g b None keeps h = h
  mapped_end g b (Some e) keeps h = keeps e h

  mapped_own : (g : LinkEnd → LinkEnd) (o : Option LinkEnd) → ((e : LinkEnd) → e.fsm.own ≤ (g e).fsm.own) → own_at o ≤ own_at (option_map g o)
  mapped_own g None rise = omega arith
  mapped_own g (Some e) rise = rise e

  either_end : (P : Option LinkEnd → Type 0) (b : ℕ) (y : PairEnds) → P y.near → P y.far → P (facing b y).near
  unfolding facing
  either_end P b y near far = elim (y.bearer == b) as (λ t. P (if t then y else turned y).near) [ true ↦ near | false ↦ far ]

  -- the RESETs of a contact that ends
  parted_frames : (x : PairEnds) → Both IsEndAt x → All (Within S show x (parted x)) (flat_map reset_frames (ends_of (parted x)))
  parted_frames x h =
      let y = parted x in
      let W = Within S show x y in
      let P : Option LinkEnd → Type 0 = λ o. All W (flat_map reset_frames (made_of o)) in
      let of : (b : ℕ) → P (facing b y).near = λ b. either_end P b y (near_resets x.near refl) (far_resets x.far refl) in
      subst (All W) (sym (flat_map-append reset_frames (made_of (facing 0 y).near) (made_of (facing 1 y).near)))
      (All-append W (flat_map reset_frames (made_of (facing 0 y).near)) (flat_map reset_frames (made_of (facing 1 y).near)) (of 0) (of 1))
    where
      g : LinkEnd → LinkEnd
      g = parted_end (x.contact + 1) x.seen

      near_resets : (o : Option LinkEnd) → x.near ≡ o → All (Within S show x (parted x)) (flat_map reset_frames (made_of (option_map g o)))
      near_resets None is = All-nil _
      near_resets (Some e) is =
          let high : own_at (parted x).near ≡ (g e).fsm.own = ap (λ o. own_at (option_map g o)) is in
          let end = near_end x e is h in
          All-append (Within S show x (parted x)) (reset_frames (g e)) []
          (near_frames x (parted x) e (g e).fsm.own (reset_frames (g e)) is (moves_rise e.fsm None _ (contact_ended_moves e.fsm None)) (omega (arith, high)) (at_end S show x.bearer (g e).fsm.own (g e) _ end.on refl (resets_made S show (g e)))) (All-nil _)

      far_resets : (o : Option LinkEnd) → x.far ≡ o → All (Within S show x (parted x)) (flat_map reset_frames (made_of (option_map g o)))
      far_resets None is = All-nil _
      far_resets (Some e) is =
          let high : own_at (parted x).far ≡ (g e).fsm.own = ap (λ o. own_at (option_map g o)) is in
          let end = far_end x e is h in
          All-append (Within S show x (parted x)) (reset_frames (g e)) []
          (far_frames x (parted x) e (g e).fsm.own (reset_frames (g e)) is (moves_rise e.fsm None _ (contact_ended_moves e.fsm None)) (omega (arith, high)) (at_end S show (other x.bearer) (g e).fsm.own (g e) _ end.on refl (resets_made S show (g e)))) (All-nil _)

  -- ---- the acts

  recorded_at : (b : ℕ) (e : LinkEnd) (r : Received) → IsEndAt b e → IsEndAt b (recorded e r)
  recorded_at b e r h = record { on = h.on; session = mapped_at b (is_up e.fsm.state) e.fsm.own (λ s. with_record s r) e.session (λ s. record { bearer = refl; epoch = refl }) h.session }

  session_mapped : (b : ℕ) (e : LinkEnd) (g : SessionEnd → SessionEnd) → ((s : SessionEnd) → IsSameSession s (g s)) → IsEndAt b e → IsEndAt b (record e { session = option_map g e.session })
  session_mapped b e g same h = record { on = h.on; session = mapped_at b (is_up e.fsm.state) e.fsm.own g e.session same h.session }

  session_put : (b : ℕ) (e : LinkEnd) (s s' : SessionEnd) → e.session ≡ Some s → IsSameSession s s' → IsEndAt b e → IsEndAt b (with_session e (flushed s'))
  session_put b e s s' is same h = record { on = h.on; session = some_at b (is_up e.fsm.state) e.fsm.own (flushed s') (same_at b (is_up e.fsm.state) e.fsm.own s (flushed s') (flushed_same s s' same) (h.session s is)) }

  -- the packets that a session of a link that is up numbers
  flush_under : (b : ℕ) (o : Option LinkEnd) (e : LinkEnd) (s s' : SessionEnd) → o ≡ Some e → is_up_at o ≡ true → e.session ≡ Some s → IsSameSession s s' → IsEndAt b e → All (MadeOf S show b e.fsm.own) (flush_frames s')
  flush_under b o e s s' is up has same h =
      let k = h.session s has in flush_at S show b e.fsm.own s s' (k.0, λ _. k.1 (ap is_up_at (sym is) ∙ up)) same

  going : Parts (May S show) (Going S show)
  unfolding going_on
  going = record {
    rests = λ x h. none_under x x h refl (omega arith) (omega arith);
    goes_on = λ x first step one two h.
        let y = first.pair in
        let next = step y in
        let z = next.pair in
        let a = one h in
        let b = two a.both in
        let lower = a.near in
        let higher = b.near in
        let lower_far = a.far in
        let higher_far = b.far in
        let of_first : (o : Outgoing) → Within S show x y o → Within S show x z o = later x y z b.near b.far in
        let of_next : (o : Outgoing) → Within S show y z o → Within S show x z o = sooner x y z a.bearer a.near a.far in
        record {
          both = b.both;
          bearer = b.bearer ∙ a.bearer;
          near = omega (arith, lower, higher);
          far = omega (arith, lower_far, higher_far);
          states = All-append (Within S show x z) first.states next.states (All-weaker (Within S show x y) (Within S show x z) of_first first.states a.states) (All-weaker (Within S show y z) (Within S show x z) of_next next.states b.states);
          numbered = All-append (Within S show x z) first.numbered next.numbered (All-weaker (Within S show x y) (Within S show x z) of_first first.numbered a.numbered)
              (All-weaker (Within S show y z) (Within S show x z) of_next next.numbered b.numbered);
        };
    turns = λ x c there h.
        let a = there (both_turned IsEndAt x h) in
        let two = h.two in
        let same = a.bearer in
        record {
          both = both_turned IsEndAt c.pair a.both;
          bearer = omega (arith, two, same);
          near = a.far;
          far = a.near;
          states = All-weaker (Within S show (turned x) c.pair) (Within S show x (turned c.pair)) (flip x c.pair h.two) c.states a.states;
          numbered = All-weaker (Within S show (turned x) c.pair) (Within S show x (turned c.pair)) (flip x c.pair h.two) c.numbered a.numbered;
        };
    makes = λ x may h.
        let zero : own_at x.near ≡ 0 = ap own_at may in
        none_under x (with_made x) (record { two = h.two; near = record { on = refl; session = λ s has. absurd cc }; far = h.far }) refl (omega (arith, zero)) (omega arith);
    mends = λ x e near h.
        let q = near_end x e near h in
        near_under x e (mended_end e) e.fsm.own (mend_frames e) [] h near (record { on = q.on; session = q.session }) (omega arith) refl
        (at_end S show x.bearer e.fsm.own e (mend_frames e) q.on refl (mends_made S show e (is_reset_unknown e.fsm.state))) (All-nil _);
    steps = λ x a e o e' states numbered epoch near may step h.
        let q = steps_at x a e o e' states numbered epoch (near_end x e near h) may step in
        let m = step_moves x a e o e' states numbered epoch step in
        let u = near_under x e e' o.after.own states numbered h near q.0 (moves_rise e.fsm m.shown o m.moves) (ap (λ (f : Fsm). f.own) (sym m.fsm)) q.1 q.2 in
        record { both = u.both; bearer = u.bearer; near = u.near; far = u.far; states = u.states; numbered = u.numbered };
    begins = λ x here down h. record { both = record { two = h.two; near = h.near; far = h.far }; bearer = refl; near = omega arith; far = omega arith; states = All-nil _; numbered = All-nil _ };
    ends = λ x contact shown h. record {
      both = record {
        two = h.two;
        near = mapped_end (parted_end (x.contact + 1) x.seen) x.bearer x.near (λ e. parted_at x.bearer e (x.contact + 1) x.seen) h.near;
        far = mapped_end (parted_end (x.contact + 1) x.seen) (other x.bearer) x.far (λ e. parted_at (other x.bearer) e (x.contact + 1) x.seen) h.far;
      };
      bearer = refl;
      near = mapped_own (parted_end (x.contact + 1) x.seen) x.near (λ e. moves_rise e.fsm None _ (contact_ended_moves e.fsm None));
      far = mapped_own (parted_end (x.contact + 1) x.seen) x.far (λ e. moves_rise e.fsm None _ (contact_ended_moves e.fsm None));
      states = parted_frames x h;
      numbered = All-nil _;
    };
    counts = λ x number may h. none_under x (record x { seen = number }) (record { two = h.two; near = h.near; far = h.far }) refl (omega arith) (omega arith);
    forgets = λ x number may h.
        let forgets_at : (b : ℕ) (e : LinkEnd) → IsEndAt b e → IsEndAt b (forgetting number e) = λ b e q. moved_at b e (forgetting number e) None (forget_peer e.fsm) q (forget_peer_moves e.fsm None) (forget_quiet e.fsm) refl refl refl in
        let rise : (e : LinkEnd) → e.fsm.own ≤ (forgetting number e).fsm.own = λ e. moves_rise e.fsm None _ (forget_peer_moves e.fsm None) in
        none_under x _ (record { two = h.two; near = mapped_end (forgetting number) x.bearer x.near (forgets_at x.bearer) h.near; far = mapped_end (forgetting number) (other x.bearer) x.far (forgets_at (other x.bearer)) h.far }) refl
        (mapped_own (forgetting number) x.near rise) (mapped_own (forgetting number) x.far rise);
    hands_over = λ x near far lost s one two first second up h.
        let packets = left_by lost in
        let same : IsSameSession s (put s packets) = record { bearer = refl; epoch = refl } in
        let was : own_at x.near ≡ near.fsm.own = ap own_at one in
        let was_far : own_at x.far ≡ far.fsm.own = ap own_at two in
        let q = far_end x far two h in
        record {
          both = record { two = h.two; near = session_mapped x.bearer near given_up (λ t. record { bearer = refl; epoch = refl }) (near_end x near one h); far = session_put (other x.bearer) far s (put s packets) second same q };
          bearer = refl;
          near = omega (arith, was);
          far = omega (arith, was_far);
          states = All-nil _;
          numbered = far_frames x _ far far.fsm.own (flush_frames (put s packets)) two (omega arith) (omega arith) (flush_under (other x.bearer) x.far far s (put s packets) two up second same q);
        };
    takes_over = λ x near far s old one two first second here up h.
        let packets = taken_over old in
        let same : IsSameSession s (put s packets) = record { bearer = refl; epoch = refl } in
        let was : own_at x.near ≡ near.fsm.own = ap own_at one in
        let was_far : own_at x.far ≡ far.fsm.own = ap own_at two in
        let q = near_end x near one h in
        record {
          both = record { two = h.two; near = session_put x.bearer near s (put s packets) first same q; far = session_mapped (other x.bearer) far waiting_given (λ t. record { bearer = refl; epoch = refl }) (far_end x far two h) };
          bearer = refl;
          near = omega (arith, was);
          far = omega (arith, was_far);
          states = All-nil _;
          numbered = near_frames x _ near near.fsm.own (flush_frames (put s packets)) one (omega arith) (omega arith) (flush_under x.bearer x.near near s (put s packets) one here first same q);
        };
    lets_go = λ x e near may clear h.
        let q = near_end x e near h in
        let o = release e.fsm in
        let F = MadeOf S show x.bearer o.after.own in
        near_under x e (let_go e) o.after.own (release_frames e) [] h near (moved_at x.bearer e (let_go e) None o q (release_moves e.fsm None) (release_quiet e.fsm) refl refl refl) (moves_rise e.fsm None o (release_moves e.fsm None)) refl
        (tested (All F) (is_answer o.change) (reset_frames (with_fsm e o.after)) [] (λ _. at_end S show x.bearer o.after.own (with_fsm e o.after) _ q.on refl (resets_made S show (with_fsm e o.after))) (λ _. All-nil F)) (All-nil _);
    carries = λ x e t by near may h.
        let q = near_end x e near h in
        tested (λ (d : LinkEnd). Under S show x (near_course x d [] [])) (t.count == 0) (named_end e t.old.epoch) (tunnelled_end e t.old.epoch (inside_of t by))
        (λ _. quiet_under x e (named_end e t.old.epoch) h near (recorded_at x.bearer e _ q) refl) (λ _. quiet_under x e (tunnelled_end e t.old.epoch (inside_of t by)) h near (recorded_at x.bearer e _ q) refl);
    opens = λ x packets given last may brings h. none_under x (record x { begun = last }) (record { two = h.two; near = h.near; far = h.far }) refl (omega arith) (omega arith);
    puts = λ x e s pieces s' near may has is h.
        let q = near_end x e near h in
        let same = put_same s pieces s' is in
        near_under x e (with_session e (flushed s')) e.fsm.own [] (flush_frames s') h near (session_put x.bearer e s s' has same q) (omega arith) refl (All-nil _) (flush_under x.bearer x.near e s s' near may has same q);
    answers = λ x e taken asks shown near may h.
        let q = near_end x e near h in
        let read : SessionEnd → SessionEnd = λ s. answered (with_broadcast s taken asks) in
        let F = MadeOf S show x.bearer e.fsm.own in
        let said = subst (λ k. All F (frames_with e taken asks k)) may.1 (answers_at S show x.bearer e.fsm.own e taken asks may.0 q refl) in
        tested (λ (d : LinkEnd). Under S show x (near_course x d (frames_with e taken asks shown) [])) (is_up e.fsm.state) (record e { session = option_map read e.session }) e
        (λ _. near_under x e (record e { session = option_map read e.session }) e.fsm.own (frames_with e taken asks shown) [] h near (session_mapped x.bearer e read (λ s. record { bearer = refl; epoch = refl }) q) (omega arith) refl said (All-nil _))
        (λ _. near_under x e e e.fsm.own (frames_with e taken asks shown) [] h near q (omega arith) refl said (All-nil _));
  }

  -- ---- a turn

  may_happen : (x : PairEnds) (opening : Opening) → MakesNew x opening → IsShownIn S show opening → MayHappen (May S show) x opening
  may_happen x (makes bearer is_mended) new may = (new, tt)
  may_happen x (ticks shown) new may = λ y. may
  may_happen x (hears bearer es er p by shown) new may = record {
    hears = hears_may (May S show) p.header es er p by shown (facing bearer x) (λ number. tt) (λ y. may) (λ y. may);
    opens = opens_may (May S show) _ _ (λ y epoch. tt) (λ y t by'. tt) (λ y packets given. tt);
  }
  may_happen x other new may = tt

-- the pair after a turn, whose epochs are no lower than before, and the frames that left
pub record TurnEpochs (S : Type 0) (show : S → BroadcastState) (x y : PairEnds) (fs : List Outgoing) : Type 0 where
  pub both : Both IsEndAt y
  pub bearer : y.bearer ≡ x.bearer
  pub near : own_at x.near ≤ own_at y.near
  pub far : own_at x.far ≤ own_at y.far
  pub frames : All (Within S show x y) fs

pub turn_epochs : (S : Type 0) (show : S → BroadcastState) (x y : PairEnds) (opening : Opening) (messages : List (List ℕ)) (reply : Option Reply) (fs : List Outgoing) → Both IsEndAt x → MakesNew x opening
    → IsShownIn S show opening → IsShownAtLast S show reply → PairTurn x opening messages reply y fs → TurnEpochs S show x y fs
turn_epochs S show x y opening messages reply fs h new first last t =
    let A = May S show in
    let may : MayTurn A x opening messages reply = record { happens = may_happen S show x opening new first; puts = λ i d within z up. up; answers = λ r is z. subst (IsShownAtLast S show) is last } in
    let c = turn_course t in
    let u = walks_by_parts A (Going S show) (going S show) x c (turn_ran A (λ z. tt) x y opening messages reply fs h.two may t) h in
    subst (λ z. TurnEpochs S show x z fs) (sym (turn_pair x y opening messages reply fs t))
    (record { both = u.both; bearer = u.bearer; near = u.near; far = u.far; frames = turn_frames (Within S show x c.pair) x y opening messages reply fs t u.states u.numbered })
