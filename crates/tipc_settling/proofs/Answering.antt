-- Each act of a still pair sends an ACTIVATE that shows the peer's present epoch only from an end that answers it, and goes on to; and a link goes up
-- only by what its end hears.
use Rattle.std.specs.Prelude.{All, IfSome, ◌==◌, ◌&&◌, ◌||◌, ◌-◌, nat_lt, not, if◌then◌else◌}
use Rattle.std.proofs.Common.{◌≡◌, ◌≢◌, ◌≤◌, ◌<◌, ◌⊎◌, ◌^◌, ◌∙◌, ℕ, Bool, true, false, List, [], Option, Some, None, option_map, inl, inr, refl, sym, ap, subst, arith}
use Rattle.std.proofs.lemmas.Bool.{true≢false}
use Rattle.std.proofs.lemmas.List.Elements.{All-append, All-cons, All-nil, All-weaker}
use Rattle.tipc_types.specs.LinkStates.{is_up}
use Rattle.tipc_types.specs.declared.link_words.BroadcastState.{BroadcastState}
use Rattle.tipc_types.specs.declared.link_words.LinkState.{LinkState}
use Rattle.tipc_types.specs.declared.link_words.LinkState.TheVariants.{Held, ResetReset, ResetUnknown, WorkingUnknown, WorkingWorking}
use Rattle.tipc_types.specs.declared.link_words.Reply.TheVariants as reply
use Rattle.tipc_outside.specs.declared.outgoing.Outgoing.{Outgoing}
use Rattle.tipc_header.specs.declared.packet.Header.{Header}
use Rattle.tipc_header.specs.declared.packet.Header.TheVariants as header
use Rattle.tipc_header.specs.declared.packet.Reset.{Reset}
use Rattle.tipc_link_fsm.specs.declared.changes.Change.{Change}
use Rattle.tipc_link_fsm.specs.declared.changes.Change.TheVariants.{Answer, Down, Ignore, Stay, Up}
use Rattle.tipc_link_fsm.specs.Table.{Fsm, Outcome, forget_peer, is_held, is_in_reset, is_last, is_peer, is_reset_reset, is_session, on_activate, on_peer_tunnel, on_reset, on_tick, on_traffic, release, tick_in, up_tick}
use Rattle.tipc_link_fsm.proofs.Moves.{Moves, cases_on, falls, forget_peer_moves, is_going_up, on_peer_tunnel_moves, on_reset_moves, on_tick_moves, release_moves, rises, stays as still_moves}
use Rattle.tipc_link.specs.Links.{LinkEnd, activate_frames, answered_with, follow_frames, frames, is_answer, is_down, is_heard, is_reset_unknown, is_traffic, mended_end, notice, outcome_of, repeats_at, reset_frames, shown_by, with_fsm, with_session}
use Rattle.tipc_link.specs.Sessions.{SessionEnd, flush_frames, flushed, put as putting}
use Rattle.tipc_pair.specs.Changeovers.{contact_begins, contact_ends, following, forgetting, forgotten, let_go, switch, switch_from, switching}
use Rattle.tipc_pair.specs.Courses.{Course, going_on, rests as nothing}
use Rattle.tipc_pair.specs.Facing.{PairEnds, in_contact, is_up_at, other, turned, with_near}
use Rattle.tipc_pair.specs.LinkReadings.{silence_in}
use Rattle.tipc_pair.specs.Runs.{taken_over}
use Rattle.tipc_pair.specs.PairArrivals.{inner_taken}
use Rattle.tipc_pair.proofs.ArrivalLaws.{inner_fsm}
use Rattle.tipc_pair.proofs.EndSteps.{tunnel_quiet}
use Rattle.tipc_pair.proofs.HeldLaws.{tick_quiet}
use Rattle.tipc_pair.proofs.acts.Acting.{ran_bearer}
use Rattle.tipc_pair.proofs.acts.Acts.{Act, Acts, Ran, Steps}
use Rattle.tipc_pair.proofs.acts.Acts.Act.{answers as answering, carries as carrying, counts as counting, cuts as cutting, lets_go as letting, makes as making, meets as meeting, mends as mending, names as naming, opens as opening, puts as putting_on, resets as resetting, ticks as ticking}
use Rattle.tipc_pair.proofs.acts.Acts.Acts.{answered, counted, let_go_of, made, mended, moved, opened, put, raised}
use Rattle.tipc_pair.proofs.acts.Acts.Ran.{acts}
use Rattle.tipc_pair.proofs.acts.Acts.Steps.{cut, meet, name, reset, tick}
use Rattle.tipc_pair.proofs.acts.Walks.{Walk, outcome_moves, step_moves, tested, walks}
use Rattle.tipc_pair.proofs.turns.EndEpochs.{after_at, arrival_at, forget_quiet, heard_up, outcome_says, release_quiet, reset_says, tick_says}
use Rattle.tipc_pair.proofs.turns.FrameKinds.{MadeOf, answers_at, flush_made, put_same}
use Rattle.tipc_pair.proofs.turns.Moves.{up_silence}
use Rattle.tipc_pair.proofs.turns.PairKept.{Both, both_turned}
use Rattle.tipc_pair.proofs.turns.PairPuts.{answered_states}
use Rattle.tipc_paired.specs.Views.{fsm_in}
use Rattle.tipc_settling.specs.Beginnings.{is_answering, standing}
use Rattle.tipc_settling.specs.Laws.{StaysStill}
use Rattle.tipc_settling.specs.Stillness.{AnswersTo, Footing, IsStill, IsStillAt, IsStillEnd}
use Rattle.tipc_settling.proofs.Bearers.{IsOn, MayOn, act_sends, back_up, same, step_on}
use Rattle.tipc_settling.proofs.Pairs.{Meets, act_still, contact_seen, following_same, near_still, other_near, same_still, step_still, still_turned}
use Rattle.tipc_settling.proofs.Rows.{peer_known, peer_named, reset_still, shown_quiet, tick_still, tunnel_still}
use Rattle.tipc_settling.proofs.Standing.{here, stands_anew, there}

-- ---- a frame that leaves

-- link states that answer the peer's present epoch on a bearer
abbrev pub Answering : Footing → ℕ → Option Fsm → Type 0
Answering peer bearer o = (f : Fsm) × (o ≡ Some f) × AnswersTo (peer.epoch bearer) f

-- link states that know another epoch of the peer
pub record KnowsOther (epoch : ℕ) (f : Fsm) : Type 0 where
  pub own : f.own < 2 ^ 64
  pub known_epoch : ℕ
  pub knows : f.peer ≡ Some known_epoch
  pub fits : known_epoch < 2 ^ 64
  pub differs : known_epoch ≢ epoch

-- a link end whose epoch has 64 bits, as the peer's has that it knows where it heard a reset
pub record IsKnowing (e : LinkEnd) : Type 0 where
  pub own : e.fsm.own < 2 ^ 64
  pub knows : is_reset_reset e.fsm.state ≡ true → (epoch : ℕ) × (e.fsm.peer ≡ Some epoch) × (epoch < 2 ^ 64)

-- A frame that left, beside the pair as it is: it is a RESET; or the ACTIVATE of an end that knows another epoch of the peer; or the end on its
-- bearer, which is that of the near link or of the far one, answers.
pub data Said (peer : Footing) (y : PairEnds) (o : Outgoing) : Type 0 where
  resets : (e : LinkEnd) (said : Reset) → o ≡ notice e (header.Reset said) → Said peer y o
  names : (e : LinkEnd) (said : Reset) → o ≡ notice e (header.Activate said) → KnowsOther (peer.epoch o.bearer) e.fsm → Said peer y o
  by_near : o.bearer ≡ y.bearer → Answering peer y.bearer (fsm_in y.near) → Said peer y o
  by_far : o.bearer ≡ other y.bearer → Answering peer (other y.bearer) (fsm_in y.far) → Said peer y o

-- an end on its bearer, with its session
abbrev pub On : ℕ → LinkEnd → Type 0
On b e = IsOn (λ bearer. true) b e

answering_end : (epoch : ℕ) (o : Option LinkEnd) (f : Fsm) → fsm_in o ≡ Some f → AnswersTo epoch f → is_answering epoch o ≡ true
answering_end epoch None f is says = absurd (let wrong : ⊥ = cc in wrong)
answering_end epoch (Some e) f is says =
    let same : e.fsm ≡ f = cc in
    let k = subst (AnswersTo epoch) (sym same) says in
    ap (λ b. b && (is_up e.fsm.state || is_reset_reset e.fsm.state)) (peer_known e.fsm.peer epoch k.knows) ∙ k.heard

pub either_so : (a b : Bool) → b ≡ true → (a || b) ≡ true
either_so true b is = refl
either_so false b is = is

-- a header by which a link may go up: that of an ACTIVATE, of a STATE or of a numbered packet
abbrev pub Wakes : Header → Type 0
Wakes h = ((said : Reset) × (h ≡ header.Activate said)) ⊎ (is_traffic h ≡ true)

-- a link that went up is up
moved_up : (f : Fsm) (shown : Option (ℕ × ℕ)) (o : Outcome) → Moves f shown o → o.change ≡ Up → is_up o.after.state ≡ true
moved_up f shown o (still_moves own_is up quiet) is = absurd (true≢false (sym (ap is_going_up is) ∙ quiet))
moved_up f shown o (rises es own_is was now last it peer_is rising) is = now
moved_up f shown o (falls own_is down quiet) is = absurd (true≢false (sym (ap is_going_up is) ∙ quiet))

-- the second epoch that was shown
abbrev shown_er : Option (ℕ × ℕ) → ℕ
shown_er None = 0
shown_er (Some shown) = shown.1

-- a pair's ends are up where those with the same link states are
up_same : (o p : Option LinkEnd) → fsm_in p ≡ fsm_in o → is_up_at p ≡ is_up_at o
up_same o p same_states = by_states p ∙ (ap is_up_in same_states ∙ sym (by_states o))
  where
    is_up_in : Option Fsm → Bool
    is_up_in None = false
    is_up_in (Some f) = is_up f.state

    by_states : (o : Option LinkEnd) → is_up_at o ≡ is_up_in (fsm_in o)
    by_states None = refl
    by_states (Some e) = refl

-- A pair is seen with two footings, and what is to be shown of a bearer on which a link goes up.
module _ (own peer : Footing) (Came : ℕ → Type 0) where
  -- the pair may be seen from its other link
  pub flip : (y : PairEnds) → y.bearer ≤ 1 → (o : Outgoing) → Said peer y o → Said peer (turned y) o
  flip y two o (resets e said is) = resets e said is
  flip y two o (names e said is knows) = names e said is knows
  flip y two o (by_near on says) = let back : y.bearer ≡ 1 - (1 - y.bearer) = omega (arith, two) in by_far (on ∙ back) (subst (λ b. Answering peer b (fsm_in y.near)) back says)
  flip y two o (by_far on says) = by_near on says

  -- what stands on a footing on which it answered answers
  goes_on_answering : (now : Footing) (seen bearer : ℕ) (o : Option Fsm) → IsStillAt now peer seen bearer o → now.answers bearer ≡ true → Answering peer bearer o
  goes_on_answering now seen bearer None h was = absurd (true≢false (sym was ∙ h.unanswered))
  goes_on_answering now seen bearer (Some f) h was = (f, refl, h.answers was)

  near_answered : (y : PairEnds) → Answering peer y.bearer (fsm_in y.near) → (standing own peer y).answers y.bearer ≡ true
  near_answered y says = ap (λ (z : PairEnds). is_answering (peer.epoch y.bearer) z.near) (here y) ∙ answering_end (peer.epoch y.bearer) y.near says.0 says.1 says.2

  far_answered : (y : PairEnds) → y.bearer ≤ 1 → Answering peer (other y.bearer) (fsm_in y.far) → (standing own peer y).answers (other y.bearer) ≡ true
  far_answered y two says = ap (λ (z : PairEnds). is_answering (peer.epoch (other y.bearer)) z.near) (there y two) ∙ answering_end (peer.epoch (other y.bearer)) y.far says.0 says.1 says.2

  -- and so it is at any later moment
  pub later : (y z : PairEnds) → y.bearer ≤ 1 → z.bearer ≡ y.bearer → IsStill (standing own peer y) peer z → (o : Outgoing) → Said peer y o → Said peer z o
  later y z two on h o (resets e said is) = resets e said is
  later y z two on h o (names e said is knows) = names e said is knows
  later y z two on h o (by_near at says) =
      by_near (at ∙ sym on) (goes_on_answering (standing own peer y) z.seen z.bearer (fsm_in z.near) h.near (ap (standing own peer y).answers on ∙ near_answered y says))
  later y z two on h o (by_far at says) =
      by_far (at ∙ ap other (sym on)) (goes_on_answering (standing own peer y) z.seen (other z.bearer) (fsm_in z.far) h.far (ap (λ b. (standing own peer y).answers (other b)) on ∙ far_answered y two says))

  -- ---- the frames of an end

  -- what the near end says, which answers
  answers_near : (z : PairEnds) (b : ℕ) (f : Fsm) → z.bearer ≡ b → fsm_in z.near ≡ Some f → AnswersTo (peer.epoch b) f → (o : Outgoing) → o.bearer ≡ b → Said peer z o
  answers_near z b f on is says o at = by_near (at ∙ sym on) (f, is, subst (λ n. AnswersTo (peer.epoch n) f) (sym on) says)

  made_answers : (z : PairEnds) (b epoch : ℕ) (f : Fsm) (fs : List Outgoing) → z.bearer ≡ b → fsm_in z.near ≡ Some f → AnswersTo (peer.epoch b) f → All (MadeOf BroadcastState same b epoch) fs → All (Said peer z) fs
  made_answers z b epoch f fs on is says all = All-weaker (MadeOf BroadcastState same b epoch) (Said peer z) (λ o m. answers_near z b f on is says o m.bearer) fs all

  resets_said : (z : PairEnds) (e : LinkEnd) → All (Said peer z) (reset_frames e)
  resets_said z e = tested (All (Said peer z)) e.mended _ [] (λ _. All-cons (Said peer z) _ [] (resets e (shown_by e) refl) (All-nil (Said peer z))) (λ _. All-nil (Said peer z))

  activates_said : (z : PairEnds) (e : LinkEnd) (b : ℕ) → e.bearer ≡ b → KnowsOther (peer.epoch b) e.fsm → All (Said peer z) (activate_frames e)
  activates_said z e b on knows =
      tested (All (Said peer z)) e.mended _ []
      (λ _. All-cons (Said peer z) _ [] (names e (shown_by e) refl (subst (λ n. KnowsOther (peer.epoch n) e.fsm) (sym on) knows)) (All-nil (Said peer z))) (λ _. All-nil (Said peer z))

  -- what an end says by a change of its link states: it says ACTIVATE where it answers, or knows another epoch
  follow_said : (z : PairEnds) (b epoch : ℕ) (e : LinkEnd) (f : Fsm) (change : Change) (shown : BroadcastState) → z.bearer ≡ b → e.bearer ≡ b → fsm_in z.near ≡ Some f → (is_up f.state ≡ true → AnswersTo (peer.epoch b) f)
      → (change ≡ Up → is_up f.state ≡ true) → ((probe : Bool) → change ≡ Answer (reply.State probe) → is_up f.state ≡ true) → (change ≡ Answer reply.Activate → AnswersTo (peer.epoch b) f ⊎ KnowsOther (peer.epoch b) f)
      → All (MadeOf BroadcastState same b epoch) (follow_frames (with_fsm e f) change shown) → All (Said peer z) (follow_frames (with_fsm e f) change shown)
  follow_said z b epoch e f Up shown on at is up goes states activates all = made_answers z b epoch f (follow_frames (with_fsm e f) Up shown) on is (up (goes refl)) all
  follow_said z b epoch e f (Answer reply.Reset) shown on at is up goes states activates all = resets_said z (with_fsm e f)
  follow_said z b epoch e f (Answer reply.Activate) shown on at is up goes states activates all = elim (activates refl) [
    | inl says ↦ made_answers z b epoch f (follow_frames (with_fsm e f) (Answer reply.Activate) shown) on is says all
    | inr knows ↦ activates_said z (with_fsm e f) b at knows
  ]
  follow_said z b epoch e f (Answer (reply.State probe)) shown on at is up goes states activates all = made_answers z b epoch f (follow_frames (with_fsm e f) (Answer (reply.State probe)) shown) on is (up (states probe refl)) all
  follow_said z b epoch e f Stay shown on at is up goes states activates all = All-nil (Said peer z)
  follow_said z b epoch e f (Down because) shown on at is up goes states activates all = All-nil (Said peer z)
  follow_said z b epoch e f (Ignore reason) shown on at is up goes states activates all = All-nil (Said peer z)

  -- a link that is up answers
  up_answers : (x : PairEnds) (o : Outcome) → StaysStill own peer x.seen x.bearer o → is_up o.after.state ≡ true → AnswersTo (peer.epoch x.bearer) o.after
  up_answers x o s up = (let k = s.still in record { knows = k.up up; heard = ap (λ b. b || is_reset_reset o.after.state) up })

  -- ---- what follows

  switching_said : (x z : PairEnds) (near far : LinkEnd) (a b : Option SessionEnd) (f : Fsm) → x.near ≡ Some near → near.session ≡ a → On x.bearer near → z.bearer ≡ x.bearer → fsm_in z.near ≡ Some f → AnswersTo (peer.epoch x.bearer) f
      → All (Said peer z) (switching x near far a b).numbered
  switching_said x z near far (Some s) (Some old) f one has on at is says =
      let end = on.end in
      All-weaker (MadeOf BroadcastState same s.bearer s.epoch) (Said peer z) (λ o m. answers_near z x.bearer f at is says o (m.bearer ∙ (end.session s has).0)) (flush_frames (putting s (taken_over old))) (flush_made BroadcastState same (putting s (taken_over old)))
  switching_said x z near far (Some s) None f one has on at is says = All-nil (Said peer z)
  switching_said x z near far None b f one has on at is says = All-nil (Said peer z)

  switch_said : (x z : PairEnds) (o p : Option LinkEnd) (f : Fsm) → x.near ≡ o → IfSome o (On x.bearer) → z.bearer ≡ x.bearer → fsm_in z.near ≡ Some f → AnswersTo (peer.epoch x.bearer) f → All (Said peer z) (switch_from x o p).numbered
  switch_said x z (Some near) (Some far) f one on at is says = switching_said x z near far near.session far.session f one refl on at is says
  switch_said x z (Some near) None f one on at is says = All-nil (Said peer z)
  switch_said x z None p f one on at is says = All-nil (Said peer z)

  -- no STATE, RESET or ACTIVATE follows where no link goes down
  switching_none : (x : PairEnds) (near far : LinkEnd) (a b : Option SessionEnd) → (switching x near far a b).states ≡ []
  switching_none x near far (Some s) (Some old) = refl
  switching_none x near far (Some s) None = refl
  switching_none x near far None b = refl

  switch_none : (x : PairEnds) (o p : Option LinkEnd) → (switch_from x o p).states ≡ []
  switch_none x (Some near) (Some far) = switching_none x near far near.session far.session
  switch_none x (Some near) None = refl
  switch_none x None p = refl

  following_none : (x : PairEnds) (change : Change) (epoch : ℕ) → is_down change ≡ false → (following x change epoch).states ≡ []
  following_none x Up epoch up =
      tested (λ (c : Course). c.states ≡ []) (is_up_at x.far) (if x.bearer == 0 then switch x else nothing x) (contact_begins x)
      (λ _. tested (λ (c : Course). c.states ≡ []) (x.bearer == 0) (switch x) (nothing x) (λ _. switch_none x x.near x.far) (λ _. refl)) (λ _. refl)
  following_none x (Down because) epoch up = absurd (true≢false up)
  following_none x Stay epoch up = refl
  following_none x (Answer back) epoch up = refl
  following_none x (Ignore reason) epoch up = refl

  following_said : (x z : PairEnds) (change : Change) (epoch : ℕ) (f : Fsm) → is_down change ≡ false → Both On x → z.bearer ≡ x.bearer → fsm_in z.near ≡ Some f → (change ≡ Up → AnswersTo (peer.epoch x.bearer) f)
      → All (Said peer z) (following x change epoch).numbered
  following_said x z Up epoch f up h at is says =
      tested (λ (c : Course). All (Said peer z) c.numbered) (is_up_at x.far) (if x.bearer == 0 then switch x else nothing x) (contact_begins x)
      (λ _. tested (λ (c : Course). All (Said peer z) c.numbered) (x.bearer == 0) (switch x) (nothing x) (λ _. switch_said x z x.near x.far f refl h.near at is (says refl)) (λ _. All-nil (Said peer z))) (λ _. All-nil (Said peer z))
  following_said x z (Down because) epoch f up h at is says = absurd (true≢false up)
  following_said x z Stay epoch f up h at is says = All-nil (Said peer z)
  following_said x z (Answer back) epoch f up h at is says = All-nil (Said peer z)
  following_said x z (Ignore reason) epoch f up h at is says = All-nil (Said peer z)

  -- ---- an act

  -- What may be done: what may be done at a still pair; a tick where the link was heard, and its end is known; and packets are put on a link that is up.
  -- What meets an end under its own epoch, and may take it up, shows that of its bearer.
  abbrev pub Asks : PairEnds → Act → Type 0
  Asks x cutting = ⊥
  Asks x (ticking shown) = (silence_in x.near ≤ 3) × IfSome x.near IsKnowing
  Asks x making = x.near ≡ None
  Asks x (resetting es shown) = (es ≡ peer.epoch x.bearer) × (x.seen ≡ peer.contact)
  Asks x (meeting es er p by shown) = (es ≡ peer.epoch x.bearer) × Meets own peer x.seen p.header × (er ≡ own.epoch x.bearer → Wakes p.header → Came x.bearer)
  Asks x (naming epoch) = epoch ≢ peer.epoch x.bearer
  Asks x (counting number) = (number ≡ peer.contact) × (x.seen ≡ peer.contact → ⊥)
  Asks x (putting_on pieces) = is_up_at x.near ≡ true
  Asks x other = Unit {0}

  meets_any : (o : Footing) (seen : ℕ) (h : Header) → Meets own peer seen h → Meets o peer seen h
  meets_any o seen (header.Reset said) meets = meets
  meets_any o seen (header.Activate said) meets = meets
  meets_any o seen other meets = tt

  may_on : (x : PairEnds) (a : Act) → Asks x a → MayOn (λ bearer. true) x a
  may_on x cutting may = may
  may_on x mending may = refl
  may_on x (meeting es er p by shown) may = refl
  may_on x (putting_on pieces) may = may
  may_on x other may = tt

  -- the step of an end leaves it still on any footing on which it is so
  step_stays : (now : Footing) (x : PairEnds) (a : Act) (e : LinkEnd) (o : Outcome) (e' : LinkEnd) (states numbered : List Outgoing) (epoch : ℕ) → x.near ≡ Some e → Asks x a → IsStillEnd now peer x.seen x.bearer e.fsm
      → Steps x e a o e' states numbered epoch → StaysStill now peer x.seen x.bearer o
  step_stays now x _ e _ _ _ _ _ near may h cut = absurd may
  step_stays now x _ e _ _ _ _ _ near may h (tick shown) =
      let few = may.0 in
      let same_silence : silence_in x.near ≡ silence_in (Some e) = ap silence_in near in
      tick_still now peer x.seen x.bearer (is_up_at x.far) e.fsm h (λ up. (let silent = up_silence e up in omega (arith, few, same_silence, silent)))
  step_stays now x _ e _ _ _ _ _ near may h (reset es held shown) = reset_still now peer x.seen x.bearer es held e.fsm h may.0 may.1
  step_stays now x _ e _ _ _ _ _ near may h (name epoch) = tunnel_still now peer x.seen x.bearer epoch e.fsm h may
  step_stays now x _ e _ _ _ _ _ near may h (meet es er p by shown) = step_still now peer x (meeting es er p by shown) e _ _ _ _ es (may.0, meets_any now x.seen p.header may.1) h (meet es er p by shown)

  -- so does a whole act
  act_keeps : (now : Footing) (x : PairEnds) (a : Act) (c : Course) → Asks x a → Acts x a c → IsStill now peer x → IsStill now peer c.pair
  unfolding going_on
  act_keeps now _ _ _ may (made x) h = act_still now peer x making _ may (made x) h
  act_keeps now _ _ _ may (mended x e near) h = act_still now peer x mending _ tt (mended x e near) h
  act_keeps now _ _ _ may (moved x a e o e' states numbered epoch near step) h =
      let s = step_stays now x a e o e' states numbered epoch near may (near_still now peer x e near h) step in
      let m = step_moves x a e o e' states numbered epoch step in
      let y = with_near x e' in
      same_still now peer y (following y o.change epoch).pair (following_same y o.change epoch s.up) (other_near now peer x e' o.after m.fsm s.still h)
  act_keeps now _ _ _ may (raised x number) h = act_still now peer x (counting number) _ may (raised x number) h
  act_keeps now _ _ _ may (let_go_of x e near clear) h = act_still now peer x letting _ tt (let_go_of x e near clear) h
  act_keeps now _ _ _ may (counted x e t by near) h = act_still now peer x (carrying t by) _ tt (counted x e t by near) h
  act_keeps now _ _ _ may (opened x packets given last brings) h = act_still now peer x (opening packets given) _ tt (opened x packets given last brings) h
  act_keeps now _ _ _ may (put x e s pieces s' near has is) h = act_still now peer x (putting_on pieces) _ tt (put x e s pieces s' near has is) h
  act_keeps now _ _ _ may (answered x e taken asks shown near) h = act_still now peer x (answering taken asks shown) _ tt (answered x e taken asks shown near) h

  -- ---- what its frames are

  -- a RESET under the present epoch is answered by an end that answers
  reset_activates : (seen bearer es : ℕ) (held : Bool) (f : Fsm) → es ≡ peer.epoch bearer → (on_reset f es held).change ≡ Answer reply.Activate → AnswersTo (peer.epoch bearer) (on_reset f es held).after
  unfolding on_reset
  reset_activates seen bearer es held f same_epoch =
      let P : Outcome → Type 0 = λ o. o.change ≡ Answer reply.Activate → AnswersTo (peer.epoch bearer) o.after in
      cases_on P (is_held f.state) _ _ (λ _ is. absurd (let wrong : ⊥ = cc in wrong)) (λ _.
      cases_on P (nat_lt es f.highest || (is_up f.state && is_peer f.peer es)) _ _ (λ _ is. absurd (let wrong : ⊥ = cc in wrong)) (λ _.
      cases_on P (is_up f.state) _ _ (λ _ is. absurd (let wrong : ⊥ = cc in wrong)) (λ _ is. record { knows = ap Some same_epoch; heard = refl })))

  -- no other packet is answered so
  activate_quiet : (es er : ℕ) (f : Fsm) → (on_activate f es er).change ≡ Answer reply.Activate → ⊥
  unfolding on_activate
  activate_quiet es er f =
      let P : Outcome → Type 0 = λ o. o.change ≡ Answer reply.Activate → ⊥ in
      cases_on P (is_held f.state) _ _ (λ _ is. cc) (λ _.
      cases_on P ((is_in_reset f.state && not (is_last f.own)) && ((er == f.own) && not (nat_lt es f.highest))) _ _ (λ _ is. cc) (λ _.
      cases_on P (is_up f.state && is_session f es er) _ _ (λ _ is. cc) (λ _ is. cc)))

  traffic_quiet : (es er : ℕ) (f : Fsm) → (on_traffic f es er).change ≡ Answer reply.Activate → ⊥
  unfolding on_traffic
  traffic_quiet es er f =
      let P : Outcome → Type 0 = λ o. o.change ≡ Answer reply.Activate → ⊥ in
      cases_on P (is_session f es er && (is_reset_reset f.state && not (is_last f.own))) _ _ (λ _ is. cc) (λ _.
      cases_on P (is_session f es er && is_up f.state) _ _ (λ _ is. cc) (λ _ is. cc))

  met_quiet : (h : Header) (seen es er : ℕ) (held : Bool) (f : Fsm) → Meets own peer seen h → (outcome_of f h es er held).change ≡ Answer reply.Activate → ⊥
  met_quiet (header.Reset said) seen es er held f meets is = meets
  met_quiet (header.Activate said) seen es er held f meets is = activate_quiet es er f is
  met_quiet (header.Discovery said) seen es er held f meets is = cc
  met_quiet other seen es er held f meets is = traffic_quiet es er f is

  -- a tick makes an end say ACTIVATE that heard a reset, and leaves it so
  up_tick_quiet : (held : Bool) (f : Fsm) → (up_tick f held).change ≡ Answer reply.Activate → ⊥
  up_tick_quiet held f =
      let P : Outcome → Type 0 = λ o. o.change ≡ Answer reply.Activate → ⊥ in
      cases_on P (f.silent == 4) _ _ (λ _ is. cc) (λ _ is. cc)

  tick_in_activates : (st : LinkState) (held : Bool) (f : Fsm) → (tick_in st f held).change ≡ Answer reply.Activate → (is_reset_reset st ≡ true) × ((tick_in st f held).after ≡ f)
  tick_in_activates ResetUnknown held f is = absurd (let wrong : ⊥ = cc in wrong)
  tick_in_activates ResetReset held f is = (refl, refl)
  tick_in_activates Held held f is = absurd (let wrong : ⊥ = cc in wrong)
  tick_in_activates WorkingWorking held f is = absurd (up_tick_quiet held f is)
  tick_in_activates WorkingUnknown held f is = absurd (up_tick_quiet held f is)

  answers_or_other : (epoch : ℕ) (e : LinkEnd) → IsKnowing e → is_reset_reset e.fsm.state ≡ true → AnswersTo epoch e.fsm ⊎ KnowsOther epoch e.fsm
  answers_or_other epoch e known after_reset = by (is_peer e.fsm.peer epoch) refl
    where
      heard : (is_up e.fsm.state || is_reset_reset e.fsm.state) ≡ true
      heard = either_so (is_up e.fsm.state) (is_reset_reset e.fsm.state) after_reset

      by : (b : Bool) → is_peer e.fsm.peer epoch ≡ b → AnswersTo epoch e.fsm ⊎ KnowsOther epoch e.fsm
      by true is = inl (record { knows = peer_named e.fsm.peer epoch is; heard = heard })
      by false is =
          let k = known.knows after_reset in
          inr (record { own = known.own; known_epoch = k.0; knows = k.1; fits = k.2; differs = λ same_epoch. true≢false (sym (peer_known e.fsm.peer epoch (k.1 ∙ ap Some same_epoch)) ∙ is) })

  tick_activates : (epoch : ℕ) (held : Bool) (e : LinkEnd) → IsKnowing e → (on_tick e.fsm held).change ≡ Answer reply.Activate → AnswersTo epoch (on_tick e.fsm held).after ⊎ KnowsOther epoch (on_tick e.fsm held).after
  unfolding on_tick
  tick_activates epoch held e known is =
      let k = tick_in_activates e.fsm.state held e.fsm is in
      subst (λ f. AnswersTo epoch f ⊎ KnowsOther epoch f) (sym k.1) (answers_or_other epoch e known k.0)

  -- what is sent again, or numbered, where a session heard the packet
  heard_said : (z : PairEnds) (b epoch : ℕ) (f : Fsm) (t : Bool) (fs : List Outgoing) → z.bearer ≡ b → fsm_in z.near ≡ Some f → (t ≡ true → AnswersTo (peer.epoch b) f) → All (MadeOf BroadcastState same b epoch) (if t then fs else [])
      → All (Said peer z) (if t then fs else [])
  heard_said z b epoch f true fs on is says all = made_answers z b epoch f fs on is (says refl) all
  heard_said z b epoch f false fs on is says all = All-nil (Said peer z)

  step_said : (x z : PairEnds) (a : Act) (e : LinkEnd) (o : Outcome) (e' : LinkEnd) (states numbered : List Outgoing) (epoch : ℕ) → x.near ≡ Some e → Asks x a → On x.bearer e → StaysStill own peer x.seen x.bearer o → z.bearer ≡ x.bearer
      → fsm_in z.near ≡ Some o.after → Steps x e a o e' states numbered epoch → All (Said peer z) states × All (Said peer z) numbered
  step_said x z _ e _ _ _ _ _ near may on s at is cut = absurd may
  step_said x z _ e _ _ _ _ _ near may on s at is (name epoch) = (All-nil (Said peer z), All-nil (Said peer z))
  step_said x z _ e _ _ _ _ _ near may on s at is (tick shown) =
      let held = is_up_at x.far in
      let o = on_tick e.fsm held in
      let end = on.end in
      let k = after_at BroadcastState same x.bearer e None o shown (shown, refl) end (on_tick_moves e.fsm held None) (tick_says e.fsm held) in
      let known : IsKnowing e = subst (λ p. IfSome p IsKnowing) near may.1 in (
        follow_said z x.bearer o.after.own e o.after o.change shown at end.on is (up_answers x o s) (λ up. absurd (true≢false (sym (ap is_going_up up) ∙ tick_quiet e.fsm held))) (tick_says e.fsm held)
            (tick_activates (peer.epoch x.bearer) held e known) k.1,
        All-nil (Said peer z),
      )
  step_said x z _ e _ _ _ _ _ near may on s at is (reset es held shown) =
      let o = on_reset e.fsm es held in
      let end = on.end in
      let m = on_reset_moves e.fsm es held None in
      let k = after_at BroadcastState same x.bearer e None o shown (shown, refl) end m (reset_says e.fsm es held) in (
        follow_said z x.bearer o.after.own e o.after o.change shown at end.on is (up_answers x o s) (λ up. absurd (true≢false (sym (ap is_going_up up) ∙ shown_quiet e.fsm o m))) (reset_says e.fsm es held)
            (λ activates. inl (reset_activates x.seen x.bearer es held e.fsm may.0 activates)) k.1,
        All-nil (Said peer z),
      )
  step_said x z _ e _ _ _ _ _ near may on s at is (meet es er p by shown) =
      let held = is_up_at x.far in
      let o = outcome_of e.fsm p.header es er held in
      let end = on.end in
      let m = outcome_moves e.fsm p.header es er held in
      let k = after_at BroadcastState same x.bearer e (Some (es, er)) o shown (shown, refl) end m (outcome_says e.fsm p.header es er held) in
      let r = arrival_at BroadcastState same x.bearer e o p by (heard_up e.fsm p.header es er held) k.0 in
      let answers : is_heard p.header o.change ≡ true → AnswersTo (peer.epoch x.bearer) o.after = λ heard. up_answers x o s (heard_up e.fsm p.header es er held heard) in
      let first = follow_said z x.bearer o.after.own e o.after o.change shown at end.on is (up_answers x o s) (moved_up e.fsm (Some (es, er)) o m) (outcome_says e.fsm p.header es er held)
      (λ activates. absurd (met_quiet p.header x.seen es er held e.fsm may.1 activates)) k.1 in (
        All-append (Said peer z) (frames e o shown) (repeats_at e o p) first (heard_said z x.bearer o.after.own o.after (is_heard p.header o.change) _ at is answers r.1),
        heard_said z x.bearer o.after.own o.after (is_heard p.header o.change) _ at is answers r.2,
      )

  -- the frames of an act
  record FramesSaid (z : PairEnds) (c : Course) : Type 0 where
    states : All (Said peer z) c.states
    numbered : All (Said peer z) c.numbered

  none_said : (z : PairEnds) (c : Course) → c.states ≡ [] → c.numbered ≡ [] → FramesSaid z c
  none_said z c one two = record { states = subst (All (Said peer z)) (sym one) (All-nil (Said peer z)); numbered = subst (All (Said peer z)) (sym two) (All-nil (Said peer z)) }

  act_says : (x : PairEnds) (a : Act) (c : Course) → Asks x a → Acts x a c → IsStill own peer x → Both On x → FramesSaid c.pair c
  unfolding going_on
  act_says _ _ _ may (made x) h both = record { states = All-nil (Said peer _); numbered = All-nil (Said peer _) }
  act_says _ _ _ may (mended x e near) h both = record {
    states = tested (All (Said peer (with_near x (mended_end e)))) (is_reset_unknown e.fsm.state) (reset_frames (mended_end e)) [] (λ _. resets_said (with_near x (mended_end e)) (mended_end e)) (λ _. All-nil (Said peer _));
    numbered = All-nil (Said peer _);
  }
  act_says _ _ _ may (moved x a e o e' states numbered epoch near step) h both =
      let on : On x.bearer e = subst (λ p. IfSome p (On x.bearer)) near both.near in
      let s = step_stays own x a e o e' states numbered epoch near may (near_still own peer x e near h) step in
      let m = step_moves x a e o e' states numbered epoch step in
      let y = with_near x e' in
      let z = (following y o.change epoch).pair in
      let goes = following_same y o.change epoch s.up in
      let is : fsm_in z.near ≡ Some o.after = goes.near ∙ ap (λ (f : Fsm). Some f) m.fsm in
      let first = step_said x z a e o e' states numbered epoch near may on s goes.bearer is step in
      let there = step_on (λ bearer. true) x a e o e' states numbered epoch (may_on x a may) on step in
      let next : Both On y = record { two = both.two; near = there.on; far = both.far } in
      let answers : o.change ≡ Up → AnswersTo (peer.epoch x.bearer) o.after = λ up. up_answers x o s (moved_up e.fsm m.shown o m.moves up) in
      record {
        states = All-append (Said peer z) states (following y o.change epoch).states first.0 (subst (All (Said peer z)) (sym (following_none y o.change epoch s.up)) (All-nil (Said peer z)));
        numbered = All-append (Said peer z) numbered (following y o.change epoch).numbered first.1 (following_said y z o.change epoch o.after s.up next goes.bearer is answers);
      }
  act_says _ _ _ may (raised x number) h both =
      tested (λ (c : Course). FramesSaid c.pair c) (in_contact x) (contact_ends (record x { seen = number }) (x.contact, x.seen) number) (nothing (forgotten x number))
      (λ meets. absurd (may.1 (contact_seen own peer x h meets)))
      (λ _. record { states = All-nil (Said peer _); numbered = All-nil (Said peer _) })
  act_says _ _ _ may (let_go_of x e near clear) h both = record {
    states = tested (All (Said peer (with_near x (let_go e)))) (is_answer (release e.fsm).change) (reset_frames (with_fsm e (release e.fsm).after)) [] (λ _. resets_said (with_near x (let_go e)) (with_fsm e (release e.fsm).after)) (λ _. All-nil (Said peer _));
    numbered = All-nil (Said peer _);
  }
  act_says _ _ _ may (counted x e t by near) h both = record { states = All-nil (Said peer _); numbered = All-nil (Said peer _) }
  act_says _ _ _ may (opened x packets given last brings) h both = record { states = All-nil (Said peer _); numbered = All-nil (Said peer _) }
  act_says _ _ _ may (put x e s pieces s' near has is) h both =
      let on : On x.bearer e = subst (λ p. IfSome p (On x.bearer)) near both.near in
      let end = on.end in
      let k = near_still own peer x e near h in
      let up : is_up e.fsm.state ≡ true = ap is_up_at (sym near) ∙ may in
      let z = with_near x (with_session e (flushed s')) in
      let alike = put_same s pieces s' is in
      let says : AnswersTo (peer.epoch x.bearer) e.fsm = record { knows = k.up up; heard = ap (λ b. b || is_reset_reset e.fsm.state) up } in
      record {
        states = All-nil (Said peer z);
        numbered = All-weaker (MadeOf BroadcastState same s'.bearer s'.epoch) (Said peer z) (λ o m. answers_near z x.bearer e.fsm refl refl says o (m.bearer ∙ (alike.bearer ∙ (end.session s has).0))) (flush_frames s') (flush_made BroadcastState same s');
      }
  act_says _ _ _ may (answered x e taken asks shown near) h both =
      let on : On x.bearer e = subst (λ p. IfSome p (On x.bearer)) near both.near in
      let k = near_still own peer x e near h in
      let z = with_near x (answered_with e taken asks) in
      let is : fsm_in z.near ≡ Some e.fsm = ap (λ (f : Fsm). Some f) (answered_states e taken asks) in
      let says : is_up e.fsm.state ≡ true → AnswersTo (peer.epoch x.bearer) e.fsm = λ up. record { knows = k.up up; heard = ap (λ b. b || is_reset_reset e.fsm.state) up } in
      record {
        states = heard_said z x.bearer e.fsm.own e.fsm (is_up e.fsm.state) _ refl is says (answers_at BroadcastState same x.bearer e.fsm.own e taken asks shown on.end refl);
        numbered = All-nil (Said peer z);
      }

  -- ---- where its links are up

  -- each link was up before, or that is shown of its bearer
  record Rises (x z : PairEnds) : Type 0 where
    near : is_up_at z.near ≡ true → (is_up_at x.near ≡ true) ⊎ Came x.bearer
    far : is_up_at z.far ≡ true → (is_up_at x.far ≡ true) ⊎ Came (other x.bearer)

  same_rises : (x z : PairEnds) → fsm_in z.near ≡ fsm_in x.near → fsm_in z.far ≡ fsm_in x.far → Rises x z
  same_rises x z near far = record { near = λ up. inl (sym (up_same x.near z.near near) ∙ up); far = λ up. inl (sym (up_same x.far z.far far) ∙ up) }

  met_wakes : (h : Header) (seen es er : ℕ) (held : Bool) (f : Fsm) → Meets own peer seen h → is_going_up (outcome_of f h es er held).change ≡ true → Wakes h
  met_wakes (header.Reset said) seen es er held f meets rising = absurd meets
  met_wakes (header.Activate said) seen es er held f meets rising = inl (said, refl)
  met_wakes (header.Discovery said) seen es er held f meets rising = absurd (true≢false (sym rising))
  met_wakes other seen es er held f meets rising = inr refl

  -- what a packet makes of an end
  met_rises : (e : LinkEnd) (es er : ℕ) (o : Outcome) → Moves e.fsm (Some (es, er)) o → is_up o.after.state ≡ true → (is_up e.fsm.state ≡ true) ⊎ ((er ≡ e.fsm.own) × (is_going_up o.change ≡ true))
  met_rises e es er o (still_moves own_is up quiet) is = inl (sym up ∙ is)
  met_rises e es er o (rises shown own_is was now last it peer_is rising) is = inr (ap shown_er it, rising)
  met_rises e es er o (falls own_is down quiet) is = absurd (true≢false (sym is ∙ down))

  step_rises : (x : PairEnds) (a : Act) (e : LinkEnd) (o : Outcome) (e' : LinkEnd) (states numbered : List Outgoing) (epoch : ℕ) → Asks x a → IsStillEnd own peer x.seen x.bearer e.fsm → Steps x e a o e' states numbered epoch
      → is_up o.after.state ≡ true → (is_up e.fsm.state ≡ true) ⊎ Came x.bearer
  step_rises x _ e _ _ _ _ _ may h cut up = absurd may
  step_rises x _ e _ _ _ _ _ may h (tick shown) up = (let held = is_up_at x.far in inl (back_up e.fsm None (on_tick e.fsm held) (on_tick_moves e.fsm held None) (tick_quiet e.fsm held) up))
  step_rises x _ e _ _ _ _ _ may h (reset es held shown) up =
      (let m = on_reset_moves e.fsm es held None in inl (back_up e.fsm None (on_reset e.fsm es held) m (shown_quiet e.fsm (on_reset e.fsm es held) m) up))
  step_rises x _ e _ _ _ _ _ may h (name epoch) up = inl (back_up e.fsm None (on_peer_tunnel e.fsm epoch) (on_peer_tunnel_moves e.fsm epoch None) (tunnel_quiet e.fsm epoch) up)
  step_rises x _ e _ _ _ _ _ may h (meet es er p by shown) up =
      let held = is_up_at x.far in
      elim (met_rises e es er (outcome_of e.fsm p.header es er held) (outcome_moves e.fsm p.header es er held) up) [
        | inl was ↦ inl was
        | inr rising ↦ inr (may.2 (rising.0 ∙ h.epoch) (met_wakes p.header x.seen es er held e.fsm may.1 rising.1))
      ]

  act_rises : (x : PairEnds) (a : Act) (c : Course) → Asks x a → Acts x a c → IsStill own peer x → Rises x c.pair
  unfolding going_on
  act_rises _ _ _ may (made x) h = record { near = λ up. absurd (true≢false (sym up)); far = λ up. inl up }
  act_rises _ _ _ may (mended x e near) h = same_rises x (with_near x (mended_end e)) (sym (ap fsm_in near)) refl
  act_rises _ _ _ may (moved x a e o e' states numbered epoch near step) h =
      let k = near_still own peer x e near h in
      let s = step_stays own x a e o e' states numbered epoch near may k step in
      let m = step_moves x a e o e' states numbered epoch step in
      let y = with_near x e' in
      let z = (following y o.change epoch).pair in
      let goes = following_same y o.change epoch s.up in
      record {
        near = λ up.
            let now : is_up o.after.state ≡ true = sym (up_same (Some e') z.near goes.near ∙ ap (λ (f : Fsm). is_up f.state) m.fsm) ∙ up in
            elim (step_rises x a e o e' states numbered epoch may k step now) [
              | inl was ↦ inl (ap is_up_at near ∙ was)
              | inr came ↦ inr came
            ];
        far = λ up. inl (sym (up_same x.far z.far goes.far) ∙ up);
      }
  act_rises _ _ _ may (raised x number) h =
      tested (λ (c : Course). Rises x c.pair) (in_contact x) (contact_ends (record x { seen = number }) (x.contact, x.seen) number) (nothing (forgotten x number))
      (λ meets. absurd (may.1 (contact_seen own peer x h meets)))
      (λ _. record { near = λ up. inl (forgot_up x.near up); far = λ up. inl (forgot_up x.far up) })
    where
      forgot_up : (o : Option LinkEnd) → is_up_at (option_map (forgetting number) o) ≡ true → is_up_at o ≡ true
      forgot_up None up = up
      forgot_up (Some e) up = back_up e.fsm None (forget_peer e.fsm) (forget_peer_moves e.fsm None) (forget_quiet e.fsm) up
  act_rises _ _ _ may (let_go_of x e near clear) h = record {
    near = λ up. inl (ap is_up_at near ∙ back_up e.fsm None (release e.fsm) (release_moves e.fsm None) (release_quiet e.fsm) up);
    far = λ up. inl up;
  }
  act_rises _ _ _ may (counted x e t by near) h = same_rises x (with_near x (inner_taken t by e)) (ap (λ (f : Fsm). Some f) (inner_fsm t by e) ∙ sym (ap fsm_in near)) refl
  act_rises _ _ _ may (opened x packets given last brings) h = same_rises x (record x { begun = last }) refl refl
  act_rises _ _ _ may (put x e s pieces s' near has is) h = same_rises x (with_near x (with_session e (flushed s'))) (sym (ap fsm_in near)) refl
  act_rises _ _ _ may (answered x e taken asks shown near) h = same_rises x (with_near x (answered_with e taken asks)) (ap (λ (f : Fsm). Some f) (answered_states e taken asks) ∙ sym (ap fsm_in near)) refl

  -- ---- a run of acts

  -- what a course leaves: it keeps every footing, its ends are on their bearers, and its frames are so; and each link was up before, or that is shown
  pub record Leaves (x : PairEnds) (c : Course) : Type 0 where
    pub keeps : (now : Footing) → IsStill now peer x → IsStill now peer c.pair
    pub both : Both On c.pair
    pub bearer : c.pair.bearer ≡ x.bearer
    pub states : All (Said peer c.pair) c.states
    pub numbered : All (Said peer c.pair) c.numbered
    pub near_up : is_up_at c.pair.near ≡ true → (is_up_at x.near ≡ true) ⊎ Came x.bearer
    pub far_up : is_up_at c.pair.far ≡ true → (is_up_at x.far ≡ true) ⊎ Came (other x.bearer)

  abbrev pub Leaving : PairEnds → Course → Type 0
  Leaving x c = IsStill own peer x → Both On x → Leaves x c

  act_leaves : (x : PairEnds) (a : Act) (c : Course) → Asks x a → Acts x a c → Leaving x c
  act_leaves x a c may does h both =
      let sends = act_sends (λ bearer. true) x a c (may_on x a may) does both in
      let says = act_says x a c may does h both in
      let up = act_rises x a c may does h in
      record { keeps = λ now k. act_keeps now x a c may does k; both = sends.both; bearer = ran_bearer Asks x c (acts x a c may does) both.two; states = says.states; numbered = says.numbered; near_up = up.near; far_up = up.far }

  -- up at the end, so up before that, or that is shown of the bearer
  two_ups : {P Q : Type 0} (b d : ℕ) → d ≡ b → P ⊎ Came d → (P → Q ⊎ Came b) → Q ⊎ Came b
  two_ups b d same_bearer last first = elim last [
    | inl was ↦ first was
    | inr came ↦ inr (subst Came same_bearer came)
  ]

  joined : (x : PairEnds) (first : Course) (step : PairEnds → Course) → Leaving x first → Leaving first.pair (step first.pair) → Leaving x (going_on first step)
  unfolding going_on
  joined x first step one two h both =
      let a = one h both in
      let y = first.pair in
      let still_y : IsStill own peer y = a.keeps own h in
      let b = two still_y a.both in
      let z = (step y).pair in
      let kept : IsStill (standing own peer y) peer z = b.keeps (standing own peer y) (stands_anew own peer y still_y) in
      let on = a.both in
      let more : (o : Outgoing) → Said peer y o → Said peer z o = λ o said. later y z on.two b.bearer kept o said in
      record {
        keeps = λ now k. b.keeps now (a.keeps now k);
        both = b.both;
        bearer = b.bearer ∙ a.bearer;
        states = All-append (Said peer z) first.states (step y).states (All-weaker (Said peer y) (Said peer z) more first.states a.states) b.states;
        numbered = All-append (Said peer z) first.numbered (step y).numbered (All-weaker (Said peer y) (Said peer z) more first.numbered a.numbered) b.numbered;
        near_up = λ up. two_ups x.bearer y.bearer a.bearer (b.near_up up) a.near_up;
        far_up = λ up. two_ups (other x.bearer) (other y.bearer) (ap other a.bearer) (b.far_up up) a.far_up;
      }

  turned_leaves : (x : PairEnds) (c : Course) → Leaving (turned x) c → Leaving x (record c { pair = turned c.pair })
  turned_leaves x c there_is h both =
      let a = there_is (still_turned own peer x h) (both_turned On x both) in
      let on = a.both in
      let at = a.bearer in
      let two = both.two in
      record {
        keeps = λ now k. still_turned now peer c.pair (a.keeps now (still_turned now peer x k));
        both = both_turned On c.pair a.both;
        bearer = omega (arith, at, two);
        states = All-weaker (Said peer c.pair) (Said peer (turned c.pair)) (flip c.pair on.two) c.states a.states;
        numbered = All-weaker (Said peer c.pair) (Said peer (turned c.pair)) (flip c.pair on.two) c.numbered a.numbered;
        near_up = λ up. two_ups x.bearer (other (other x.bearer)) (omega (arith, two)) (a.far_up up) (λ was. inl was);
        far_up = a.near_up;
      }

  leaving : Walk Asks Leaving
  leaving = record {
    rests = λ x h both. record { keeps = λ now k. k; both = both; bearer = refl; states = All-nil (Said peer x); numbered = All-nil (Said peer x); near_up = λ up. inl up; far_up = λ up. inl up };
    goes_on = λ x first step one two. joined x first step one two;
    turns = λ x c there_is. turned_leaves x c there_is;
    acts = λ x a c may does. act_leaves x a c may does;
  }

  pub ran_leaves : (x : PairEnds) (c : Course) → Ran Asks x c → Leaving x c
  ran_leaves x c run = walks Asks Leaving leaving x c run
