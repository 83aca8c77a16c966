-- Each act of a pair between which and its peer nothing goes down leaves it so.
use Rattle.std.specs.Prelude.{◌==◌, ◌||◌, ◌-◌, if◌then◌else◌}
use Rattle.std.proofs.Common.{◌≡◌, ◌≢◌, ◌≤◌, ◌⊎◌, ◌∙◌, ℕ, Bool, true, false, List, Option, Some, None, option_map, inl, inr, refl, sym, ap, subst, arith}
use Rattle.std.proofs.lemmas.Bool.{true≢false}
use Rattle.tipc_outside.specs.declared.outgoing.Outgoing.{Outgoing}
use Rattle.tipc_header.specs.declared.packet.Header.{Header}
use Rattle.tipc_header.specs.declared.packet.Header.TheVariants as header
use Rattle.tipc_link_fsm.specs.declared.changes.Change.{Change}
use Rattle.tipc_link_fsm.specs.declared.changes.Change.TheVariants.{Answer, Down, Ignore, Stay, Up}
use Rattle.tipc_link_fsm.specs.Table.{Fsm, Outcome, fresh, release}
use Rattle.tipc_link.specs.Links.{LinkEnd, answered_with, is_down, mended_end, outcome_of, with_session, without_waiting}
use Rattle.tipc_link.specs.Sessions.{SessionEnd, flushed}
use Rattle.tipc_pair.specs.Changeovers.{contact_begins, contact_ends, following, forgetting, forgotten, gone_up, let_go, loaded, switch, switch_from, switching}
use Rattle.tipc_pair.specs.Courses.{Course, going_on, rests as nothing}
use Rattle.tipc_pair.specs.Facing.{PairEnds, facing, in_contact, is_up_at, other, turned, with_far, with_near}
use Rattle.tipc_pair.specs.PairArrivals.{inner_taken}
use Rattle.tipc_pair.specs.Runs.{taken_over}
use Rattle.tipc_pair.proofs.ArrivalLaws.{inner_fsm}
use Rattle.tipc_pair.proofs.acts.Acts.{Act, Acts, Steps}
use Rattle.tipc_pair.proofs.acts.Acts.Act.{counts as counting, cuts as cutting, makes as making, meets as meeting, names as naming, resets as resetting, ticks as ticking}
use Rattle.tipc_pair.proofs.acts.Acts.Acts.{answered, counted, let_go_of, made, mended, moved, opened, put, raised}
use Rattle.tipc_pair.proofs.acts.Acts.Steps.{cut, meet, name, reset, tick}
use Rattle.tipc_pair.proofs.acts.Walks.{Walk, step_moves, tested}
use Rattle.tipc_pair.proofs.turns.PairPuts.{answered_states}
use Rattle.tipc_paired.specs.Views.{fsm_in}
use Rattle.tipc_settling.specs.Laws.{StaysStill}
use Rattle.tipc_settling.specs.Stillness.{Footing, IsStill, IsStillAt, IsStillEnd, HasNoEnd}
use Rattle.tipc_settling.proofs.Rows.{activate_still, forget_still, release_still, reset_still, traffic_still, tunnel_still}

-- ---- pairs whose ends have the same link states

pub record Same (x y : PairEnds) : Type 0 where
  pub bearer : y.bearer ≡ x.bearer
  pub contact : y.contact ≡ x.contact
  pub seen : y.seen ≡ x.seen
  pub near : fsm_in y.near ≡ fsm_in x.near
  pub far : fsm_in y.far ≡ fsm_in x.far

pub same_itself : (x : PairEnds) → Same x x
same_itself x = record { bearer = refl; contact = refl; seen = refl; near = refl; far = refl }

-- another near end, or far one, with the link states that there were
pub same_near : (x : PairEnds) (e e' : LinkEnd) → x.near ≡ Some e → e'.fsm ≡ e.fsm → Same x (with_near x e')
same_near x e e' is fsm = record { bearer = refl; contact = refl; seen = refl; near = ap (λ (f : Fsm). Some f) fsm ∙ sym (ap fsm_in is); far = refl }

pub same_far : (x : PairEnds) (e e' : LinkEnd) → x.far ≡ Some e → e'.fsm ≡ e.fsm → Same x (with_far x e')
same_far x e e' is fsm = record { bearer = refl; contact = refl; seen = refl; near = refl; far = ap (λ (f : Fsm). Some f) fsm ∙ sym (ap fsm_in is) }

switching_same : (x : PairEnds) (near far : LinkEnd) (s old : Option SessionEnd) → x.near ≡ Some near → x.far ≡ Some far → Same x (switching x near far s old).pair
switching_same x near far (Some s) (Some old) one two =
    let here = same_near x near (loaded near s (taken_over old)) one refl in
    let there = same_far x far (without_waiting far) two refl in
    record { bearer = refl; contact = refl; seen = refl; near = here.near; far = there.far }
switching_same x near far (Some s) None one two = same_itself x
switching_same x near far None old one two = same_itself x

switch_same : (x : PairEnds) (near far : Option LinkEnd) → x.near ≡ near → x.far ≡ far → Same x (switch_from x near far).pair
switch_same x (Some near) (Some far) one two = switching_same x near far near.session far.session one two
switch_same x (Some near) None one two = same_itself x
switch_same x None far one two = same_itself x

gone_up_same : (x : PairEnds) → Same x (gone_up x).pair
gone_up_same x = tested (λ (c : Course). Same x c.pair) (is_up_at x.far) (if x.bearer == 0 then switch x else nothing x) (contact_begins x)
    (λ _. tested (λ (c : Course). Same x c.pair) (x.bearer == 0) (switch x) (nothing x) (λ _. switch_same x x.near x.far refl refl) (λ _. same_itself x))
    (λ _. record { bearer = refl; contact = refl; seen = refl; near = refl; far = refl })

-- what follows a change by which no link goes down changes no link states
pub following_same : (x : PairEnds) (change : Change) (epoch : ℕ) → is_down change ≡ false → Same x (following x change epoch).pair
following_same x Up epoch up = gone_up_same x
following_same x (Down because) epoch up = absurd (true≢false up)
following_same x Stay epoch up = same_itself x
following_same x (Answer back) epoch up = same_itself x
following_same x (Ignore reason) epoch up = same_itself x

-- ---- a still pair

module _ (own peer : Footing) where
  pub same_still : (x y : PairEnds) → Same x y → IsStill own peer x → IsStill own peer y
  same_still x y s h = record {
    two = subst (λ n. n ≤ 1) (sym s.bearer) h.two;
    contact = s.contact ∙ h.contact;
    seen = subst (λ n. n ≤ peer.contact) (sym s.seen) h.seen;
    sees = λ was. s.seen ∙ h.sees was;
    near = subst (λ n. IsStillAt own peer n y.bearer (fsm_in y.near)) (sym s.seen) (subst (λ b. IsStillAt own peer x.seen b (fsm_in y.near)) (sym s.bearer) (subst (IsStillAt own peer x.seen x.bearer) (sym s.near) h.near));
    far = subst (λ n. IsStillAt own peer n (other y.bearer) (fsm_in y.far)) (sym s.seen)
        (subst (λ b. IsStillAt own peer x.seen (other b) (fsm_in y.far)) (sym s.bearer) (subst (IsStillAt own peer x.seen (other x.bearer)) (sym s.far) h.far));
  }

  pub still_turned : (x : PairEnds) → IsStill own peer x → IsStill own peer (turned x)
  still_turned x h =
      let two = h.two in
      let back : x.bearer ≡ 1 - (1 - x.bearer) = omega (arith, two) in
      record { two = omega arith; contact = h.contact; seen = h.seen; sees = h.sees; near = h.far; far = subst (λ b. IsStillAt own peer x.seen b (fsm_in x.near)) back h.near }

  pub still_facing : (bearer : ℕ) (x : PairEnds) → IsStill own peer x → IsStill own peer (facing bearer x)
  unfolding facing
  still_facing bearer x h = elim (x.bearer == bearer) as (λ b. IsStill own peer (if b then x else turned x)) [ true ↦ h | false ↦ still_turned x h ]

  pub near_still : (x : PairEnds) (e : LinkEnd) → x.near ≡ Some e → IsStill own peer x → IsStillEnd own peer x.seen x.bearer e.fsm
  near_still x e is h = subst (IsStillAt own peer x.seen x.bearer) (ap fsm_in is) h.near

  -- with another near end that is so
  pub other_near : (x : PairEnds) (e : LinkEnd) (f : Fsm) → e.fsm ≡ f → IsStillEnd own peer x.seen x.bearer f → IsStill own peer x → IsStill own peer (with_near x e)
  other_near x e f is still h = record { two = h.two; contact = h.contact; seen = h.seen; sees = h.sees; near = subst (IsStillEnd own peer x.seen x.bearer) (sym is) still; far = h.far }

  -- ---- what may be done

  -- what meets a link end shows what the peer has at present: an ACTIVATE comes where its contact number was seen, and no RESET comes so
  abbrev pub Meets : ℕ → Header → Type 0
  Meets seen (header.Reset said) = ⊥
  Meets seen (header.Activate said) = seen ≡ peer.contact
  Meets seen other = Unit {0}

  -- no bearer is cut, and a tick is told of apart
  abbrev pub May : PairEnds → Act → Type 0
  May x cutting = ⊥
  May x (ticking shown) = ⊥
  May x making = x.near ≡ None
  May x (resetting es shown) = (es ≡ peer.epoch x.bearer) × (x.seen ≡ peer.contact)
  May x (meeting es er p by shown) = (es ≡ peer.epoch x.bearer) × Meets x.seen p.header
  May x (naming epoch) = epoch ≢ peer.epoch x.bearer
  May x (counting number) = (number ≡ peer.contact) × (x.seen ≡ peer.contact → ⊥)
  May x other = Unit {0}

  met_still : (h : Header) (seen bearer es er : ℕ) (held : Bool) (f : Fsm) → IsStillEnd own peer seen bearer f → es ≡ peer.epoch bearer → Meets seen h → StaysStill own peer seen bearer (outcome_of f h es er held)
  met_still (header.Reset said) seen bearer es er held f h same meets = absurd meets
  met_still (header.Activate said) seen bearer es er held f h same meets = activate_still own peer seen bearer es er f h same meets
  met_still (header.Discovery said) seen bearer es er held f h same meets = record { still = h; up = refl }
  met_still other seen bearer es er held f h same meets = traffic_still own peer seen bearer es er f h same

  pub step_still : (x : PairEnds) (a : Act) (e : LinkEnd) (o : Outcome) (e' : LinkEnd) (states numbered : List Outgoing) (epoch : ℕ) → May x a → IsStillEnd own peer x.seen x.bearer e.fsm → Steps x e a o e' states numbered epoch
      → StaysStill own peer x.seen x.bearer o
  step_still x _ e _ _ _ _ _ may h cut = absurd may
  step_still x _ e _ _ _ _ _ may h (tick shown) = absurd may
  step_still x _ e _ _ _ _ _ may h (reset es held shown) = reset_still own peer x.seen x.bearer es held e.fsm h may.0 may.1
  step_still x _ e _ _ _ _ _ may h (name epoch) = tunnel_still own peer x.seen x.bearer epoch e.fsm h may
  step_still x _ e _ _ _ _ _ may h (meet es er p by shown) = met_still p.header x.seen x.bearer es er (is_up_at x.far) e.fsm h may.0 may.1

  -- a link that is up has seen the peer's contact number
  up_seen : (seen bearer : ℕ) (o : Option LinkEnd) → IsStillAt own peer seen bearer (fsm_in o) → is_up_at o ≡ true → seen ≡ peer.contact
  up_seen seen bearer None h up = absurd (true≢false (sym up))
  up_seen seen bearer (Some e) h up = h.contact (h.up up)

  either_up : (a b : Bool) → (a || b) ≡ true → (a ≡ true) ⊎ (b ≡ true)
  either_up true b is = inl refl
  either_up false b is = inr is

  pub contact_seen : (x : PairEnds) → IsStill own peer x → in_contact x ≡ true → x.seen ≡ peer.contact
  contact_seen x h there = elim (either_up (is_up_at x.near) (is_up_at x.far) there) [
    | inl near ↦ up_seen x.seen x.bearer x.near h.near near
    | inr far ↦ up_seen x.seen (other x.bearer) x.far h.far far
  ]

  forgot_at : (seen number bearer : ℕ) (o : Option LinkEnd) → number ≡ peer.contact → (seen ≡ peer.contact → ⊥) → IsStillAt own peer seen bearer (fsm_in o) → IsStillAt own peer number bearer (fsm_in (option_map (forgetting number) o))
  forgot_at seen number bearer None is unseen h = h
  forgot_at seen number bearer (Some e) is unseen h = subst (λ n. IsStillEnd own peer n bearer (forgetting number e).fsm) (sym is) (forget_still own peer seen bearer e.fsm h unseen).still

  -- a new end
  made_still : (seen bearer contact : ℕ) → contact ≡ own.contact → HasNoEnd own bearer → IsStillEnd own peer seen bearer (fresh contact)
  made_still seen bearer contact is none = record {
    epoch = is ∙ sym none.epoch;
    lasts = λ was. absurd (true≢false (sym was ∙ none.down));
    answers = λ was. absurd (true≢false (sym was ∙ none.unanswered));
    free = λ is. refl;
    no_higher = omega arith;
    up = λ up. absurd (let wrong : ⊥ = cc in wrong);
    contact = λ knows. absurd (let wrong : ⊥ = cc in wrong);
    present = λ alone met epoch is. absurd (let wrong : ⊥ = cc in wrong);
  }

  pub act_still : (x : PairEnds) (a : Act) (c : Course) → May x a → Acts x a c → IsStill own peer x → IsStill own peer c.pair
  unfolding going_on
  act_still _ _ _ may (made x) h =
      let none : HasNoEnd own x.bearer = subst (λ o. IsStillAt own peer x.seen x.bearer (fsm_in o)) may h.near in
      record { two = h.two; contact = h.contact; seen = h.seen; sees = h.sees; near = made_still x.seen x.bearer x.contact h.contact none; far = h.far }
  act_still _ _ _ may (mended x e near) h = same_still x (with_near x (mended_end e)) (same_near x e (mended_end e) near refl) h
  act_still _ _ _ may (moved x a e o e' states numbered epoch near step) h =
      let s = step_still x a e o e' states numbered epoch may (near_still x e near h) step in
      let m = step_moves x a e o e' states numbered epoch step in
      let y = with_near x e' in
      same_still y (following y o.change epoch).pair (following_same y o.change epoch s.up) (other_near x e' o.after m.fsm s.still h)
  act_still _ _ _ may (raised x number) h =
      tested (λ (c : Course). IsStill own peer c.pair) (in_contact x) (contact_ends (record x { seen = number }) (x.contact, x.seen) number) (nothing (forgotten x number))
      (λ there. absurd (may.1 (contact_seen x h there)))
      (λ _. record {
        two = h.two;
        contact = h.contact;
        seen = (let is = may.0 in omega (arith, is));
        sees = λ was. may.0;
        near = forgot_at x.seen number x.bearer x.near may.0 may.1 h.near;
        far = forgot_at x.seen number (other x.bearer) x.far may.0 may.1 h.far;
      })
  act_still _ _ _ may (let_go_of x e near clear) h = other_near x (let_go e) (release e.fsm).after refl (release_still own peer x.seen x.bearer e.fsm (near_still x e near h)).still h
  act_still _ _ _ may (counted x e t by near) h = same_still x (with_near x (inner_taken t by e)) (same_near x e (inner_taken t by e) near (inner_fsm t by e)) h
  act_still _ _ _ may (opened x packets given last brings) h = same_still x (record x { begun = last }) (record { bearer = refl; contact = refl; seen = refl; near = refl; far = refl }) h
  act_still _ _ _ may (put x e s pieces s' near has is) h = same_still x (with_near x (with_session e (flushed s'))) (same_near x e (with_session e (flushed s')) near refl) h
  act_still _ _ _ may (answered x e taken asks shown near) h = same_still x (with_near x (answered_with e taken asks)) (same_near x e (answered_with e taken asks) near (answered_states e taken asks)) h

  pub still : Walk May (λ x c. IsStill own peer x → IsStill own peer c.pair)
  unfolding going_on
  still = record {
    rests = λ x h. h;
    goes_on = λ x first step one two h. two (one h);
    turns = λ x c there h. still_turned c.pair (there (still_turned x h));
    acts = λ x a c may does h. act_still x a c may does h;
  }
