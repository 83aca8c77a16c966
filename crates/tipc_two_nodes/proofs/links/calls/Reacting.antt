-- What a call of the table of link states makes of a pair as a sender, with all that follows.
use Rattle.std.proofs.Common.{◌≡◌, ◌||◌, ℕ, ◌≤◌, Bool, true, false, if◌then◌else◌, Some, refl, sym, ap, ◌∙◌, subst, inl, inr}
use Rattle.std.proofs.lemmas.Bool.{cases_Bool}
use Rattle.tipc_types.specs.LinkStates.{is_up}
use Rattle.tipc_types.specs.declared.link_words.Cause.{Cause}
use Rattle.tipc_link_fsm.specs.declared.changes.Change.TheVariants.{Down, Up as GoesUp}
use Rattle.tipc_link_fsm.specs.Table.{Fsm, Outcome, lowered}
use Rattle.tipc_link.specs.Links.{LinkEnd, after, followed, is_down, session_of, with_fsm}
use Rattle.tipc_link.specs.Sessions.{SessionEnd}
use Rattle.tipc_pair.specs.Changeovers.{contact_ends, fail_over, following, gone_up}
use Rattle.tipc_pair.specs.Facing.{PairEnds, in_contact, is_up_at, with_near}
use Rattle.tipc_pair.proofs.EndSteps.{fsm_after}
use Rattle.tipc_changeover.specs.Links.{Bearer, Reset, State, Up}
use Rattle.tipc_changeover.specs.Sound.{Sound}
use Rattle.tipc_two_nodes.specs.links.Traffic.{Traffic}
use Rattle.tipc_two_nodes.specs.links.Sending.{StandFor, beside, ends_seen, state_as, window_in}
use Rattle.tipc_two_nodes.specs.links.Following.{stays}
use Rattle.tipc_two_nodes.specs.links.Ends.{IsFallen, IsRisen}
use Rattle.tipc_two_nodes.specs.links.Turning.{RunsWhereUp, TurnsEnd, goes_down, goes_up, is_rise, stays_so}
use Rattle.tipc_two_nodes.specs.links.Acting.{Acted, IsOver, window_at}
use Rattle.tipc_two_nodes.proofs.links.calls.Acted.{Falls, acted_none, numbers_same}
use Rattle.tipc_two_nodes.proofs.links.calls.Ending.{Goes, Went, goes, stops}
use Rattle.tipc_two_nodes.proofs.links.calls.FollowingOn.{falls_so, rest_follows, rises_so, still_seen}
use Rattle.tipc_two_nodes.proofs.deeds.Pairs.{up_end as far_end}
use Rattle.tipc_two_nodes.proofs.links.calls.Freeing.{AreUp, UpWhere}
use Rattle.tipc_two_nodes.proofs.links.calls.States.{as_up}
use Rattle.tipc_two_nodes.proofs.links.calls.Stepping.{Alike, Walk, ends_same, falls_both, falls_down, falls_walk, goes_up_rise, parts_over, rests_walk, rise_walk, seen_alike, up_alike, up_as, up_followed}

-- ---- an end with the same link states and session

alike_fallen : (e d e' : LinkEnd) → IsFallen e d → Alike d e' → IsFallen e e'
alike_fallen e d e' h k = record { own = ap (λ (f : Fsm). f.own) k.fsm ∙ h.own; held = ap (λ (f : Fsm). state_as f.state) k.fsm ∙ h.held; session = k.session ∙ h.session }

alike_risen : (e d e' : LinkEnd) (s : SessionEnd) → IsRisen e d s → Alike d e' → IsRisen e e' s
alike_risen e d e' s h k = record { reset = h.reset; own = ap (λ (f : Fsm). f.own) k.fsm ∙ h.own; up = ap (λ (f : Fsm). state_as f.state) k.fsm ∙ h.up; session_is = k.session ∙ h.session_is; fresh_is = h.fresh_is }

-- ---- a call of the table

-- The near end e of a pair becomes another one by this outcome. While the far link is up the near one is held where it goes down, and its
-- packets can travel; where it goes up, so can the far one's.
pub record MayTurn (x : PairEnds) (e e' : LinkEnd) (o : Outcome) (held : Bool) : Type 0 where
  pub two_bearers : x.bearer ≤ 1
  pub near_is : x.near ≡ Some e
  pub alike : Alike (after e o) e'
  pub turn : TurnsEnd held e.fsm o
  pub carried : is_up_at x.far ≡ true → held ≡ true
  pub up : AreUp x
  pub runs : is_up_at x.far ≡ true → RunsWhereUp x.bearer x.near
  pub far_runs : is_rise o.change ≡ true → RunsWhereUp (beside x.bearer) x.far

-- what comes of it
pub data Turned (b : Bearer) (x y : PairEnds) (rising : Bool) (t : Traffic) (z : State) : Type 0 where
  still : Walk b x y t z → ends_seen y ≡ ends_seen x → Turned b x y rising t z
  fell : Walk b x y t z → Falls b (ends_seen x) (ends_seen y) t z → is_up_at x.far ≡ true → is_up_at y.near ≡ false → Turned b x y rising t z
  rose : Walk b x y t z → rising ≡ true → Turned b x y rising t z
  last : IsOver x y → Turned b x y rising t z

-- nothing was numbered yet
pub nothing_acted : (b : Bearer) (x : PairEnds) (t : Traffic) (z : State) → StandFor b (ends_seen x) t z → Acted b (ends_seen x) (ends_seen x) t z
nothing_acted b x t z stand = acted_none b (ends_seen x) (ends_seen x) t z (numbers_same (ends_seen x).near) (numbers_same (ends_seen x).far) (record { state = z; follows = stays; stand = stand })

pub went : (b : Bearer) (x y : PairEnds) (t : Traffic) (z : State) → Walk b x y t z → Went b x y t z
went b x y t z h = record { contact = h.contact; acted = h.acted; up = h.up }

pub turned_goes : (b : Bearer) (x y : PairEnds) (rising : Bool) (t : Traffic) (z : State) → StandFor b (ends_seen x) t z → Turned b x y rising t z → Goes b x y t z
turned_goes b x y rising t z stand (still h same) = goes (went b x y t z h)
turned_goes b x y rising t z stand (fell h falls far down) = goes (went b x y t z h)
turned_goes b x y rising t z stand (rose h up) = goes (went b x y t z h)
turned_goes b x y rising t z stand (last over) = stops x refl (nothing_acted b x t z stand) over

fails_turned : (b : Bearer) (x : PairEnds) (e e' : LinkEnd) (o : Outcome) (epoch : ℕ) (held : Bool) (t : Traffic) (z : State) (cause : Cause) → MayTurn x e e' o held → StandFor b (ends_seen x) t z → Sound b z → o.change ≡ Down cause → is_up e.fsm.state ≡ true → o.after ≡ lowered e.fsm held
    → is_up_at x.far ≡ true → Turned b x (following (with_near x e') o.change epoch).pair (is_rise o.change) t z
fails_turned b x e e' o epoch held t z cause m stand sound down up low far_up =
    let f = far_end x.far far_up in
    let k = m.up.far f.0 f.1 f.2 in
    let r = m.runs far_up e m.near_is up in
    let fall = alike_fallen e (after e o) e' (falls_so e o cause down (low ∙ ap (lowered e.fsm) (m.carried far_up)) r.going_on) m.alike in
    let y = with_near x e' in
    let pair : (fail_over y).pair ≡ (following y o.change epoch).pair =
    ap (λ b'. (if b' then fail_over y else contact_ends y (x.contact, x.seen) 0).pair) (sym far_up)
    ∙ ap (λ q. (following y q epoch).pair) (sym down) in
    let falls = falls_both b x e e' f.0 k.0 t z m.two_bearers r k.1 fall stand sound in
    let walk = falls_walk b x e e' f.0 k.0 t z m.two_bearers r k.1 fall falls in
    fell (subst (λ q. Walk b x q t z) pair walk) (subst (λ q. Falls b (ends_seen x) (ends_seen q) t z) pair falls) far_up
    (ap (λ (q : PairEnds). is_up_at q.near) (sym pair) ∙ falls_down x e e' f.0 r.session k.0 fall r.up_at.session_is k.1.end_is k.1.session_is)

pub turns_over : (x : PairEnds) (e e' : LinkEnd) (o : Outcome) (epoch : ℕ) (held : Bool) (cause : Cause) → MayTurn x e e' o held → o.change ≡ Down cause → is_up e.fsm.state ≡ true
    → is_up_at x.far ≡ false → IsOver x (following (with_near x e') o.change epoch).pair
turns_over x e e' o epoch held cause m down up alone =
    let y = with_near x e' in
    let pair : (contact_ends y (x.contact, x.seen) 0).pair ≡ (following y o.change epoch).pair =
    ap (λ b'. (if b' then fail_over y else contact_ends y (x.contact, x.seen) 0).pair) (sym alone)
    ∙ ap (λ q. (following y q epoch).pair) (sym down) in
    let there : in_contact x ≡ true = ap (λ q. is_up_at q || is_up_at x.far) m.near_is ∙ ap (λ q. q || is_up_at x.far) up in
    let session : (after e o).session ≡ e.session = ap (λ k. (followed (with_fsm e o.after) k).session) down in
    let window : window_at (Some e') ≡ window_at x.near = ap window_in (m.alike.session ∙ session) ∙ ap window_at (sym m.near_is) in
    subst (IsOver x) pair (parts_over x y (x.contact, x.seen) 0 there refl window refl)

rises_turned : (b : Bearer) (x : PairEnds) (e e' : LinkEnd) (o : Outcome) (epoch : ℕ) (held : Bool) (t : Traffic) (z : State) → MayTurn x e e' o held → StandFor b (ends_seen x) t z → Sound b z → o.change ≡ GoesUp → state_as e.fsm.state ≡ Reset → o.after.own ≡ e.fsm.own
    → state_as o.after.state ≡ Up → Turned b x (following (with_near x e') o.change epoch).pair (is_rise o.change) t z
rises_turned b x e e' o epoch held t z m stand sound up reset own state =
    let y = with_near x e' in
    let s = session_of (with_fsm e o.after) in
    let risen = alike_risen e (after e o) e' s (rises_so e o up reset own state) m.alike in
    let own_epoch : s.epoch ≡ e'.fsm.own = ap (λ (f : Fsm). f.own) (sym (fsm_after e o)) ∙ ap (λ (f : Fsm). f.own) (sym m.alike.fsm) in
    let rise : is_rise o.change ≡ true = ap is_rise up in
    let rise_of = goes_up_rise b x e e' s t z m.two_bearers m.near_is risen own_epoch m.up.far (m.far_runs rise) stand sound in
    rose (subst (λ q. Walk b x q t z) (ap (λ q. (following y q epoch).pair) (sym up)) (rise_walk b x (gone_up y).pair t z rise_of)) rise

rests_turned : (b : Bearer) (x : PairEnds) (e e' : LinkEnd) (o : Outcome) (epoch : ℕ) (held : Bool) (t : Traffic) (z : State) → MayTurn x e e' o held → StandFor b (ends_seen x) t z → is_rise o.change ≡ false → is_down o.change ≡ false → o.after.own ≡ e.fsm.own
    → state_as o.after.state ≡ state_as e.fsm.state → Turned b x (following (with_near x e') o.change epoch).pair (is_rise o.change) t z
rests_turned b x e e' o epoch held t z m stand other so own state =
    let y = with_near x e' in
    let same = seen_alike x.contact (after e o) e' m.alike ∙ still_seen x.contact e o other own state in
    let was : is_up o.after.state ≡ true → is_up e.fsm.state ≡ true = (λ up. up_as e.fsm.state (sym state ∙ as_up o.after.state up)) in
    let up = up_alike (after e o) e' m.alike (up_followed e o (subst UpWhere m.near_is m.up.near) other own was) in
    let walk = rests_walk b x e e' t z m.near_is same up m.up.far stand in
    let pair = rest_follows y o.change epoch other so in
    still (subst (λ q. Walk b x q t z) (sym pair) walk) (ap ends_seen pair ∙ ends_same x e e' m.near_is same)

pub turns : (b : Bearer) (x : PairEnds) (e e' : LinkEnd) (o : Outcome) (epoch : ℕ) (held : Bool) (t : Traffic) (z : State) → MayTurn x e e' o held → StandFor b (ends_seen x) t z → Sound b z → Turned b x (following (with_near x e') o.change epoch).pair (is_rise o.change) t z
turns b x e e' o epoch held t z m stand sound = by_turn m.turn
  where
    by_turn : TurnsEnd held e.fsm o → Turned b x (following (with_near x e') o.change epoch).pair (is_rise o.change) t z
    by_turn (goes_down cause down up low) = elim (cases_Bool (is_up_at x.far)) [
      | inl far_up ↦ fails_turned b x e e' o epoch held t z cause m stand sound down up low far_up
      | inr alone ↦ last (turns_over x e e' o epoch held cause m down up alone)
    ]
    by_turn (goes_up up reset own state) = rises_turned b x e e' o epoch held t z m stand sound up reset own state
    by_turn (stays_so other so own state) = rests_turned b x e e' o epoch held t z m stand other so own state
