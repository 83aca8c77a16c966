-- A bearer is cut, and a tick passes: what that makes of a pair as a sender.
use Rattle.std.proofs.Common.{◌≡◌, ◌==◌, ◌||◌, ℕ, ◌-◌, ◌≤◌, Bool, true, false, Option, Some, None, refl, sym, ap, ◌∙◌, subst, inl, inr, arith}
use Rattle.std.proofs.lemmas.Bool.{cases_Bool}
use Rattle.std.proofs.lemmas.Bool.Decides.{nat_tests}
use Rattle.tipc_types.specs.LinkStates.{is_up}
use Rattle.tipc_types.specs.declared.link_words.BroadcastState.{BroadcastState}
use Rattle.tipc_types.specs.declared.link_words.LinkState.{LinkState}
use Rattle.tipc_link_fsm.specs.declared.changes.Change.{Change}
use Rattle.tipc_link_fsm.specs.declared.changes.Change.TheVariants.{Up as GoesUp}
use Rattle.tipc_link_fsm.specs.Table.{Fsm, Outcome, on_cut, on_tick}
use Rattle.tipc_link_fsm.proofs.Moves.{cases_on, is_going_up}
use Rattle.tipc_link.specs.Links.{LinkEnd, after, cut_end, with_fsm}
use Rattle.tipc_pair.specs.Changeovers.{following}
use Rattle.tipc_pair.specs.Courses.{going_on}
use Rattle.tipc_pair.specs.Facing.{PairEnds, in_contact, is_up_at, with_near, turned as turned_pair}
use Rattle.tipc_pair.specs.PairCalls.{cut_at, tick_at}
use Rattle.tipc_pair.proofs.EndSteps.{cut_quiet, fsm_after}
use Rattle.tipc_pair.proofs.Followings.{far_down, near_down}
use Rattle.tipc_pair.proofs.HeldLaws.{or_turns, tick_quiet}
use Rattle.tipc_changeover.specs.Links.{other, Bearer, First, Second, State}
use Rattle.tipc_changeover.specs.Sound.{Sound}
use Rattle.tipc_two_nodes.specs.links.Traffic.{Traffic}
use Rattle.tipc_two_nodes.specs.links.Sending.{StandFor, beside, ends_seen, number_as, state_as, turned_sending as turned_ends}
use Rattle.tipc_two_nodes.specs.links.Turning.{AreEnds, RunsWhereUp, TurnsEnd, goes_down, goes_up, is_rise, stays_so}
use Rattle.tipc_two_nodes.specs.links.Acting.{IsOver, window_at}
use Rattle.tipc_two_nodes.proofs.links.calls.Ending.{Rests}
use Rattle.tipc_two_nodes.proofs.links.calls.FollowingOn.{followed_window, rest_follows}
use Rattle.tipc_two_nodes.proofs.links.calls.Freeing.{AreUp, ends_up}
use Rattle.tipc_two_nodes.proofs.links.calls.Reacting.{MayTurn, Turned, nothing_acted, still, turns}
use Rattle.tipc_two_nodes.proofs.links.calls.States.{as_up, cut_turns, tick_turns}
use Rattle.tipc_two_nodes.proofs.links.calls.Stepping.{Alike, up_as}

-- ---- a call that takes no link up

-- the near link's packets can travel while the far one is up
pub record MayFall (x : PairEnds) : Type 0 where
  pub two_bearers : x.bearer ≤ 1
  pub up : AreUp x
  pub runs : is_up_at x.far ≡ true → RunsWhereUp x.bearer x.near

pub may_fall : (x : PairEnds) → AreEnds x → MayFall x
may_fall x h = record { two_bearers = h.two_bearers; up = ends_up x h; runs = λ far. h.near }

pub quiet_rise : (k : Change) → is_going_up k ≡ false → is_rise k ≡ false
quiet_rise GoesUp quiet = absurd (let wrong : ⊥ = cc in wrong)
quiet_rise k quiet = refl

pub fall_may : (x : PairEnds) (e e' : LinkEnd) (o : Outcome) (held : Bool) → MayFall x → x.near ≡ Some e → Alike (after e o) e' → TurnsEnd held e.fsm o → (is_up_at x.far ≡ true → held ≡ true) → is_going_up o.change ≡ false → MayTurn x e e' o held
fall_may x e e' o held h is alike turn carried quiet = record {
  two_bearers = h.two_bearers;
  near_is = is;
  alike = alike;
  turn = turn;
  carried = carried;
  up = h.up;
  runs = h.runs;
  far_runs = λ up. absurd (let wrong : true ≡ false = sym up ∙ quiet_rise o.change quiet in let no : ⊥ = cc in no);
}

-- nothing happens
pub rests_still : (b : Bearer) (x : PairEnds) (rising : Bool) (t : Traffic) (z : State) → AreUp x → StandFor b (ends_seen x) t z → Turned b x x rising t z
rests_still b x rising t z up stand = still (record { contact = refl; acted = nothing_acted b x t z stand; up = up; runs = λ so was. was }) refl

-- ---- the bearer is cut

cut_session : (e : LinkEnd) (held : Bool) → (after e (on_cut e.fsm held)).session ≡ e.session
unfolding on_cut
cut_session e held = cases_on (λ o. (after e o).session ≡ e.session) (is_up e.fsm.state) _ _ (λ up. refl) (λ down. refl)

cut_alike : (e : LinkEnd) (held : Bool) → Alike (after e (on_cut e.fsm held)) (cut_end e held)
cut_alike e held = record { fsm = sym (fsm_after e (on_cut e.fsm held)); session = sym (cut_session e held) }

pub cut_turned : (b : Bearer) (x : PairEnds) (end : Option LinkEnd) (t : Traffic) (z : State) → x.near ≡ end → MayFall x → StandFor b (ends_seen x) t z → Sound b z → Turned b x (cut_at x end).pair false t z
cut_turned b x None t z is may stand sound = rests_still b x false t z may.up stand
cut_turned b x (Some e) t z is may stand sound =
    let held = is_up_at x.far in
    let o = on_cut e.fsm held in
    let quiet = cut_quiet e.fsm held in
    subst (λ rising. Turned b x (following (with_near x (cut_end e held)) o.change 0).pair rising t z) (quiet_rise o.change quiet)
    (turns b x e (cut_end e held) o 0 held t z (fall_may x e (cut_end e held) o held may is (cut_alike e held) (cut_turns e.fsm held) (λ up. up) quiet) stand sound)

-- ---- a tick at one link

pub tick_turned : (b : Bearer) (x : PairEnds) (end : Option LinkEnd) (shown : BroadcastState) (t : Traffic) (z : State) → x.near ≡ end → MayFall x → StandFor b (ends_seen x) t z → Sound b z → Turned b x (tick_at shown x end).pair false t z
unfolding going_on
tick_turned b x None shown t z is may stand sound = rests_still b x false t z may.up stand
tick_turned b x (Some e) shown t z is may stand sound =
    let held = is_up_at x.far in
    let o = on_tick e.fsm held in
    let y = (following (with_near x (after e o)) o.change 0).pair in
    let quiet = tick_quiet e.fsm held in
    subst (λ rising. Turned b x y rising t z) (quiet_rise o.change quiet)
    (turns b x e (after e o) o 0 held t z (fall_may x e (after e o) o held may is (record { fsm = refl; session = refl }) (tick_turns e.fsm held) (λ up. up) quiet) stand sound)

-- ---- out of contact

not_up_as : (s s' : LinkState) → state_as s' ≡ state_as s → is_up s ≡ false → is_up s' ≡ false
not_up_as s s' same down = elim (cases_Bool (is_up s')) [
  | inl up ↦ absurd (let was = up_as s (sym same ∙ as_up s' up) in let wrong : true ≡ false = sym was ∙ down in let no : ⊥ = cc in no)
  | inr now ↦ now
]

-- a call of the table that takes no link up leaves a pair out of contact as it was
pub out_rests : (x : PairEnds) (e : LinkEnd) (o : Outcome) (held : Bool) (epoch : ℕ) → x.near ≡ Some e → in_contact x ≡ false → TurnsEnd held e.fsm o → is_going_up o.change ≡ false → Rests x (following (with_near x (after e o)) o.change epoch).pair
out_rests x e o held epoch is none turn quiet =
    let down : is_up e.fsm.state ≡ false = ap is_up_at (sym is) ∙ near_down x none in
    by_turn down (far_down x none) turn
  where
    by_turn : is_up e.fsm.state ≡ false → is_up_at x.far ≡ false → TurnsEnd held e.fsm o → Rests x (following (with_near x (after e o)) o.change epoch).pair
    by_turn down far (goes_down cause change up low) = absurd (let wrong : true ≡ false = sym up ∙ down in let no : ⊥ = cc in no)
    by_turn down far (goes_up change reset own state) = absurd (let wrong : true ≡ false = sym (ap is_going_up change) ∙ quiet in let no : ⊥ = cc in no)
    by_turn down far (stays_so other so own state) =
        let now : is_up (after e o).fsm.state ≡ false = ap (λ (f : Fsm). is_up f.state) (fsm_after e o) ∙ not_up_as e.fsm.state o.after.state state down in
        subst (Rests x) (sym (rest_follows (with_near x (after e o)) o.change epoch other so)) (record {
          contact = refl;
          out = λ _. ap (λ b. b || is_up_at x.far) now ∙ far;
          near = followed_window (with_fsm e o.after) o.change other ∙ ap window_at (sym is);
          far = refl;
        })

-- ---- a tick at both links

pub number_low : (b : Bearer) (bearer : ℕ) → bearer ≡ number_as b → bearer ≤ 1
number_low First bearer is = omega arith
number_low Second bearer is = omega arith

low_twice : (bearer : ℕ) → bearer ≤ 1 → beside (beside bearer) ≡ bearer
low_twice bearer low = omega arith

pub ends_twice : (y : PairEnds) → y.bearer ≤ 1 → turned_ends (ends_seen (turned_pair y)) ≡ ends_seen y
ends_twice y low = ap (λ n. record { bearer = n; near = (ends_seen y).near; far = (ends_seen y).far }) (low_twice y.bearer low)

pub may_far : (y : PairEnds) → y.bearer ≤ 1 → AreUp y → (is_up_at y.near ≡ true → RunsWhereUp (beside y.bearer) y.far) → MayFall (turned_pair y)
may_far y low up runs = record { two_bearers = omega arith; up = record { near = up.far; far = up.near }; runs = runs }

-- a contact that is over, as it is seen from the far link
pub over_far : (y q : PairEnds) → IsOver (turned_pair y) q → IsOver y (turned_pair q)
over_far y q over = record { was = or_turns (is_up_at y.near) (is_up_at y.far) ∙ over.was; out = or_turns (is_up_at q.far) (is_up_at q.near) ∙ over.out; next = over.next; near = over.far; far = over.near }

-- ---- which link is the first one

pub far_differs : (bearer there : ℕ) → bearer ≤ 1 → there ≡ 1 - bearer → (there == bearer) ≡ false
far_differs bearer there low is = grind (arith, nat_tests)
