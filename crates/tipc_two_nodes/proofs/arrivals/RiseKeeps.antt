-- A call that takes a link of a pair up keeps two nodes what they are: a contact begins with it, or it goes up beside the other link.
use Rattle.std.proofs.Common.{◌≡◌, ◌||◌, ◌-◌, ◌<◌, ℕ, Bool, true, false, Some, refl, sym, ap, ◌∙◌, subst, inl, inr, append-nil, arith}
use Rattle.std.proofs.lemmas.Bool.{cases_Bool, cases_eq}
use Rattle.tipc_types.specs.LinkStates.{is_up}
use Rattle.tipc_types.specs.declared.link_words.BroadcastState.{BroadcastState}
use Rattle.tipc_link.specs.Links.{LinkEnd, after, record_of}
use Rattle.tipc_link.specs.Parts.{IsShowable}
use Rattle.tipc_link.specs.Records.{kept_for}
use Rattle.tipc_link_fsm.specs.declared.changes.Change.TheVariants.{Up}
use Rattle.tipc_link_fsm.specs.Runs.{Call, outcome}
use Rattle.tipc_link_fsm.specs.Table.{Fsm, is_held, is_in_reset}
use Rattle.tipc_link_fsm.proofs.Rising.{goes_up as rises_from}
use Rattle.tipc_types.specs.declared.link_words.LinkState.{LinkState}
use Rattle.tipc_types.specs.declared.link_words.LinkState.TheVariants.{ResetUnknown, ResetReset, WorkingWorking, WorkingUnknown}
use Rattle.tipc_types.specs.declared.link_words.LinkState.TheVariants as state
use Rattle.tipc_pair.specs.Courses.{going_on}
use Rattle.tipc_pair.specs.Facing.{PairEnds, in_contact, is_up_at, other, with_near}
use Rattle.tipc_pair.specs.PairCalls.{stepped}
use Rattle.tipc_pair.proofs.EndSteps.{fsm_after}
use Rattle.tipc_changeover.specs.Links.{Bearer, State}
use Rattle.tipc_changeover.proofs.Staying.{reached_sound}
use Rattle.tipc_two_nodes.specs.links.Acting.{Acted}
use Rattle.tipc_two_nodes.specs.links.Receiving.{record_at}
use Rattle.tipc_two_nodes.specs.links.Sending.{ends_seen, number_as}
use Rattle.tipc_two_nodes.specs.links.Traffic.{Traffic}
use Rattle.tipc_two_nodes.specs.links.Turning.{AreEnds, TurnsEnd, goes_up, is_rise}
use Rattle.tipc_two_nodes.proofs.links.calls.Reacting.{MayTurn, Turned, fell, last, rose, still, turns}
use Rattle.tipc_two_nodes.proofs.links.calls.States.{as_down, as_up}
use Rattle.tipc_paired.proofs.sessions.RiseDeeds.{Went, went}
use Rattle.tipc_paired.specs.Deeds.{MayCall}
use Rattle.tipc_paired.specs.Paired.{ArePaired}
use Rattle.tipc_paired.specs.Views.{IsApart, View}
use Rattle.tipc_two_nodes.proofs.deeds.Pairs.{apart_of}
use Rattle.tipc_two_nodes.proofs.deeds.Stepping.{CanHand, stepped_takes}
use Rattle.tipc_two_nodes.specs.deeds.PairDeeds.{IsOfPair, followed_more, none_more}
use Rattle.tipc_two_nodes.specs.Carriages.{IsAhead, IsPresent}
use Rattle.tipc_two_nodes.specs.Numbers.{IsToldIn}
use Rattle.tipc_two_nodes.specs.Carrying.{Carries, KeepsCarried, none_taken}
use Rattle.tipc_two_nodes.specs.Pieces.{state_from, traffic_from}
use Rattle.tipc_two_nodes.specs.Steps.{Enters, RecordAfter, as_it_was, is_kept}
use Rattle.tipc_two_nodes.specs.Twins.{AreTwins, sends_in}
use Rattle.tipc_two_nodes.proofs.calls.CallCourses.{are_up}
use Rattle.tipc_two_nodes.proofs.calls.Chaining.{AreNow}
use Rattle.tipc_two_nodes.proofs.contacts.Counting.{TakesNoMore}
use Rattle.tipc_two_nodes.proofs.calls.PairViews.{in_contact_present, sound_from, with_carried}
use Rattle.tipc_two_nodes.proofs.calls.QuietCourses.{bearer_of, stand_at}
use Rattle.tipc_two_nodes.proofs.arrivals.RiseCourses.{StepsUp, step_now, steps_up}
use Rattle.tipc_two_nodes.proofs.arrivals.RiseRecords.{RecordBegins, rise_receives}
use Rattle.tipc_two_nodes.proofs.steps.RiseSteps.{went_told}
use Rattle.tipc_two_nodes.proofs.calls.Stretches.{Stretch, course_stretch, stretch_enters, stretch_goes_on}

-- ---- the sender

not_held : (s : LinkState) → is_in_reset s ≡ true → is_held s ≡ false
not_held ResetUnknown so = refl
not_held ResetReset so = refl
not_held WorkingWorking so = refl
not_held WorkingUnknown so = refl
not_held state.Held so = absurd (let wrong : ⊥ = cc in wrong)

-- the near link goes up from reset
turns_up : (v y : View) (x : PairEnds) (e : LinkEnd) (call : Call) (es : ℕ) → Went v y x.bearer e (after e (outcome e.fsm call)) es → (outcome e.fsm call).change ≡ Up → TurnsEnd (is_up_at x.far) e.fsm (outcome e.fsm call)
turns_up v y x e call es m up =
    let o = outcome e.fsm call in
    let from = (rises_from e.fsm call up).1 in
    let fsm = fsm_after e o in
    goes_up up (as_down e.fsm.state m.raised.was (not_held e.fsm.state from.was_in_reset)) from.own_stays (as_up o.after.state (ap (λ (f : Fsm). is_up f.state) (sym fsm) ∙ m.raised.up))

acted_up : (b : Bearer) (p q : PairEnds) (rising : Bool) (t : Traffic) (s : State) → q.contact ≡ p.contact → Turned b p q rising t s → Acted b (ends_seen p) (ends_seen q) t s
acted_up b p q rising t s same (still walk ends) = walk.acted
acted_up b p q rising t s same (fell walk falls up down) = walk.acted
acted_up b p q rising t s same (rose walk so) = walk.acted
acted_up b p q rising t s same (last over) = absurd (let next = over.next in let wrong : ⊥ = omega arith in wrong)

-- the step is events of the sender
step_acts : (b : Bearer) (v y : View) (h : AreTwins v y) (x : PairEnds) (e : LinkEnd) (call : Call) (epoch es : ℕ) (shown : BroadcastState) → IsOfPair v x → x.bearer ≡ number_as b → AreEnds x → x.near ≡ Some e → (outcome e.fsm call).change ≡ Up
    → Went v y x.bearer e (after e (outcome e.fsm call)) es → StepsUp x (stepped x e (outcome e.fsm call) epoch shown).pair e es
    → Acted b (ends_seen x) (ends_seen (stepped x e (outcome e.fsm call) epoch shown).pair) (traffic_from b (sends_in v y h).traffic) (state_from b (sends_in v y h).state)
unfolding going_on
step_acts b v y h x e call epoch es shown pair is ends near up m steps =
    let o = outcome e.fsm call in
    let c = sends_in v y h in
    let sound = sound_from b c.state (reached_sound c.state (h.sends.sent v.node.contact v.node.seen).reached) in
    let turn : MayTurn x e (after e o) o (is_up_at x.far) = record {
      two_bearers = ends.two_bearers;
      near_is = near;
      alike = record { fsm = refl; session = refl };
      turn = turns_up v y x e call es m up;
      carried = λ far. far;
      up = are_up v y x h.paired pair;
      runs = λ far. ends.near;
      far_runs = λ rise. ends.far;
    } in
    acted_up b x (stepped x e o epoch shown).pair (is_rise o.change) _ _ steps.numbers.contact (turns b x e (after e o) o epoch (is_up_at x.far) _ _ turn (stand_at b v y h x pair is) sound)

-- ---- a contact begins

-- the bearers of a pair: the near one, the far one, and those that have no end
record_there : (y v v' : View) (p q : PairEnds) (e : LinkEnd) (es : ℕ) → IsOfPair v p → IsOfPair v' q → p.near ≡ Some e → StepsUp p q e es → IsToldIn y.told p.bearer es v.node.seen v.node.contact → (c : ℕ) → RecordAfter y v v' c
record_there y v v' p q e es pair pair' near m told c = elim (cases_eq c p.bearer) [
  | inl here ↦
      let now : record_at (v'.wires c).end ≡ record_at q.near = ap (λ k. record_at (v'.wires k).end) (here ∙ sym m.numbers.bearer) ∙ ap record_at pair'.near in
      let was : record_at (v.wires c).end ≡ record_of e = ap (λ k. record_at (v.wires k).end) here ∙ ap record_at (pair.near ∙ near) in
      is_kept es (subst (λ k. IsToldIn y.told k es v.node.seen v.node.contact) (sym here) told) (now ∙ (m.begins ∙ ap (λ o. Some (kept_for o es)) (sym was)))
  | inr not_near ↦ elim (cases_eq c (other p.bearer)) [
    | inl there ↦
        let now : record_at (v'.wires c).end ≡ record_at q.far = ap (λ k. record_at (v'.wires k).end) (there ∙ ap other (sym m.numbers.bearer)) ∙ ap record_at pair'.far in
        let was : record_at (v.wires c).end ≡ record_at p.far = ap (λ k. record_at (v.wires k).end) there ∙ ap record_at pair.far in
        as_it_was (now ∙ (m.stays ∙ sym was))
    | inr not_far ↦
        let two = pair.two_bearers in
        let more : 1 < c = omega arith in
        as_it_was (ap record_at (pair'.alone c more) ∙ sym (ap record_at (pair.alone c more)))
  ]
]

-- a contact that lasts has begun
present_begun : (x y : View) (own theirs : ℕ) → ArePaired x y → x.node.contact ≡ own → x.node.seen ≡ theirs → IsPresent x x.node.contact x.node.seen → IsAhead x own theirs → ⊥
present_begun x y own theirs h own_is theirs_is here ahead =
    let b = here.bearer in
    let s = here.session in
    let g = (h.here.wires b).going s here.session_is in
    let now = (h.here.epochs b).now s g.begun here.session_is g.begun_is in
    ahead b s.epoch g.begun g.begun_is (now.0 ∙ own_is) (now.1 ∙ theirs_is)

step_enters : (v v' y : View) (h : AreTwins v y) (p q : PairEnds) (e e' : LinkEnd) (es : ℕ) → IsOfPair v p → IsOfPair v' q → p.near ≡ Some e → Went v y p.bearer e e' es → StepsUp p q e es → Stretch v v' y h → TakesNoMore v v' → IsApart v → Enters y v v'
step_enters v v' y h p q e e' es pair pair' near m steps s got apart =
    let told = went_told v y p.bearer e e' es h.paired m in
    let paired = s.goes.paired in
    let node = s.stays.node in
    let up : in_contact q ≡ true = ap (λ t. t || is_up_at q.far) steps.up in
    record {
      apart = apart;
      node = node;
      some = present_begun v' y v.node.contact v.node.seen paired (ap (λ n. n.contact) node) (ap (λ n. n.seen) node) (in_contact_present v' y q paired pair' up);
      begun = s.goes.begun;
      bearer = p.bearer;
      epoch = es;
      shown = told;
      records = record_there y v v' p q e es pair pair' near steps told;
      got = got;
    }

-- ---- the contact lasts

step_begins : (b : Bearer) (v v' : View) (p q : PairEnds) (e : LinkEnd) (es : ℕ) → IsOfPair v p → IsOfPair v' q → p.bearer ≡ number_as b → StepsUp p q e es → RecordBegins v v' (number_as b) (1 - number_as b) e es
step_begins b v v' p q e es pair pair' is m =
    let near : q.bearer ≡ number_as b = m.numbers.bearer ∙ is in
    record {
      begins = ap (λ k. record_at (v'.wires k).end) (sym near) ∙ (ap record_at pair'.near ∙ m.begins);
      stays = ap (λ k. record_at (v'.wires (other k)).end) (sym near) ∙ (ap record_at pair'.far ∙ (m.stays ∙ (sym (ap record_at pair.far) ∙ ap (λ k. record_at (v.wires (other k)).end) is)));
    }

-- ---- the law

step_twins : (b : Bearer) (v v' y : View) (h : AreTwins v y) (p q : PairEnds) (e e' : LinkEnd) (es : ℕ) → IsOfPair v p → IsOfPair v' q → p.bearer ≡ number_as b → p.near ≡ Some e → Went v y p.bearer e e' es → StepsUp p q e es → Stretch v v' y h → TakesNoMore v v' → (k : AreTwins v' y) × Carries v v' y h k none_taken
step_twins b v v' y h p q e e' es pair pair' is near m steps s got = elim (cases_Bool (is_up_at p.far)) [
  | inl up ↦
      let present = in_contact_present v y p h.paired pair (either (is_up_at p.near) (is_up_at p.far) up) in
      let T = rise_receives b v v' y h e e' es (record { node = s.stays.node; begun = s.goes.begun; present = present; got = got }) (subst (λ k. Went v y k e e' es) is m) (step_begins b v v' p q e es pair pair' is steps) in
      stretch_goes_on v v' y h s T.receives T.delivered
  | inr alone ↦ stretch_enters v v' y h s (step_enters v v' y h p q e e' es pair pair' near m steps s got (apart_of v p pair (ap is_up_at near ∙ m.raised.was) alone))
]
  where
    either : (first second : Bool) → second ≡ true → (first || second) ≡ true
    either true second up = refl
    either false second up = up

-- where the links may send what they have, and hand it over
pub rise_carried : (v y : View) (x : PairEnds) (e : LinkEnd) (call : Call) (epoch : ℕ) (shown : BroadcastState) (h : AreTwins v y) → IsOfPair v x → AreEnds x → CanHand v x → x.near ≡ Some e → MayCall v y x.bearer call → (outcome e.fsm call).change ≡ Up → IsShowable shown
    → KeepsCarried v y h (stepped x e (outcome e.fsm call) epoch shown) (followed_more (with_near x (after e (outcome e.fsm call))) (outcome e.fsm call).change)
rise_carried v y x e call epoch shown h pair ends hand near has up showable =
    let o = outcome e.fsm call in
    let c = stepped x e o epoch shown in
    let m = went v y x.bearer e call h.paired (pair.near ∙ near) has up in
    let own = (rises_from e.fsm call up).1.own_stays in
    let at = bearer_of x.bearer pair.two_bearers in
    let b = at.0 in
    let steps = steps_up v y x e o epoch m.0 shown up m.1 in
    let t = stepped_takes v y x e call epoch shown h.paired pair near has hand showable in
    let v' = t.0 in
    let now : (n : ℕ) → AreNow v' (followed_more (with_near x (after e o)) o.change) n = λ n. step_now v' x c.pair e o m.0 n up own t.1.pair steps in
    let s = course_stretch b v v' y h x c (followed_more (with_near x (after e o)) o.change) none_more pair at.1 t.1 steps.numbers (step_acts b v y h x e call epoch m.0 shown pair at.1 ends near up m.1 steps) (now 0) (now 1) in
    with_carried v y h c (followed_more (with_near x (after e o)) o.change) t (step_twins b v v' y h x c.pair e (after e o) m.0 pair t.1.pair at.1 near m.1 steps s (λ c k. t.1.did.got c k ∙ append-nil ((v.wires c).got k)))
