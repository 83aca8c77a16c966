-- At a tick a link that is up says STATE.
use Rattle.std.specs.Prelude.{◌==◌, nat_le}
use Rattle.std.proofs.Common.{◌≡◌, ◌≤◌, ◌∙◌, ℕ, zero, suc, Bool, true, false, List, [], ◌∷◌, ◌++◌, Option, Some, None, append_assoc, refl, sym, ap, subst, arith}
use Rattle.std.proofs.lemmas.Bool.{true≢false}
use Rattle.std.proofs.lemmas.Bool.Decides.{nat_tests}
use Rattle.tipc_types.specs.LinkStates.{is_up}
use Rattle.tipc_types.specs.declared.link_words.BroadcastState.{BroadcastState}
use Rattle.tipc_types.specs.declared.link_words.LinkState.{LinkState}
use Rattle.tipc_types.specs.declared.link_words.LinkState.TheVariants.{Held, ResetReset, ResetUnknown, WorkingUnknown, WorkingWorking}
use Rattle.tipc_types.specs.declared.link_words.Reply.TheVariants as reply
use Rattle.tipc_outside.specs.declared.outgoing.Outgoing.{Outgoing}
use Rattle.tipc_link_fsm.specs.declared.changes.Change.{Change}
use Rattle.tipc_link_fsm.specs.declared.changes.Change.TheVariants.{Answer, Down, Ignore, Stay, Up}
use Rattle.tipc_link_fsm.specs.Table.{Fsm, Outcome, on_tick, tick_in, up_tick}
use Rattle.tipc_link_fsm.proofs.Moves.{cases_on, is_going_up}
use Rattle.tipc_link.specs.Links.{LinkEnd, after, follow_frames, frames, is_down, state_frames, with_fsm}
use Rattle.tipc_link.specs.Sessions.{SessionEnd, state_frame}
use Rattle.tipc_pair.specs.Changeovers.{following, released}
use Rattle.tipc_pair.specs.Courses.{going_on}
use Rattle.tipc_pair.specs.Facing.{PairEnds, facing, is_up_at, turned, with_near}
use Rattle.tipc_pair.specs.LinkReadings.{silence_in}
use Rattle.tipc_pair.specs.PairCalls.{at_bearer, tick_at, tick_near, ticked}
use Rattle.tipc_pair.specs.PairTurns.{Outset, replied}
use Rattle.tipc_pair.proofs.Facings.{facing_far, facing_near}
use Rattle.tipc_pair.proofs.HeldLaws.{tick_quiet}
use Rattle.tipc_pair.proofs.turns.Moves.{up_silence}
use Rattle.tipc_paired.proofs.wires.Wires.{same_some}
use Rattle.tipc_two_nodes.specs.Sights.{AreSeen, Sight, pair_seen}
use Rattle.tipc_two_nodes.proofs.sights.Sights.{ends}
use Rattle.tipc_settling.specs.Silence.{SaysState, TicksSayState}
use Rattle.tipc_paired.specs.Views.{fsm_in}
use Rattle.tipc_settling.specs.Stillness.{Footing, IsStill, IsStillAt, IsStillEnd}
use Rattle.tipc_settling.proofs.Pairs.{near_still}
use Rattle.tipc_settling.proofs.Turns.{tick_near_still}
use Rattle.tipc_settling.proofs.Rows.{tick_still}

-- ---- a link end

up_says : (f : Fsm) (held : Bool) → f.silent ≤ 3 → (up_tick f held).change ≡ Answer (reply.State (nat_le 1 f.silent))
up_says f held few = cases_on (λ (o : Outcome). o.change ≡ Answer (reply.State (nat_le 1 f.silent))) (f.silent == 4) _ _ (λ four. let is : f.silent ≡ 4 = grind (arith, nat_tests, four) in absurd (omega (arith, is, few))) (λ _. refl)

tick_in_says : (st : LinkState) (f : Fsm) (held : Bool) → is_up st ≡ true → f.silent ≤ 3 → (tick_in st f held).change ≡ Answer (reply.State (nat_le 1 f.silent))
tick_in_says WorkingWorking f held up few = up_says f held few
tick_in_says WorkingUnknown f held up few = up_says f held few
tick_in_says Held f held up few = absurd (true≢false (sym up))
tick_in_says ResetReset f held up few = absurd (true≢false (sym up))
tick_in_says ResetUnknown f held up few = absurd (true≢false (sym up))

tick_says : (f : Fsm) (held : Bool) → is_up f.state ≡ true → f.silent ≤ 3 → (on_tick f held).change ≡ Answer (reply.State (nat_le 1 f.silent))
unfolding on_tick
tick_says f held up few = tick_in_says f.state f held up few

-- nothing follows a change by which no link goes up or down
following_pair : (x : PairEnds) (change : Change) (epoch : ℕ) → is_down change ≡ false → is_going_up change ≡ false → (following x change epoch).pair ≡ x
following_pair x Up epoch up quiet = absurd (true≢false quiet)
following_pair x (Down because) epoch up quiet = absurd (true≢false up)
following_pair x Stay epoch up quiet = refl
following_pair x (Answer back) epoch up quiet = refl
following_pair x (Ignore reason) epoch up quiet = refl

-- ---- the near link

-- a tick leaves the far end as it is
pub tick_far : (own peer : Footing) (shown : BroadcastState) (x : PairEnds) (o : Option LinkEnd) → x.near ≡ o → IsStill own peer x → silence_in o ≤ 3 → (tick_at shown x o).pair.far ≡ x.far
unfolding going_on
tick_far own peer shown x None near h silent = refl
tick_far own peer shown x (Some e) near h silent =
    let o = on_tick e.fsm (is_up_at x.far) in
    let s = tick_still own peer x.seen x.bearer (is_up_at x.far) e.fsm (near_still own peer x e near h) (λ up. (let same = up_silence e up in omega (arith, same, silent))) in
    ap (λ (z : PairEnds). z.far) (following_pair (with_near x (after e o)) o.change 0 s.up (tick_quiet e.fsm (is_up_at x.far)))

-- and says STATE in the session of an end that is up
state_said : (e : LinkEnd) (s : SessionEnd) (o : Outcome) (shown : BroadcastState) (probe : Bool) → e.session ≡ Some s → o.change ≡ Answer (reply.State probe) → frames e o shown ≡ state_frame s shown probe ∷ []
state_said e s o shown probe has is = ap (λ c. follow_frames (with_fsm e o.after) c shown) is ∙ ap (λ session. state_frames session shown probe) has

tick_states : (shown : BroadcastState) (x : PairEnds) (e : LinkEnd) (s : SessionEnd) → x.near ≡ Some e → e.session ≡ Some s → is_up e.fsm.state ≡ true → e.fsm.silent ≤ 3 → (tick_near shown x).states ≡ state_frame s shown (nat_le 1 e.fsm.silent) ∷ []
unfolding going_on
tick_states shown x e s near has up few =
    let held = is_up_at x.far in
    let o = on_tick e.fsm held in
    let says = tick_says e.fsm held up few in
    ap (λ end. (tick_at shown x end).states) near
    ∙ ap (λ fs. fs ++ (following (with_near x (after e o)) o.change 0).states) (state_said e s o shown (nat_le 1 e.fsm.silent) has says)
    ∙ ap (λ c. (state_frame s shown (nat_le 1 e.fsm.silent) ∷ []) ++ (following (with_near x (after e o)) c 0).states) says

-- ---- both links

-- the session of a link that is up
record HasState (own peer : Footing) (bearer : ℕ) (e : LinkEnd) (s : SessionEnd) : Type 0 where
  has : e.session ≡ Some s
  bearer_is : s.bearer ≡ bearer
  epoch : s.epoch ≡ own.epoch bearer
  peer_epoch : s.peer_epoch ≡ peer.epoch bearer

has_state : (v w : Sight) (own peer : Footing) (seen bearer : ℕ) (e : LinkEnd) → AreSeen v w → v.ends bearer ≡ Some e → is_up e.fsm.state ≡ true → IsStillEnd own peer seen bearer e.fsm → (s : SessionEnd) × HasState own peer bearer e s
has_state v w own peer seen bearer e h is up k =
    let end = ends v w bearer e h is in
    let g = end.going up in
    let knows : Some g.0.peer_epoch ≡ Some (peer.epoch bearer) = sym g.3 ∙ k.up up in
    (g.0, record { has = g.1; bearer_is = (end.session g.0 g.1).2; epoch = g.2 ∙ k.epoch; peer_epoch = same_some g.0.peer_epoch (peer.epoch bearer) (Some (peer.epoch bearer)) (sym knows) refl })

-- a frame among the first ones is among all
among : (own peer : Footing) (bearer : ℕ) (shown : BroadcastState) (before fs behind : List Outgoing) (s : SessionEnd) (probe : Bool) (e : LinkEnd) → HasState own peer bearer e s → fs ≡ state_frame s shown probe ∷ [] → SaysState own peer bearer shown (before ++ (fs ++ behind))
among own peer bearer shown before fs behind s probe e k is = record {
  before = before;
  behind = behind;
  session = s;
  probe = probe;
  frames_are = ap (λ xs. before ++ (xs ++ behind)) is;
  bearer_is = k.bearer_is;
  epoch = k.epoch;
  peer_epoch = k.peer_epoch;
}

near_silent : (e : LinkEnd) (o : Option LinkEnd) → o ≡ Some e → is_up e.fsm.state ≡ true → silence_in o ≤ 3 → e.fsm.silent ≤ 3
near_silent e o is up few = (let same = up_silence e up in let here : silence_in o ≡ silence_in (Some e) = ap silence_in is in omega (arith, same, here, few))

-- the frames of a tick: those of either link, then those of a release
pub ticked_states : (shown : BroadcastState) (x : PairEnds) → x.bearer ≡ 0 → (tick_near shown x).pair.bearer ≡ 0
    → (released_frames : List Outgoing) × ((ticked shown x).states ≡ ((tick_near shown x).states ++ (tick_near shown (turned (tick_near shown x).pair)).states) ++ released_frames)
unfolding going_on
ticked_states shown x zero_is stays =
    let here : facing 0 x ≡ x = facing_near 0 x zero_is in
    let y = (tick_near shown x).pair in
    let first : (at_bearer 0 x (tick_near shown)).pair ≡ y = ap (λ z. facing x.bearer (tick_near shown z).pair) here ∙ ap (λ b. facing b y) zero_is ∙ facing_near 0 y stays in
    let apart : (y.bearer == 1) ≡ false = grind (arith, nat_tests, stays) in
    let there : facing 1 (at_bearer 0 x (tick_near shown)).pair ≡ turned y = ap (facing 1) first ∙ facing_far 1 y apart in
    let last = (released (at_bearer 1 (at_bearer 0 x (tick_near shown)).pair (tick_near shown)).pair).states in (
      last,
      ap (λ z. ((tick_near shown z).states ++ (tick_near shown (facing 1 (at_bearer 0 x (tick_near shown)).pair)).states) ++ last) here
          ∙ ap (λ z. ((tick_near shown x).states ++ (tick_near shown z).states) ++ last) there,
    )

pub ticks_say_state : TicksSayState
ticks_say_state v w own peer shown messages reply x frames bearer h still heard one up t = by bearer one up
  where
    x0 : PairEnds
    x0 = pair_seen v

    y : PairEnds
    y = (tick_near shown x0).pair

    near : IsStill own peer y × (fsm_in y.far ≡ fsm_in x0.far) × (y.bearer ≡ x0.bearer)
    near = tick_near_still own peer shown x0 still heard.near

    parts : (released_frames : List Outgoing) × ((ticked shown x0).states ≡ ((tick_near shown x0).states ++ (tick_near shown (turned y)).states) ++ released_frames)
    parts = ticked_states shown x0 refl near.2

    A : List Outgoing
    A = (tick_near shown x0).states

    B : List Outgoing
    B = (tick_near shown (turned y)).states

    rest : List Outgoing
    rest = parts.0 ++ (t.first.course.numbered ++ (t.put_frames ++ (replied reply t.put).states))

    all : frames ≡ A ++ (B ++ rest)
    all =
        t.frames_are
        ∙ ap (λ fs. fs ++ (t.first.course.numbered ++ (t.put_frames ++ (replied reply t.put).states))) (ap (λ (o : Outset). o.course.states) t.happened ∙ parts.1)
        ∙ append_assoc (A ++ B) parts.0 (t.first.course.numbered ++ (t.put_frames ++ (replied reply t.put).states))
        ∙ append_assoc A B rest

    first_said : (o : Option LinkEnd) → v.ends 0 ≡ o → is_up_at o ≡ true → SaysState own peer 0 shown frames
    first_said None is up = absurd (true≢false (sym up))
    first_said (Some e) is up =
        let k = near_still own peer x0 e is still in
        let s = has_state v w own peer v.node.seen 0 e h is up k in
        let says = tick_states shown x0 e s.0 is s.1.has up (near_silent e (v.ends 0) is up heard.near) in
        subst (SaysState own peer 0 shown) (sym all) (among own peer 0 shown [] A (B ++ rest) s.0 (nat_le 1 e.fsm.silent) e s.1 says)

    second_said : (o : Option LinkEnd) → v.ends 1 ≡ o → is_up_at o ≡ true → SaysState own peer 1 shown frames
    second_said None is up = absurd (true≢false (sym up))
    second_said (Some e) is up =
        let far = tick_far own peer shown x0 x0.near refl still heard.near ∙ is in
        let k : IsStillEnd own peer v.node.seen 1 e.fsm = subst (IsStillAt own peer v.node.seen 1) (ap fsm_in is) still.far in
        let s = has_state v w own peer v.node.seen 1 e h is up k in
        let says = tick_states shown (turned y) e s.0 far s.1.has up (near_silent e (v.ends 1) is up heard.far) in
        subst (SaysState own peer 1 shown) (sym all) (among own peer 1 shown A B rest s.0 (nat_le 1 e.fsm.silent) e s.1 says)

    by : (bearer : ℕ) → bearer ≤ 1 → is_up_at (facing bearer (pair_seen v)).near ≡ true → SaysState own peer bearer shown frames
    by zero one up = first_said (v.ends 0) refl (ap (λ (z : PairEnds). is_up_at z.near) (sym (facing_near 0 x0 refl)) ∙ up)
    by (suc zero) one up = second_said (v.ends 1) refl (ap (λ (z : PairEnds). is_up_at z.near) (sym (facing_far 1 x0 refl)) ∙ up)
    by (suc (suc k)) one up = absurd (omega (arith, one))
