-- At a tick an end that is in reset says RESET or ACTIVATE.
use Rattle.std.specs.Prelude.{if◌then◌else◌}
use Rattle.std.proofs.Common.{◌≡◌, ◌≤◌, ◌∙◌, ℕ, zero, suc, Bool, true, false, List, [], ◌∷◌, ◌++◌, Some, append_assoc, refl, sym, ap, subst, arith}
use Rattle.std.proofs.lemmas.Bool.{true≢false}
use Rattle.tipc_types.specs.declared.link_words.BroadcastState.{BroadcastState}
use Rattle.tipc_types.specs.declared.link_words.LinkState.{LinkState}
use Rattle.tipc_types.specs.declared.link_words.LinkState.TheVariants.{Held, ResetReset, ResetUnknown, WorkingUnknown, WorkingWorking}
use Rattle.tipc_outside.specs.declared.outgoing.Outgoing.{Outgoing}
use Rattle.tipc_header.specs.declared.packet.Header.TheVariants as header
use Rattle.tipc_link_fsm.specs.declared.changes.Change.{Change}
use Rattle.tipc_link_fsm.specs.declared.changes.Change.TheVariants.{Answer, Down, Ignore, Stay, Up}
use Rattle.tipc_link_fsm.specs.Table.{is_in_reset, on_tick, tick_in}
use Rattle.tipc_link_fsm.proofs.Moves.{is_going_up}
use Rattle.tipc_link.specs.Links.{LinkEnd, after, frames, is_down, notice, shown_by}
use Rattle.tipc_pair.specs.Changeovers.{following}
use Rattle.tipc_pair.specs.Courses.{going_on}
use Rattle.tipc_pair.specs.Facing.{PairEnds, facing, is_up_at, turned, with_near}
use Rattle.tipc_pair.specs.LinkReadings.{silence_in}
use Rattle.tipc_pair.specs.PairCalls.{tick_at, tick_near, ticked}
use Rattle.tipc_pair.specs.PairTurns.{Outset, replied}
use Rattle.tipc_pair.proofs.Facings.{facing_near, facing_one}
use Rattle.tipc_pair.proofs.HeldLaws.{tick_quiet}
use Rattle.tipc_pair.proofs.turns.Moves.{up_silence}
use Rattle.tipc_paired.specs.Views.{fsm_in}
use Rattle.tipc_settling.specs.Rises.{SaysNotice, TicksSayNotice, notice_in}
use Rattle.tipc_settling.specs.Stillness.{AreHeard, Footing, IsStill}
use Rattle.tipc_settling.proofs.Pairs.{near_still, still_turned}
use Rattle.tipc_settling.proofs.Rows.{tick_still}
use Rattle.tipc_settling.proofs.Saying.{tick_far, ticked_states}
use Rattle.tipc_settling.proofs.Turns.{silence_states, tick_near_still}

-- no frame follows a change by which no link goes up or down
following_says : (x : PairEnds) (change : Change) (epoch : ℕ) → is_down change ≡ false → is_going_up change ≡ false → (following x change epoch).states ≡ []
following_says x Up epoch up quiet = absurd (true≢false quiet)
following_says x (Down because) epoch up quiet = absurd (true≢false up)
following_says x Stay epoch up quiet = refl
following_says x (Answer back) epoch up quiet = refl
following_says x (Ignore reason) epoch up quiet = refl

notice_said : (st : LinkState) (e : LinkEnd) (held : Bool) (shown : BroadcastState) → e.fsm.state ≡ st → e.mended ≡ true → is_in_reset st ≡ true → frames e (tick_in st e.fsm held) shown ≡ notice_in st e ∷ []
notice_said ResetUnknown e held shown is mended reset = ap (λ b. if b then notice e (header.Reset (shown_by e)) ∷ [] else []) mended
notice_said ResetReset e held shown is mended reset = ap (λ b. if b then notice e (header.Activate (shown_by e)) ∷ [] else []) mended
notice_said WorkingWorking e held shown is mended reset = absurd (true≢false (sym reset))
notice_said WorkingUnknown e held shown is mended reset = absurd (true≢false (sym reset))
notice_said Held e held shown is mended reset = absurd (true≢false (sym reset))

end_says : (e : LinkEnd) (held : Bool) (shown : BroadcastState) → e.mended ≡ true → is_in_reset e.fsm.state ≡ true → frames e (on_tick e.fsm held) shown ≡ notice_in e.fsm.state e ∷ []
unfolding on_tick
end_says e held shown mended reset = notice_said e.fsm.state e held shown refl mended reset

-- the near end says so
near_says : (own peer : Footing) (shown : BroadcastState) (x : PairEnds) (e : LinkEnd) → x.near ≡ Some e → IsStill own peer x → silence_in x.near ≤ 3 → e.mended ≡ true → is_in_reset e.fsm.state ≡ true → (tick_near shown x).states ≡ notice_in e.fsm.state e ∷ []
unfolding going_on
near_says own peer shown x e near h silent mended reset =
    let held = is_up_at x.far in
    let o = on_tick e.fsm held in
    let few : silence_in (Some e) ≤ 3 = subst (λ end. silence_in end ≤ 3) near silent in
    let s = tick_still own peer x.seen x.bearer held e.fsm (near_still own peer x e near h) (λ up. (let same = up_silence e up in omega (arith, same, few))) in
    ap (λ end. (tick_at shown x end).states) near
    ∙ ap (λ fs. fs ++ (following (with_near x (after e o)) o.change 0).states) (end_says e held shown mended reset)
    ∙ ap (λ fs. (notice_in e.fsm.state e ∷ []) ++ fs) (following_says (with_near x (after e o)) o.change 0 s.up (tick_quiet e.fsm held))

pub ticked_says : (own peer : Footing) (shown : BroadcastState) (x : PairEnds) (e : LinkEnd) (bearer : ℕ) → x.bearer ≡ 0 → IsStill own peer x → AreHeard x → bearer ≤ 1 → (facing bearer x).near ≡ Some e → e.mended ≡ true
    → is_in_reset e.fsm.state ≡ true → SaysNotice e (ticked shown x).states
ticked_says own peer shown x e bearer zero_is still heard one near mended reset = by bearer one near
  where
    y : PairEnds
    y = (tick_near shown x).pair

    ticked_one : IsStill own peer y × (fsm_in y.far ≡ fsm_in x.far) × (y.bearer ≡ x.bearer)
    ticked_one = tick_near_still own peer shown x still heard.near

    parts : (released_frames : List Outgoing) × ((ticked shown x).states ≡ ((tick_near shown x).states ++ (tick_near shown (turned y)).states) ++ released_frames)
    parts = ticked_states shown x zero_is (ticked_one.2 ∙ zero_is)

    A : List Outgoing
    A = (tick_near shown x).states

    B : List Outgoing
    B = (tick_near shown (turned y)).states

    all : (ticked shown x).states ≡ A ++ (B ++ parts.0)
    all = parts.1 ∙ append_assoc A B parts.0

    by : (bearer : ℕ) → bearer ≤ 1 → (facing bearer x).near ≡ Some e → SaysNotice e (ticked shown x).states
    by zero one near =
        let here : x.near ≡ Some e = ap (λ (z : PairEnds). z.near) (sym (facing_near 0 x zero_is)) ∙ near in
        record { before = []; behind = B ++ parts.0; frames_are = all ∙ ap (λ fs. fs ++ (B ++ parts.0)) (near_says own peer shown x e here still heard.near mended reset) }
    by (suc zero) one near =
        let far : x.far ≡ Some e = ap (λ (z : PairEnds). z.far) (sym (facing_near 0 x zero_is)) ∙ sym (facing_one x still.two) ∙ near in
        let there : y.far ≡ Some e = tick_far own peer shown x x.near refl still heard.near ∙ far in
        let few : silence_in y.far ≤ 3 = (let most = heard.far in let same = silence_states own peer x.far y.far ticked_one.1 in omega (arith, most, same)) in
        record { before = A; behind = parts.0; frames_are = all ∙ ap (λ fs. A ++ (fs ++ parts.0)) (near_says own peer shown (turned y) e there (still_turned own peer y ticked_one.0) few mended reset) }
    by (suc (suc k)) one near = absurd (omega (arith, one))

pub ticks_say_notice : TicksSayNotice
ticks_say_notice own peer shown messages reply x x' frames bearer e zero_is still heard one near mended reset t =
    let says = ticked_says own peer shown x e bearer zero_is still heard one near mended reset in
    let more = t.first.course.numbered ++ (t.put_frames ++ (replied reply t.put).states) in
    record {
      before = says.before;
      behind = says.behind ++ more;
      frames_are = t.frames_are ∙ ap (λ fs. fs ++ more) (ap (λ (o : Outset). o.course.states) t.happened ∙ says.frames_are) ∙ append_assoc says.before (notice_in e.fsm.state e ∷ says.behind) more;
    }
