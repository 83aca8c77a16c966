-- What a packet makes of the near link of a pair, and what follows.
use Rattle.std.specs.Prelude.{IfOk, ◌&&◌, not, if◌then◌else◌}
use Rattle.std.proofs.Common.{◌≡◌, ◌∙◌, ℕ, Bool, true, false, Some, Result, Ok, Err, sym, subst, ap, append-nil}
use Rattle.tipc_types.specs.declared.link_words.BroadcastState.{BroadcastState}
use Rattle.tipc_outside.specs.Frames.{AddsFirst, Gains}
use Rattle.tipc_header.specs.Spelling.{Fields}
use Rattle.tipc_link_fsm.specs.declared.changes.Change.{Change}
use Rattle.tipc_link_fsm.specs.Table.{Outcome, on_reset}
use Rattle.tipc_recv_window.specs.declared.outcomes.LinkOutcome.{LinkOutcome}
use Rattle.tipc_link.specs.Links.{LinkEnd, after, arrival_end, change_outcome, frames, is_down, link_frames, outcome_of}
use Rattle.tipc_pair.specs.Changeovers.{following}
use Rattle.tipc_pair.specs.Courses.{AddsCourse, Course, LeavingState}
use Rattle.tipc_pair.specs.Facing.{PairEnds, is_up_at, with_near}
use Rattle.tipc_pair.specs.PairArrivals.{IsHeardAs, Heard, behind, linked, met, met_at, reset_change, reset_given, reset_near}
use Rattle.tipc_pair.proofs.Steppings.{stepped_first}
use Rattle.tipc_pair.proofs.CourseLaws.{then_adds, then_after}

pub met_does : (x now last : PairEnds) (e new : LinkEnd) (o : Outcome) (p : Fields) (es by : ℕ) (shown : BroadcastState) (change : Change) (given : LinkOutcome) (a b c : LeavingState)
    → now ≡ with_near x new → new ≡ arrival_end e o p by → change ≡ o.change → given ≡ (met x e o p es by shown).outcome → b.changes ≡ a.changes
    → Gains a.out b.out (link_frames e o p by shown)
    → last ≡ (following now change es).pair → AddsCourse b c (following now change es) → IsHeardAs (met x e o p es by shown) last a c given
met_does x now last e new o p es by shown change given a b c now_is new_is change_is given_is changes made last_is told =
    let first = linked x e o p by shown in
    let there : now ≡ first.pair = now_is ∙ ap (with_near x) new_is in
    let same : following now change es ≡ following now o.change es = ap (λ k. following now k es) change_is in
    record {
      pair = then_after now last first (λ y. following y o.change es) there (last_is ∙ ap (λ (k : Course). k.pair) same);
      told = then_adds a b c now first (λ y. following y o.change es) there (record { changes = changes ∙ sym (append-nil a.changes); made = made }) (subst (AddsCourse b c) same told);
      gives = given_is;
    }

pub met_near_is : (es er : ℕ) (p : Fields) (by : ℕ) (shown : BroadcastState) (x : PairEnds) (e : LinkEnd) (held : Bool) → x.near ≡ Some e → held ≡ is_up_at x.far
    → met x e (outcome_of e.fsm p.header es er held) p es by shown ≡ met_at es er p by shown x x.near
met_near_is es er p by shown x e held near_is held_is =
    ap (λ h. met x e (outcome_of e.fsm p.header es er h) p es by shown) held_is ∙ sym (ap (met_at es er p by shown x) near_is)

-- a RESET is given to the near end
pub reset_does : (x now last : PairEnds) (e new : LinkEnd) (es : ℕ) (held : Bool) (shown : BroadcastState) (change : Change) (given : LinkOutcome) (a b c : LeavingState) → x.near ≡ Some e
    → now ≡ with_near x new → new ≡ after e (on_reset e.fsm es held) → change ≡ (on_reset e.fsm es held).change → given ≡ change_outcome (on_reset e.fsm es held).change
    → last ≡ (following now change es).pair → AddsCourse b c (following now change es)
    → b.changes ≡ a.changes → AddsFirst a.out b.out (frames e (on_reset e.fsm es held) shown) → IsHeardAs (reset_given es held shown x x.near) last a c given
reset_does x now last e new es held shown change given a b c near_is now_is new_is change_is given_is last_is told changes states =
    let o = on_reset e.fsm es held in
    let same : following now change es ≡ following now o.change es = ap (λ k. following now k es) change_is in
    let first = stepped_first x e o shown in
    let there : now ≡ first.pair = now_is ∙ ap (with_near x) new_is in
    let does : IsHeardAs (reset_given es held shown x (Some e)) last a c given = record {
      pair = then_after now last first (λ y. following y o.change es) there (last_is ∙ ap (λ (k : Course). k.pair) same);
      told = then_adds a b c now first (λ y. following y o.change es) there (record {
        changes = changes ∙ sym (append-nil a.changes);
        made = states;
      }) (subst (AddsCourse b c) same told);
      gives = given_is;
    } in
    subst (λ end. IsHeardAs (reset_given es held shown x end) last a c given) (sym near_is) does

-- one step behind another
pub does_behind : (first : Course) (hear : PairEnds → Heard) (x last : PairEnds) (a b c : LeavingState) (outcome : LinkOutcome) → x ≡ first.pair → AddsCourse a b first
    → IsHeardAs (hear x) last b c outcome → IsHeardAs (behind first hear) last a c outcome
does_behind first hear x last a b c outcome is told h = record {
  pair = then_after x last first (λ y. (hear y).course) is h.pair;
  told = then_adds a b c x first (λ y. (hear y).course) is told h.told;
  gives = h.gives ∙ ap (λ y. (hear y).outcome) is;
}

-- ---- where memory was found

pub ok_weaker : {T F : Type 0} (r : Result T F) (P Q : T → Type 0) → ((v : T) → P v → Q v) → IfOk r P → IfOk r Q
ok_weaker (Ok v) P Q more h = more v h
ok_weaker (Err fault) P Q more h = h

-- a RESET that took the last link down is given again
pub reset_again_is : (es : ℕ) (shown : BroadcastState) (x : PairEnds) (held : Bool) (change : Change) → held ≡ is_up_at x.far → held ≡ false → change ≡ reset_change es held x.near → is_down change ≡ true
    → reset_near es shown x ≡ behind (reset_given es held shown x x.near).course (λ y. reset_given es false shown y y.near)
reset_again_is es shown x held change held_is off change_is down =
    let again : Bool → Heard = λ h. behind (reset_given es h shown x x.near).course (λ y. reset_given es false shown y y.near) in
    let once : Heard = reset_given es (is_up_at x.far) shown x x.near in
    let fell : is_down (reset_change es (is_up_at x.far) x.near) ≡ true = ap (λ h. is_down (reset_change es h x.near)) (sym held_is) ∙ (ap is_down (sym change_is) ∙ down) in
    ap (λ b. if b && not (is_up_at x.far) then again (is_up_at x.far) else once) fell
    ∙ (ap (λ u. if not u then again (is_up_at x.far) else once) (sym held_is ∙ off) ∙ ap again (sym held_is))
