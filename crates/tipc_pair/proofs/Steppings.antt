-- What a call at the near link makes of the pair: what becomes of the link, and then what follows its change.
use Rattle.std.specs.Prelude.{OnOk, if◌then◌else◌, ◌-◌}
use Rattle.std.proofs.Common.{◌≡◌, ◌∙◌, ℕ, Bool, true, false, Some, Result, option_map, refl, sym, subst, ap, append-nil}
use Rattle.tipc_types.specs.declared.link_words.BroadcastState.{BroadcastState}
use Rattle.tipc_outside.specs.Frames.{AddsFirst}
use Rattle.tipc_link_fsm.specs.declared.changes.Change.{Change}
use Rattle.tipc_link_fsm.specs.Table.{Outcome, on_cut, on_peer_tunnel, on_tick}
use Rattle.tipc_link.specs.Links.{LinkEnd, after, cut_end, frames, tunnelled_down}
use Rattle.tipc_pair.specs.Changeovers.{following, is_clear, let_go, let_go_frames, release_near, released}
use Rattle.tipc_pair.specs.Courses.{AddsCourse, Course, LeavingState, going_on, rests}
use Rattle.tipc_pair.specs.Facing.{PairEnds, facing, is_up_at, other, turned, with_near}
use Rattle.tipc_pair.specs.PairArrivals.{tunnelled_at}
use Rattle.tipc_pair.specs.PairCalls.{at_bearer, cut_at, stepped, tick_at}
use Rattle.tipc_pair.proofs.CourseLaws.{then_adds_ok, then_after_ok}

-- the near link of a pair was cut, or goes down by a tunnel packet
pub cut_is : (x now : PairEnds) (e new : LinkEnd) (held : Bool) (change : Change) → x.near ≡ Some e → held ≡ is_up_at x.far → now ≡ with_near x new → new ≡ cut_end e held
    → change ≡ (on_cut e.fsm held).change → following now change 0 ≡ cut_at x x.near
cut_is x now e new held change near_is held_is now_is new_is change_is =
    ap (λ y. following y change 0) (now_is ∙ ap (with_near x) new_is)
    ∙ (ap (λ k. following (with_near x (cut_end e held)) k 0) change_is
    ∙ (ap (λ h. following (with_near x (cut_end e h)) (on_cut e.fsm h).change 0) held_is ∙ sym (ap (cut_at x) near_is)))

pub tunnelled_is : (x now : PairEnds) (e new : LinkEnd) (epoch : ℕ) (change : Change) → x.near ≡ Some e → now ≡ with_near x new → new ≡ tunnelled_down e epoch
    → change ≡ (on_peer_tunnel e.fsm epoch).change → following now change epoch ≡ tunnelled_at epoch x x.near
tunnelled_is x now e new epoch change near_is now_is new_is change_is =
    ap (λ y. following y change epoch) (now_is ∙ ap (with_near x) new_is)
    ∙ (ap (λ k. following (with_near x (tunnelled_down e epoch)) k epoch) change_is ∙ sym (ap (tunnelled_at epoch x) near_is))

-- what was told of it
pub course_after : {T F : Type 0} (r : Result T F) (now : PairEnds) (one two : Course) → one ≡ two → OnOk r (now ≡ one.pair) → OnOk r (now ≡ two.pair)
course_after r now one two same h = subst (λ (k : Course). OnOk r (now ≡ k.pair)) same h

pub course_adds : {T F : Type 0} (r : Result T F) (a b : LeavingState) (one two : Course) → one ≡ two → OnOk r (AddsCourse a b one) → OnOk r (AddsCourse a b two)
course_adds r a b one two same h = subst (λ (k : Course). OnOk r (AddsCourse a b k)) same h

-- ---- an outcome of the near link's states, and what follows

abbrev pub stepped_first : PairEnds → LinkEnd → Outcome → BroadcastState → Course
stepped_first x e o shown = record (rests (with_near x (after e o))) { states = frames e o shown }

pub stepped_after : {T F : Type 0} (r : Result T F) (x now last : PairEnds) (e new : LinkEnd) (o : Outcome) (change : Change) (epoch : ℕ) (shown : BroadcastState)
    → now ≡ with_near x new → new ≡ after e o → change ≡ o.change → OnOk r (last ≡ (following now change epoch).pair) → OnOk r (last ≡ (stepped x e o epoch shown).pair)
stepped_after r x now last e new o change epoch shown now_is new_is change_is h =
    then_after_ok r now last (stepped_first x e o shown) (λ y. following y o.change epoch) (now_is ∙ ap (with_near x) new_is)
    (subst (λ k. OnOk r (last ≡ (following now k epoch).pair)) change_is h)

pub stepped_adds : {T F : Type 0} (r : Result T F) (a b c : LeavingState) (x now : PairEnds) (e new : LinkEnd) (o : Outcome) (change : Change) (epoch : ℕ) (shown : BroadcastState)
    → now ≡ with_near x new → new ≡ after e o → change ≡ o.change → OnOk r (AddsCourse b c (following now change epoch)) → b.changes ≡ a.changes → AddsFirst a.out b.out (frames e o shown)
    → OnOk r (AddsCourse a c (stepped x e o epoch shown))
stepped_adds r a b c x now e new o change epoch shown now_is new_is change_is h changes states =
    then_adds_ok r a b c now (stepped_first x e o shown) (λ y. following y o.change epoch) (now_is ∙ ap (with_near x) new_is) (record {
      changes = changes ∙ sym (append-nil a.changes);
      made = states;
    }) (subst (λ k. OnOk r (AddsCourse b c (following now k epoch))) change_is h)

-- a tick of the near link
pub ticked_is : (x : PairEnds) (e : LinkEnd) (held : Bool) (shown : BroadcastState) → x.near ≡ Some e → held ≡ is_up_at x.far → stepped x e (on_tick e.fsm held) 0 shown ≡ tick_at shown x x.near
ticked_is x e held shown near_is held_is = ap (λ h. stepped x e (on_tick e.fsm h) 0 shown) held_is ∙ sym (ap (tick_at shown x) near_is)

-- ---- a call at the link of a bearer

pub at_bearer_after : (bearer : ℕ) (x first now last : PairEnds) (call : PairEnds → Course) → first ≡ facing bearer x → now ≡ (call first).pair → last ≡ facing x.bearer now
    → last ≡ (at_bearer bearer x call).pair
at_bearer_after bearer x first now last call first_is now_is last_is = last_is ∙ ap (facing x.bearer) (now_is ∙ ap (λ y. (call y).pair) first_is)

pub at_bearer_adds : (bearer : ℕ) (a b : LeavingState) (x first : PairEnds) (call : PairEnds → Course) → first ≡ facing bearer x → AddsCourse a b (call first) → AddsCourse a b (at_bearer bearer x call)
at_bearer_adds bearer a b x first call first_is h =
    let there = subst (λ y. AddsCourse a b (call y)) first_is h in record { changes = there.changes; made = there.made }

-- ---- the bearer from which a pair is seen

near_bearer : (x : PairEnds) → (release_near x).pair.bearer ≡ x.bearer
near_bearer x = elim (is_clear x.far) as (λ b. (if b then record (rests (record x { near = option_map let_go x.near })) { states = let_go_frames x.near } else rests x).pair.bearer ≡ x.bearer) [ true ↦ refl | false ↦ refl ]

pub released_bearer : (x : PairEnds) → x.bearer ≡ 0 → (released x).pair.bearer ≡ 0
unfolding released going_on
released_bearer x first =
    let one = (release_near x).pair in
    ap other (near_bearer (turned one)) ∙ (ap (λ n. 1 - (1 - n)) (near_bearer x) ∙ ap (λ n. 1 - (1 - n)) first)
