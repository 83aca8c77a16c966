-- What the rule of the stamps says of the numbers that were drawn.
use Rattle.std.proofs.Common.{◌≡◌, ◌≢◌, ℕ, zero, suc, ◌<◌, ◌≤◌, ◌==◌, cond, List, [], ◌∷◌, length, Contains, sym, refl, subst, ◌∙◌, arith}
use Rattle.std.specs.Prelude.{slice_index}
use Rattle.std.proofs.lemmas.List.{get_or_default}
use Rattle.std.specs.List.{AllPairs}
use Rattle.std.proofs.lemmas.Bool.Decides.{nat_tests}
use Rattle.tipc_stamp.specs.declared.rule.Drawn.{Drawn}
use Rattle.tipc_stamp.specs.Given.{knows, times}
use Rattle.tipc_stamp.specs.Laws.{AllAreDrawn, AreBelow, AreDrawnOnce, AreOfOneSeat}
use Rattle.tipc_stamp.proofs.Counting.{once_for, once_most, sum_has, sum_has_two, sum_some, there, times_cons, times_has, times_self}
use Rattle.tipc_stamp.proofs.Keeping.{ahead}

pub are_below : AreBelow
are_below s given id v at = (ahead s given id v at).0

distinct : (ys : List ℕ) → ((x : ℕ) → times x ys ≤ 1) → AllPairs (λ x y. x ≢ y) ys
distinct [] most i j d before within is = absurd (omega (arith, within))
distinct (y ∷ ys) most zero zero d before within is = absurd (omega (arith, before))
distinct (y ∷ ys) most zero (suc j) d before within is =
    let inside : j < length ys = omega (arith, within) in
    let again = times_has y ys (j, inside, get_or_default ys j y d inside ∙ sym is) in
    let all = times_cons y y ys in
    let self = times_self y in
    let one = most y in
    omega (arith, again, all, self, one)
distinct (y ∷ ys) most (suc i) zero d before within is = absurd (omega (arith, before))
distinct (y ∷ ys) most (suc i) (suc j) d before within is =
    distinct ys (λ x. let all = times_cons x y ys in let one = most x in omega (arith, all, one)) i j d (omega (arith, before)) (omega (arith, within)) is

pub are_drawn_once : AreDrawnOnce
are_drawn_once s given id v at =
    distinct v.drawn (λ x. let has = sum_has (λ (u : Drawn). times x u.drawn) s.views id v at in let one = given.each x in let most = once_most x (slice_index s.words 0) in omega (arith, has, one, most))

pub are_of_one_seat : AreOfOneSeat
are_of_one_seat s given id other v w at at' apart x has has' =
    let both = sum_has_two (λ (u : Drawn). times x u.drawn) (knows [] 0 0) refl s.views id other v w at at' apart in
    let first = times_has x v.drawn has in
    let second = times_has x w.drawn has' in
    let one = given.each x in
    let most = once_most x (slice_index s.words 0) in
    omega (arith, both, first, second, one, most)

is_same : (x y : ℕ) → 0 < cond (y == x) 1 0 → y ≡ x
is_same x y more = grind (arith, nat_tests)

times_some : (x : ℕ) (ys : List ℕ) → 0 < times x ys → Contains ys x
times_some x ys more =
    let found = sum_some (λ (y : ℕ). cond (y == x) 1 0) ys more in
    let is = is_same x found.1 found.3 in
    let t = there ys found.0 found.1 found.2 in
    subst (λ (y : ℕ). Contains ys y) is (found.0, t.0, t.1)

pub all_are_drawn : AllAreDrawn
all_are_drawn s given x less =
    let one = given.each x in
    let once = once_for x _ less in
    let found = sum_some (λ (u : Drawn). times x u.drawn) s.views (omega (arith, one, once)) in
    (found.0, found.1, found.2, times_some x found.1.drawn found.3)
