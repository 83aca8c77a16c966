-- The link ends of a pair stay, whatever happens there, and none comes but the one that is made.
use Rattle.std.specs.Prelude.{if◌then◌else◌}
use Rattle.std.proofs.Common.{◌≡◌, ◌≢◌, ◌≤◌, ◌==◌, ◌∙◌, ℕ, zero, suc, true, false, List, Option, Some, None, option_map, is_some, refl, sym, ap, subst, arith}
use Rattle.std.proofs.lemmas.Bool.Decides.{nat_tests}
use Rattle.tipc_outside.specs.declared.outgoing.Outgoing.{Outgoing}
use Rattle.tipc_link.specs.Links.{LinkEnd}
use Rattle.tipc_pair.specs.Courses.{Course, going_on}
use Rattle.tipc_pair.specs.Facing.{PairEnds, facing, turned}
use Rattle.tipc_pair.specs.PairCalls.{at_bearer}
use Rattle.tipc_pair.specs.PairTurns.{Opening, PairTurn, Reply, made_near}
use Rattle.tipc_pair.specs.PairTurns.Opening.{hears, makes, ticks}
use Rattle.tipc_pair.proofs.Facings.{facing_back, facing_far, facing_near, facing_one}
use Rattle.tipc_pair.proofs.acts.Acts.{Act}
use Rattle.tipc_pair.proofs.acts.Acts.Act.{makes as making}
use Rattle.tipc_pair.proofs.acts.Acting.{MayHappen, MayTurn, hears_may, opens_may, ran_bearer, turn_course, turn_pair, turn_ran}
use Rattle.tipc_pair.proofs.acts.Walks.{Parts, walks_by_parts}
use Rattle.tipc_pair.proofs.turns.PairKept.{facing_bearer}
use Rattle.tipc_node.specs.Turns.{IsMaking}

-- ---- a turn in which no end is made

-- an act that makes no end
abbrev MakesNone : PairEnds → Act → Type 0
MakesNone x making = ⊥
MakesNone x other = Unit {0}

-- there is an end on each bearer just where there was one
record EndsStay (x : PairEnds) (c : Course) : Type 0 where
  near : is_some c.pair.near ≡ is_some x.near
  far : is_some c.pair.far ≡ is_some x.far

some_mapped : {A B : Type 0} (f : A → B) (o : Option A) → is_some (option_map f o) ≡ is_some o
some_mapped f None = refl
some_mapped f (Some a) = refl

near_stays : (x : PairEnds) (e : LinkEnd) (c : Course) → x.near ≡ Some e → is_some c.pair.near ≡ true → c.pair.far ≡ x.far → EndsStay x c
near_stays x e c near some far = record { near = some ∙ sym (ap is_some near); far = ap is_some far }

both_stay : (x : PairEnds) (e f : LinkEnd) (c : Course) → x.near ≡ Some e → x.far ≡ Some f → is_some c.pair.near ≡ true → is_some c.pair.far ≡ true → EndsStay x c
both_stay x e f c near far one two = record { near = one ∙ sym (ap is_some near); far = two ∙ sym (ap is_some far) }

staying : Parts MakesNone EndsStay
unfolding going_on
staying = record {
  rests = λ x. record { near = refl; far = refl };
  goes_on = λ x first step one two. record { near = two.near ∙ one.near; far = two.far ∙ one.far };
  turns = λ x c h. record { near = h.far; far = h.near };
  makes = λ x may. absurd may;
  mends = λ x e near. near_stays x e _ near refl refl;
  steps = λ x a e o e' states numbered epoch near may step. near_stays x e _ near refl refl;
  begins = λ x here down. record { near = refl; far = refl };
  ends = λ x contact shown. record { near = some_mapped _ x.near; far = some_mapped _ x.far };
  counts = λ x number may. record { near = refl; far = refl };
  forgets = λ x number may. record { near = some_mapped _ x.near; far = some_mapped _ x.far };
  hands_over = λ x near far lost s one two first second up. both_stay x near far _ one two refl refl;
  takes_over = λ x near far s old one two first second here up. both_stay x near far _ one two refl refl;
  lets_go = λ x e near may clear. near_stays x e _ near refl refl;
  carries = λ x e t by near may. near_stays x e _ near refl refl;
  opens = λ x packets given last may brings. record { near = refl; far = refl };
  puts = λ x e s pieces s' near may has is. near_stays x e _ near refl refl;
  answers = λ x e taken asks shown near may. near_stays x e _ near refl refl;
}

may_happen : (x : PairEnds) (opening : Opening) → (IsMaking opening → ⊥) → MayHappen MakesNone x opening
may_happen x (makes bearer is_mended) none = absurd (none tt)
may_happen x (ticks shown) none = λ y. tt
may_happen x (hears bearer es er p by shown) none = record {
  hears = hears_may MakesNone p.header es er p by shown (facing bearer x) (λ number. tt) (λ y. tt) (λ y. tt);
  opens = opens_may MakesNone _ _ (λ y epoch. tt) (λ y t by. tt) (λ y packets given. tt);
}
may_happen x other none = tt

-- so it is on each bearer
facing_stays : (bearer : ℕ) (x y : PairEnds) → y.bearer ≡ x.bearer → is_some y.near ≡ is_some x.near → is_some y.far ≡ is_some x.far → is_some (facing bearer y).near ≡ is_some (facing bearer x).near
unfolding facing
facing_stays bearer x y same near far =
    ap (λ b. is_some (if b == bearer then y else turned y).near) same
    ∙ elim (x.bearer == bearer) as (λ b. is_some (if b then y else turned y).near ≡ is_some (if b then x else turned x).near) [ true ↦ near | false ↦ far ]

pub turn_ends_stay : (bearer : ℕ) (x y : PairEnds) (opening : Opening) (messages : List (List ℕ)) (reply : Option Reply) (frames : List Outgoing) → x.bearer ≤ 1 → (IsMaking opening → ⊥)
    → PairTurn x opening messages reply y frames → is_some (facing bearer y).near ≡ is_some (facing bearer x).near
turn_ends_stay bearer x y opening messages reply frames two none t =
    let may : MayTurn MakesNone x opening messages reply = record { happens = may_happen x opening none; puts = λ i d within z up. tt; answers = λ r is z. tt } in
    let c = turn_course t in
    let run = turn_ran MakesNone (λ z. tt) x y opening messages reply frames two may t in
    let stay = walks_by_parts MakesNone EndsStay staying x c run in
    let is : y ≡ c.pair = turn_pair x y opening messages reply frames t in
    subst (λ (z : PairEnds). is_some (facing bearer z).near ≡ is_some (facing bearer x).near) (sym is) (facing_stays bearer x c.pair (ran_bearer MakesNone x c run two) stay.near stay.far)

-- ---- the end that is made

near_made : (y : PairEnds) → (is_some (made_near true y).pair.near ≡ true) × ((made_near true y).pair.far ≡ y.far) × ((made_near true y).pair.bearer ≡ y.bearer)
unfolding going_on
near_made y = (refl, refl, refl)

-- the pair with it, seen from its link
made_from : (bearer : ℕ) (x : PairEnds) → x.bearer ≡ 0 → (at_bearer bearer x (made_near true)).pair ≡ facing 0 (made_near true (facing bearer x)).pair
made_from bearer x first = ap (λ k. facing k (made_near true (facing bearer x)).pair) first

-- its bearer is the one on which it was made
made_bearer : (bearer : ℕ) (x : PairEnds) → x.bearer ≡ 0 → bearer ≤ 1 → (made_near true (facing bearer x)).pair.bearer ≡ bearer
made_bearer bearer x first one = (near_made (facing bearer x)).2 ∙ facing_bearer bearer x one (omega (arith, first))

-- there it is
pub made_there : (bearer : ℕ) (x : PairEnds) → x.bearer ≡ 0 → bearer ≤ 1 → is_some (facing bearer (at_bearer bearer x (made_near true)).pair).near ≡ true
made_there bearer x first one =
    let w = (made_near true (facing bearer x)).pair in
    let on : w.bearer ≡ bearer = made_bearer bearer x first one in
    let back : facing bearer (facing 0 w) ≡ w = subst (λ k. facing k (facing 0 w) ≡ w) on (facing_back 0 w (omega arith) (omega (arith, on, one))) in
    ap (λ z. is_some (facing bearer z).near) (made_from bearer x first) ∙ ap (λ (z : PairEnds). is_some z.near) back ∙ (near_made (facing bearer x)).0

-- and the one on the other bearer is as it was
pub made_other : (bearer k : ℕ) (x : PairEnds) → x.bearer ≡ 0 → bearer ≤ 1 → k ≤ 1 → k ≢ bearer → (facing k (at_bearer bearer x (made_near true)).pair).near ≡ (facing k x).near
made_other zero zero x first one two apart = absurd (apart refl)
made_other zero (suc zero) x first one two apart =
    let w = (made_near true (facing 0 x)).pair in
    let on : w.bearer ≡ 0 = made_bearer 0 x first one in
    ap (λ z. (facing 1 z).near) (made_from 0 x first ∙ facing_near 0 w on) ∙ facing_one w (omega (arith, on)) ∙ ap (λ (z : PairEnds). z.far) (facing_near 0 w on)
    ∙ (near_made (facing 0 x)).1 ∙ sym (facing_one x (omega (arith, first)))
made_other zero (suc (suc k)) x first one two apart = absurd (omega (arith, two))
made_other (suc zero) zero x first one two apart =
    let w = (made_near true (facing 1 x)).pair in
    let on : w.bearer ≡ 1 = made_bearer 1 x first one in
    let home : (facing 0 w).bearer ≡ 0 = facing_bearer 0 w (omega arith) (omega (arith, on)) in
    let far : (w.bearer == 0) ≡ false = grind (arith, nat_tests, on) in
    let one_far : (x.bearer == 1) ≡ false = grind (arith, nat_tests, first) in
    ap (λ z. (facing 0 z).near) (made_from 1 x first) ∙ ap (λ (z : PairEnds). z.near) (facing_near 0 (facing 0 w) home) ∙ ap (λ (z : PairEnds). z.near) (facing_far 0 w far)
    ∙ (near_made (facing 1 x)).1 ∙ ap (λ (z : PairEnds). z.far) (facing_far 1 x one_far) ∙ ap (λ (z : PairEnds). z.near) (sym (facing_near 0 x first))
made_other (suc zero) (suc zero) x first one two apart = absurd (apart refl)
made_other (suc zero) (suc (suc k)) x first one two apart = absurd (omega (arith, two))
made_other (suc (suc bearer)) k x first one two apart = absurd (omega (arith, one))
