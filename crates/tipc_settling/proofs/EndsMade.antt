-- A link end that was made stays made, in each event of its node.
use Rattle.std.specs.Prelude.{◌==◌, if◌then◌else◌}
use Rattle.std.proofs.Common.{◌≡◌, ◌≤◌, ◌∙◌, ℕ, true, false, List, Option, Some, None, option_map, is_some, map, refl, sym, ap, subst, arith}
use Rattle.tipc_outside.specs.declared.outgoing.Outgoing.{Outgoing}
use Rattle.tipc_journal.specs.Steps.{NodeStep}
use Rattle.tipc_link.specs.Links.{LinkEnd}
use Rattle.tipc_pair.specs.Courses.{Course, going_on}
use Rattle.tipc_pair.specs.Facing.{PairEnds, facing, turned}
use Rattle.tipc_pair.specs.PairTurns.{Opening, PairTurn, Reply}
use Rattle.tipc_pair.specs.PairTurns.Opening.{cuts, hears, makes, mends, rests, ticks}
use Rattle.tipc_pair.proofs.acts.Acts.{Act}
use Rattle.tipc_pair.proofs.acts.Acting.{MayHappen, MayTurn, hears_may, opens_may, ran_bearer, turn_course, turn_pair, turn_ran}
use Rattle.tipc_pair.proofs.acts.Walks.{Parts, walks_by_parts}
use Rattle.tipc_node.specs.Messages.{bytes_of}
use Rattle.tipc_node.specs.Nodes.{NodeState, pair_with}
use Rattle.tipc_node.specs.Telling.{IsTold}
use Rattle.tipc_node.specs.Turns.{NodeTurn}
use Rattle.tipc_node.proofs.pairs.Strangers.{kept_abreast}
use Rattle.tipc_settling.specs.Rises.{EventsKeepEnds}

-- any act
abbrev Any : PairEnds → Act → Type 0
Any x a = Unit {0}

-- there is an end on each bearer where there was one
record EndsLast (x : PairEnds) (c : Course) : Type 0 where
  near : is_some x.near ≡ true → is_some c.pair.near ≡ true
  far : is_some x.far ≡ true → is_some c.pair.far ≡ true

some_mapped : {A B : Type 0} (f : A → B) (o : Option A) → is_some o ≡ true → is_some (option_map f o) ≡ true
some_mapped f None there = there
some_mapped f (Some a) there = refl

lasting : Parts Any EndsLast
unfolding going_on
lasting = record {
  rests = λ x. record { near = λ there. there; far = λ there. there };
  goes_on = λ x first step one two. record { near = λ there. two.near (one.near there); far = λ there. two.far (one.far there) };
  turns = λ x c h. record { near = h.far; far = h.near };
  makes = λ x may. record { near = λ there. refl; far = λ there. there };
  mends = λ x e near. record { near = λ there. refl; far = λ there. there };
  steps = λ x a e o e' states numbered epoch near may step. record { near = λ there. refl; far = λ there. there };
  begins = λ x here down. record { near = λ there. there; far = λ there. there };
  ends = λ x contact shown. record { near = some_mapped _ x.near; far = some_mapped _ x.far };
  counts = λ x number may. record { near = λ there. there; far = λ there. there };
  forgets = λ x number may. record { near = some_mapped _ x.near; far = some_mapped _ x.far };
  hands_over = λ x near far lost s one two first second up. record { near = λ there. refl; far = λ there. refl };
  takes_over = λ x near far s old one two first second here up. record { near = λ there. refl; far = λ there. refl };
  lets_go = λ x e near may clear. record { near = λ there. refl; far = λ there. there };
  carries = λ x e t by near may. record { near = λ there. refl; far = λ there. there };
  opens = λ x packets given last may brings. record { near = λ there. there; far = λ there. there };
  puts = λ x e s pieces s' near may has is. record { near = λ there. refl; far = λ there. there };
  answers = λ x e taken asks shown near may. record { near = λ there. refl; far = λ there. there };
}

may_happen : (x : PairEnds) (opening : Opening) → MayHappen Any x opening
may_happen x (makes bearer is_mended) = (tt, tt)
may_happen x (ticks shown) = λ y. tt
may_happen x (hears bearer es er p by shown) = record {
  hears = hears_may Any p.header es er p by shown (facing bearer x) (λ number. tt) (λ y. tt) (λ y. tt);
  opens = opens_may Any _ _ (λ y epoch. tt) (λ y t by. tt) (λ y packets given. tt);
}
may_happen x rests = tt
may_happen x (mends bearer) = tt
may_happen x (cuts bearer) = tt

-- so it is on each bearer
facing_lasts : (bearer : ℕ) (x y : PairEnds) → y.bearer ≡ x.bearer → (is_some x.near ≡ true → is_some y.near ≡ true) → (is_some x.far ≡ true → is_some y.far ≡ true) → is_some (facing bearer x).near ≡ true → is_some (facing bearer y).near ≡ true
unfolding facing
facing_lasts bearer x y same near far there =
    ap (λ b. is_some (if b == bearer then y else turned y).near) same
    ∙ (elim (x.bearer == bearer) as (λ b. is_some (if b then x else turned x).near ≡ true → is_some (if b then y else turned y).near ≡ true) [ true ↦ near | false ↦ far ]) there

pub turn_keeps_ends : (bearer : ℕ) (x y : PairEnds) (opening : Opening) (messages : List (List ℕ)) (reply : Option Reply) (frames : List Outgoing) → x.bearer ≤ 1 → PairTurn x opening messages reply y frames
    → is_some (facing bearer x).near ≡ true → is_some (facing bearer y).near ≡ true
turn_keeps_ends bearer x y opening messages reply frames two t there =
    let may : MayTurn Any x opening messages reply = record { happens = may_happen x opening; puts = λ i d within z up. tt; answers = λ r is z. tt } in
    let c = turn_course t in
    let run = turn_ran Any (λ z. tt) x y opening messages reply frames two may t in
    let last = walks_by_parts Any EndsLast lasting x c run in
    let is : y ≡ c.pair = turn_pair x y opening messages reply frames t in
    subst (λ (z : PairEnds). is_some (facing bearer z).near ≡ true) (sym is) (facing_lasts bearer x c.pair (ran_bearer Any x c run two) last.near last.far there)

pub events_keep_ends : EventsKeepEnds
events_keep_ends n n' bytes s frames b bearer told turn there =
    let at = turn.turns b in
    let first = (kept_abreast n b told).first in
    turn_keeps_ends bearer (pair_with n b) (pair_with n' b) at.opening (map (bytes_of n.own) at.messages) at.reply at.own_frames (omega (arith, first)) at.turn there
