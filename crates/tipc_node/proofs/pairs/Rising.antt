-- No contact number and no own epoch of a pair falls, whatever a turn does.
use Rattle.std.specs.Prelude.{◌==◌, if◌then◌else◌}
use Rattle.std.proofs.Common.{◌≡◌, ◌≤◌, ◌+◌, ◌∙◌, ℕ, zero, suc, Bool, true, false, List, Option, Some, None, option_map, refl, ap, arith}
use Rattle.tipc_types.specs.LinkStates.{is_up}
use Rattle.tipc_outside.specs.declared.outgoing.Outgoing.{Outgoing}
use Rattle.tipc_link_fsm.specs.Table.{Fsm, forget_peer, is_last, next_epoch, release}
use Rattle.tipc_link_fsm.proofs.Moves.{forget_peer_moves, release_moves}
use Rattle.tipc_link.specs.Links.{LinkEnd, answered_with, named_end, tunnelled_end}
use Rattle.tipc_link.specs.Sessions.{answered as said, with_broadcast}
use Rattle.tipc_link.proofs.Ends.{ended-is}
use Rattle.tipc_pair.specs.Changeovers.{forgetting, let_go, parted_end}
use Rattle.tipc_pair.specs.Courses.{Course, going_on, rests as nothing}
use Rattle.tipc_pair.specs.Facing.{PairEnds, facing, with_near}
use Rattle.tipc_pair.specs.PairArrivals.{inside_of}
use Rattle.tipc_pair.specs.PairTurns.{MakesNew, Opening, PairTurn, Reply}
use Rattle.tipc_pair.specs.PairTurns.Opening.{hears, makes, ticks}
use Rattle.tipc_pair.proofs.Facings.{facing_near, facing_one}
use Rattle.tipc_pair.proofs.acts.Acts.{Act}
use Rattle.tipc_pair.proofs.acts.Acts.Act.{makes as making}
use Rattle.tipc_pair.proofs.acts.Acting.{MayHappen, MayTurn, hears_may, opens_may, turn_course, turn_pair, turn_ran}
use Rattle.tipc_pair.proofs.acts.Walks.{Parts, step_moves, tested, walks_by_parts}
use Rattle.tipc_pair.proofs.turns.ArrivalMoves.{MadeNew}
use Rattle.tipc_pair.proofs.turns.EndEpochs.{moves_rise}
use Rattle.tipc_node.specs.Numbers.{NeverFalls, own_epoch, own_epoch_on}

-- ---- a course

-- By a course no number falls, and the pair is seen from the same link.
pub record Rises (x : PairEnds) (c : Course) : Type 0 where
  pub bearer : x.bearer ≤ 1 → c.pair.bearer ≡ x.bearer
  pub contact : x.contact ≤ c.pair.contact
  pub near : own_epoch x.near ≤ own_epoch c.pair.near
  pub far : own_epoch x.far ≤ own_epoch c.pair.far

pub next_higher : (own : ℕ) → own ≤ next_epoch own
next_higher own = elim (is_last own) as (λ b. own ≤ (if b then own else own + 1)) [ true ↦ omega arith | false ↦ omega arith ]

-- where nothing but what is said of the ends is new
stay : (x : PairEnds) (c : Course) → c.pair.bearer ≡ x.bearer → c.pair.contact ≡ x.contact → own_epoch x.near ≤ own_epoch c.pair.near → own_epoch x.far ≤ own_epoch c.pair.far → Rises x c
stay x c bearer contact near far = record { bearer = λ two. bearer; contact = omega (arith, contact); near = near; far = far }

no_lower : (a b : ℕ) → a ≡ b → a ≤ b
no_lower a b same = omega (arith, same)

-- an end in the place of this one
at_least : (o : Option LinkEnd) (e : LinkEnd) (own : ℕ) → o ≡ Some e → e.fsm.own ≤ own → own_epoch o ≤ own
at_least o e own is low = let same : own_epoch o ≡ e.fsm.own = ap own_epoch is in omega (arith, same, low)

-- one near end in the place of another, and nothing else
near_rises : (x : PairEnds) (e e' : LinkEnd) → x.near ≡ Some e → e.fsm.own ≤ e'.fsm.own → Rises x (nothing (with_near x e'))
near_rises x e e' near low = stay x (nothing (with_near x e')) refl refl (at_least x.near e e'.fsm.own near low) (no_lower _ _ refl)

parted_rises : (contact seen : ℕ) (o : Option LinkEnd) → own_epoch o ≤ own_epoch (option_map (parted_end contact seen) o)
parted_rises contact seen None = omega arith
parted_rises contact seen (Some e) =
    let same : (parted_end contact seen e).fsm.own ≡ next_epoch e.fsm.own = ap (λ (f : Fsm). f.own) (ended-is e.fsm) in
    let higher = next_higher e.fsm.own in
    omega (arith, same, higher)

forgets_rises : (seen : ℕ) (o : Option LinkEnd) → own_epoch o ≤ own_epoch (option_map (forgetting seen) o)
forgets_rises seen None = omega arith
forgets_rises seen (Some e) = moves_rise e.fsm None (forget_peer e.fsm) (forget_peer_moves e.fsm None)

answered_same : (e : LinkEnd) (taken : ℕ) (asks : Bool) → e.fsm.own ≤ (answered_with e taken asks).fsm.own
answered_same e taken asks =
    tested (λ (d : LinkEnd). e.fsm.own ≤ d.fsm.own) (is_up e.fsm.state) (record e { session = option_map (λ s. said (with_broadcast s taken asks)) e.session }) e
    (λ up. no_lower _ _ refl) (λ down. no_lower _ _ refl)

-- where an end is made only in a place that has none
pub rising : (A : PairEnds → Act → Type 0) → ((x : PairEnds) → A x making → x.near ≡ None) → Parts A Rises
unfolding going_on
rising A new = record {
  rests = λ x. stay x (nothing x) refl refl (no_lower _ _ refl) (no_lower _ _ refl);
  goes_on = λ x first step one two. record {
    bearer = λ on. (let here = one.bearer on in two.bearer (omega (arith, here, on)) ∙ here);
    contact = (let a = one.contact in let b = two.contact in omega (arith, a, b));
    near = (let a = one.near in let b = two.near in omega (arith, a, b));
    far = (let a = one.far in let b = two.far in omega (arith, a, b));
  };
  turns = λ x c h. record {
    bearer = λ on. (let there = h.bearer (omega arith) in omega (arith, there, on));
    contact = h.contact;
    near = h.far;
    far = h.near;
  };
  makes = λ x may. (
      let none : own_epoch x.near ≡ 0 = ap own_epoch (new x may) in
      stay x _ refl refl (omega (arith, none)) (no_lower _ _ refl));
  mends = λ x e near. stay x _ refl refl (at_least x.near e e.fsm.own near (no_lower _ _ refl)) (no_lower _ _ refl);
  steps = λ x a e o e' states numbered epoch near may step. (
      let m = step_moves x a e o e' states numbered epoch step in
      let low = moves_rise e.fsm m.shown o m.moves in
      let same : e'.fsm.own ≡ o.after.own = ap (λ (f : Fsm). f.own) m.fsm in
      stay x _ refl refl (at_least x.near e e'.fsm.own near (omega (arith, low, same))) (no_lower _ _ refl));
  begins = λ x here down. stay x _ refl refl (no_lower _ _ refl) (no_lower _ _ refl);
  ends = λ x contact shown. record { bearer = λ on. refl; contact = omega arith; near = parted_rises (x.contact + 1) x.seen x.near; far = parted_rises (x.contact + 1) x.seen x.far };
  counts = λ x number may. stay x _ refl refl (no_lower _ _ refl) (no_lower _ _ refl);
  forgets = λ x number may. stay x _ refl refl (forgets_rises number x.near) (forgets_rises number x.far);
  hands_over = λ x near far lost s one two first second up. stay x _ refl refl (at_least x.near near near.fsm.own one (no_lower _ _ refl)) (at_least x.far far far.fsm.own two (no_lower _ _ refl));
  takes_over = λ x near far s old one two first second here up. stay x _ refl refl (at_least x.near near near.fsm.own one (no_lower _ _ refl)) (at_least x.far far far.fsm.own two (no_lower _ _ refl));
  lets_go = λ x e near may clear. stay x _ refl refl (at_least x.near e (let_go e).fsm.own near (moves_rise e.fsm None (release e.fsm) (release_moves e.fsm None))) (no_lower _ _ refl);
  carries = λ x e t by near may.
      tested (λ (d : LinkEnd). Rises x (nothing (with_near x d))) (t.count == 0) (named_end e t.old.epoch) (tunnelled_end e t.old.epoch (inside_of t by))
      (λ none. near_rises x e (named_end e t.old.epoch) near (no_lower _ _ refl)) (λ some. near_rises x e (tunnelled_end e t.old.epoch (inside_of t by)) near (no_lower _ _ refl));
  opens = λ x packets given last may brings. stay x _ refl refl (no_lower _ _ refl) (no_lower _ _ refl);
  puts = λ x e s pieces s' near may has is. stay x _ refl refl (at_least x.near e e.fsm.own near (no_lower _ _ refl)) (no_lower _ _ refl);
  answers = λ x e taken asks shown near may. stay x _ refl refl (at_least x.near e (answered_with e taken asks).fsm.own near (answered_same e taken asks)) (no_lower _ _ refl);
}

-- ---- a turn

may_first : (x : PairEnds) (opening : Opening) → MakesNew x opening → MayHappen MadeNew x opening
may_first x (makes bearer is_mended) new = (new, tt)
may_first x (ticks shown) new = λ y. tt
may_first x (hears bearer es er p by shown) new = record {
  hears = hears_may MadeNew p.header es er p by shown (facing bearer x) (λ number. tt) (λ y. tt) (λ y. tt);
  opens = opens_may MadeNew _ _ (λ y epoch. tt) (λ y t by'. tt) (λ y packets given. tt);
}
may_first x other new = tt

pub first_on : (x : PairEnds) → x.bearer ≡ 0 → own_epoch_on x 0 ≡ own_epoch x.near
first_on x first = ap (λ (y : PairEnds). own_epoch y.near) (facing_near 0 x first)

pub second_on : (x : PairEnds) → x.bearer ≡ 0 → own_epoch_on x 1 ≡ own_epoch x.far
second_on x first = ap own_epoch (facing_one x (omega (arith, first)) ∙ ap (λ (y : PairEnds). y.far) (facing_near 0 x first))

-- seen from bearer 0's link before and after
falls_none : (x y : PairEnds) → x.bearer ≡ 0 → y.bearer ≡ 0 → x.contact ≤ y.contact → own_epoch x.near ≤ own_epoch y.near → own_epoch x.far ≤ own_epoch y.far → NeverFalls x y
falls_none x y first again contact near far = record { contact = contact; epochs = by }
  where
    by : (bearer : ℕ) → bearer ≤ 1 → own_epoch_on x bearer ≤ own_epoch_on y bearer
    by zero one = let a = first_on x first in let b = first_on y again in omega (arith, a, b, near)
    by (suc zero) one = let a = second_on x first in let b = second_on y again in omega (arith, a, b, far)
    by (suc (suc k)) one = absurd (omega (arith, one))

pub turn_rises : (x y : PairEnds) (opening : Opening) (messages : List (List ℕ)) (reply : Option Reply) (frames : List Outgoing) → x.bearer ≡ 0 → y.bearer ≡ 0 → MakesNew x opening
    → PairTurn x opening messages reply y frames → NeverFalls x y
turn_rises x y opening messages reply frames first again new t =
    let may : MayTurn MadeNew x opening messages reply = record { happens = may_first x opening new; puts = λ i d within z up. tt; answers = λ r is z. tt } in
    let run = turn_ran MadeNew (λ z. tt) x y opening messages reply frames (omega (arith, first)) may t in
    let c = turn_course t in
    let h = walks_by_parts MadeNew Rises (rising MadeNew (λ z none. none)) x c run in
    let same = turn_pair x y opening messages reply frames t in
    let contact : y.contact ≡ c.pair.contact = ap (λ (z : PairEnds). z.contact) same in
    let near : own_epoch y.near ≡ own_epoch c.pair.near = ap (λ (z : PairEnds). own_epoch z.near) same in
    let far : own_epoch y.far ≡ own_epoch c.pair.far = ap (λ (z : PairEnds). own_epoch z.far) same in
    let contacts = h.contact in
    let nears = h.near in
    let fars = h.far in
    falls_none x y first again (omega (arith, contact, contacts)) (omega (arith, near, nears)) (omega (arith, far, fars))
