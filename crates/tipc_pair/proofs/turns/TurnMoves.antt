-- What a turn tells of a pair is so, before it and after it.
use Rattle.std.proofs.Common.{◌≡◌, ℕ, Bool, true, false, List, [], Option, refl, sym, ◌∙◌, subst}
use Rattle.tipc_outside.specs.declared.outgoing.Outgoing.{Outgoing}
use Rattle.tipc_pair.specs.Courses.{going_on}
use Rattle.tipc_pair.specs.Facing.{PairEnds, facing}
use Rattle.tipc_pair.specs.PairCalls.{at_bearer}
use Rattle.tipc_pair.specs.PairTurns.{Happened, MakesNew, Opening, Outset, PairTurn, Reply, made_near}
use Rattle.tipc_pair.specs.PairTurns.Opening.{hears, makes, ticks}
use Rattle.tipc_pair.proofs.acts.Acting.{MayHappen, MayTurn, happened_ran, hears_may, opens_may, turn_changes, turn_course, turn_pair, turn_ran}
use Rattle.tipc_pair.specs.LinkReadings.{AreAbreast}
use Rattle.tipc_pair.proofs.turns.ArrivalMoves.{MadeNew, ran_runs}
use Rattle.tipc_pair.proofs.turns.Moves.{Goes, IsApt, Runs, Tells, abreast_apt, apt_abreast, goes_tells}

-- an end that is made tells nothing
pub made_changes : (bearer : ℕ) (is_mended : Bool) (x : PairEnds) → (at_bearer bearer x (made_near is_mended)).changes ≡ []
unfolding going_on
made_changes bearer true x = refl
made_changes bearer false x = refl

-- what happens first
may_happen : (x : PairEnds) (opening : Opening) → MakesNew x opening → MayHappen MadeNew x opening
may_happen x (makes bearer is_mended) new = (new, tt)
may_happen x (ticks shown) new = λ y. tt
may_happen x (hears bearer es er p by shown) new =
    record { hears = hears_may MadeNew p.header es er p by shown (facing bearer x) (λ number. tt) (λ y. tt) (λ y. tt); opens = opens_may MadeNew _ _ (λ y epoch. tt) (λ y t by'. tt) (λ y packets given. tt) }
may_happen x other new = tt

pub first_runs : (x : PairEnds) (opening : Opening) (o : Outset) → IsApt x → MakesNew x opening → Happened x opening o → Runs x o.course
first_runs x opening o h new is = ran_runs x o.course h (happened_ran MadeNew (λ y. tt) x opening o h.two (may_happen x opening new) is)

-- a pair after a turn
pub record TurnMoves (x y : PairEnds) (o : Outset) : Type 0 where
  pub tells : Tells x y o.course.changes
  pub abreast : AreAbreast y

pub turn_moves : (x y : PairEnds) (opening : Opening) (messages : List (List ℕ)) (reply : Option Reply) (frames : List Outgoing) → AreAbreast x → MakesNew x opening → (t : PairTurn x opening messages reply y frames)
    → TurnMoves x y t.first
turn_moves x y opening messages reply frames abreast new t =
    let apt = abreast_apt x abreast in
    let may : MayTurn MadeNew x opening messages reply = record { happens = may_happen x opening new; puts = λ i d within z up. tt; answers = λ r is z. tt } in
    let run = turn_ran MadeNew (λ z. tt) x y opening messages reply frames apt.two may t in
    let goes : Goes x y t.first.course.changes =
    subst (λ z. Goes x z t.first.course.changes) (sym (turn_pair x y opening messages reply frames t)) (subst (Goes x (turn_course t).pair) (turn_changes x y opening messages reply frames t) (ran_runs x (turn_course t) apt run)) in
    record { tells = goes_tells x y t.first.course.changes apt.two goes; abreast = apt_abreast y (goes.bearer ∙ abreast.first) goes.apt }
