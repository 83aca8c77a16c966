-- What each event of a call that settles keeps, its parts, its rounds and the whole call keep.
use Rattle.std.proofs.Common.{◌≡◌, ◌≤◌, ◌*◌, ℕ, Bool, true, false, Ok, if◌then◌else◌, length, sym, subst, arith}
use Rattle.std.specs.Prelude.{◌==◌, ◌/◌}
use Rattle.tipc_world.specs.declared.places.Places.{Places}
use Rattle.tipc_world.specs.declared.settling.Receivers.TheVariants.{Any}
use Rattle.tipc_world.specs.Courses.{Goes, numbers}
use Rattle.tipc_world.specs.Ends.{ends_of, place_on, AreBefore}
use Rattle.tipc_world.specs.RoundParts.{GoesByRounds, IsRound, RoundStep, SettlesOn}
use Rattle.tipc_world.specs.Settling.{Round, Rounds, arrival_asked, tick_asked}
use Rattle.tipc_world.specs.States.{WorldState}
use Rattle.tipc_world.proofs.Continuing.{before_longer}
use Rattle.tipc_world.proofs.rounds.Events.{arrive_step, tick_step}
use Rattle.tipc_world.proofs.rounds.Keeping.{settles_more, settles_same, step_on}
use Rattle.tipc_world.proofs.rounds.Parts.{goes_keep, goes_whole, takes_whole}
use Rattle.tipc_world.proofs.rounds.RoundParts.{round_parts, rounds_keep, rounds_whole}

-- What one event keeps, behind the begin of a call: it may rest on all that goes on from there, and from its own begin.
abbrev pub StepKeeps : WorldState → Places → (WorldState → Type 0) → Type 0
StepKeeps start from K = (old new : WorldState) → SettlesOn start old → SettlesOn old new → RoundStep from old new → K old → K new

-- a world goes on from the begin of a call, and has this property
pub record Stands (start : WorldState) (K : WorldState → Type 0) (w : WorldState) : Type 0 where
  pub on : SettlesOn start w
  pub has : K w

next_stands : (start : WorldState) (from : Places) (K : WorldState → Type 0) (old new : WorldState) → StepKeeps start from K → old.lost ≡ false → RoundStep from old new → Stands start K old → Stands start K new
next_stands start from K old new each clear step h =
    let next = step_on from old new clear step in
    record { on = settles_more start old new h.on next; has = each old new h.on next step h.has }

-- ---- the parts of a round

ticks_on : (call : WorldState) (from : Places) (K : WorldState → Type 0) (first : ℕ) (start : WorldState) (end count : ℕ) (now : WorldState) → StepKeeps call from K → Goes tick_asked first start end count now → now.lost ≡ false
    → Stands call K start → Stands call K now
ticks_on call from K first start end count now each goes whole h = goes_keep tick_asked (λ number. Stands call K) first start end count now
    (λ number before made after above below taken clear. next_stands call from K before after each (takes_whole tick_asked number before made after taken clear) (tick_step from number before made after taken clear)) goes whole h

arrivals_on : (call : WorldState) (from : Places) (K : WorldState → Type 0) (bearer place : ℕ) (start : WorldState) (end count : ℕ) (now : WorldState) → bearer ≤ 1 → place_on bearer from ≤ place → StepKeeps call from K
    → Goes (arrival_asked Any bearer) (numbers * place) start end count now → now.lost ≡ false → Stands call K start → Stands call K now
arrivals_on call from K bearer place start end count now on_one behind each goes whole h = goes_keep (arrival_asked Any bearer) (λ number. Stands call K) (numbers * place) start end count now
    (λ number before made after above below taken clear.
    next_stands call from K before after each (takes_whole (arrival_asked Any bearer) number before made after taken clear)
    (arrive_step from bearer number before made after on_one (let at : place ≤ number / numbers = omega (arith, above) in omega (arith, behind, at)) taken clear)) goes whole h

-- the ticks from a number on and before another
pub ticks_keep : (K : WorldState → Type 0) (from : Places) (first : ℕ) (start : WorldState) (end count : ℕ) (now : WorldState) → StepKeeps start from K → Goes tick_asked first start end count now → now.lost ≡ false → K start
    → Stands start K now
ticks_keep K from first start end count now each goes whole h =
    ticks_on start from K first start end count now each goes whole (record { on = settles_same start (goes_whole tick_asked first start end count now goes whole); has = h })

-- the arrivals on a bearer from a place on and before a number
pub arrivals_keep : (K : WorldState → Type 0) (from : Places) (bearer place : ℕ) (start : WorldState) (end count : ℕ) (now : WorldState) → bearer ≤ 1 → place_on bearer from ≤ place → StepKeeps start from K
    → Goes (arrival_asked Any bearer) (numbers * place) start end count now → now.lost ≡ false → K start → Stands start K now
arrivals_keep K from bearer place start end count now on_one behind each goes whole h =
    arrivals_on start from K bearer place start end count now on_one behind each goes whole
    (record { on = settles_same start (goes_whole (arrival_asked Any bearer) (numbers * place) start end count now goes whole); has = h })

-- a world goes on through the ticks from a number on and before another
pub ticks_go_on : (first : ℕ) (start : WorldState) (end count : ℕ) (now : WorldState) → Goes tick_asked first start end count now → now.lost ≡ false → SettlesOn start now
ticks_go_on first start end count now goes whole =
    (ticks_keep (λ w. Unit {0}) (record { first = 0; second = 0 }) first start end count now (λ old new on next step kept. tt) goes whole tt).on

-- the same place on both bearers
each_place : (place bearer : ℕ) → place_on bearer (record { first = place; second = place }) ≤ place
each_place place bearer = by (bearer == 0)
  where
    by : (t : Bool) → (if t then place else place) ≤ place
    by true = omega arith
    by false = omega arith

-- and through the arrivals on a bearer
pub arrivals_go_on : (bearer place : ℕ) (start : WorldState) (end count : ℕ) (now : WorldState) → bearer ≤ 1 → Goes (arrival_asked Any bearer) (numbers * place) start end count now → now.lost ≡ false → SettlesOn start now
arrivals_go_on bearer place start end count now on_one goes whole =
    (arrivals_keep (λ w. Unit {0}) (record { first = place; second = place }) bearer place start end count now on_one (each_place place bearer) (λ old new on next step kept. tt) goes whole tt).on

-- ---- rounds

-- after the ticks of a round, and after the round
record AfterRound (call : WorldState) (K : WorldState → Type 0) (ticked now : WorldState) : Type 0 where
  ticks : Stands call K ticked
  round : Stands call K now

round_on : (call : WorldState) (from : Places) (K : WorldState → Type 0) (places : Places) (start : WorldState) (ends : Places) (now : WorldState) → StepKeeps call from K → AreBefore from places → (r : IsRound places start ends now)
    → now.lost ≡ false → Stands call K start → AfterRound call K r.ticked now
round_on call from K places start ends now each behind r whole h =
    let clear_between = goes_whole _ _ r.between _ _ now r.second_part whole in
    let clear_ticked = goes_whole _ _ r.ticked _ _ r.between r.first_part clear_between in
    let ticked = ticks_on call from K 1 start numbers r.ticks r.ticked each r.tick_part clear_ticked h in
    let between = arrivals_on call from K 0 places.first r.ticked (numbers * length r.ticked.air.first) r.arrivals r.between (omega arith) behind.0 each r.first_part clear_between ticked in
    let after = arrivals_on call from K 1 places.second r.between (numbers * length r.ticked.air.second) r.others now (omega arith) behind.1 each r.second_part whole between in
    record { ticks = ticked; round = after }

-- So far in a call that settles: the world goes on, and the places from which frames arrive in the next round aren't
-- before the ends of the air at the begin of the call, nor behind those of now.
record SoFar (start : WorldState) (K : WorldState → Type 0) (places : Places) (w : WorldState) : Type 0 where
  stands : Stands start K w
  behind : AreBefore (ends_of start.air) places
  within : AreBefore places (ends_of w.air)

same_places : (places : Places) → AreBefore places places
same_places places = (omega arith, omega arith)

-- the ends of the air after the ticks of a round aren't behind those after the round
ends_within : (places : Places) (before : WorldState) (ends : Places) (after : WorldState) (r : IsRound places before ends after) → after.lost ≡ false → AreBefore ends (ends_of after.air)
ends_within places before ends after r whole =
    let between = arrivals_go_on 0 places.first r.ticked _ r.arrivals r.between (omega arith) r.first_part (goes_whole _ _ r.between _ _ after r.second_part whole) in
    let now = arrivals_go_on 1 places.second r.between _ r.others after (omega arith) r.second_part whole in
    subst (λ k. AreBefore k (ends_of after.air)) (sym r.ends_are)
    (before_longer (ends_of r.ticked.air) r.between after now.grown (before_longer (ends_of r.ticked.air) r.ticked r.between between.grown (same_places (ends_of r.ticked.air))))

one_round : (start : WorldState) (K : WorldState → Type 0) (places : Places) (before : WorldState) (ends : Places) (after : WorldState) → StepKeeps start (ends_of start.air) K → Round places before (Ok ends) after → after.lost ≡ false
    → SoFar start K places before → SoFar start K ends after
one_round start K places before ends after each round whole h =
    let r = round_parts places before ends after round in
    let done = round_on start (ends_of start.air) K places before ends after each h.behind r whole h.stands in
    let grown = done.ticks.on.grown in
    record {
      stands = done.round;
      behind = subst (AreBefore (ends_of start.air)) (sym r.ends_are) (before_longer (ends_of start.air) start r.ticked grown (same_places (ends_of start.air)));
      within = ends_within places before ends after r whole;
    }

so_far : (K : WorldState → Type 0) (start : WorldState) (rounds : ℕ) (places : Places) (now : WorldState) → StepKeeps start (ends_of start.air) K → Rounds start rounds places now → now.lost ≡ false → K start → SoFar start K places now
so_far K start rounds places now each made whole h = rounds_keep (λ done. SoFar start K) start rounds places now
    (λ done at before ends after fewer front round clear. one_round start K at before ends after each round clear) made whole
    (record {
      stands = record { on = settles_same start (rounds_whole start rounds places now made whole); has = h };
      behind = same_places (ends_of start.air);
      within = same_places (ends_of start.air);
    })

-- a world goes on by rounds
pub settling_goes_on : (start : WorldState) (rounds : ℕ) (places : Places) (now : WorldState) → Rounds start rounds places now → now.lost ≡ false → GoesByRounds start places now
settling_goes_on start rounds places now made whole =
    let all = so_far (λ w. Unit {0}) start rounds places now (λ old new on next step kept. tt) made whole tt in
    record { on = all.stands.on; behind = all.behind; within = all.within }
