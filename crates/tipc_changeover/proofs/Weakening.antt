-- Weaker rules mislead.
use Rattle.std.proofs.Common.{◌≡◌, ◌≢◌, [], ◌∷◌, ◌++◌, refl, sym, ap, ◌∙◌, arith}
use Rattle.tipc_changeover.specs.Slots.{at, counted, or_marker, plains, tunnelled}
use Rattle.tipc_changeover.specs.Links.{First, Held, Reset, Second, State, Up}
use Rattle.tipc_changeover.specs.Events.{extended, session_told}
use Rattle.tipc_changeover.specs.Reached.{at_begin, begun, IsFront}
use Rattle.tipc_changeover.specs.Stories.{told_from, MayTell}
use Rattle.tipc_changeover.specs.Weaker.{deferred, failed_waiting_first, failed_without_run, next_behind, next_on_first, next_on_second, nothing_given_back, one_carried, one_given_over, one_in_flight, one_on_second, one_taken, one_waits, recorded_anew, released_early, switched_without_run, taken_again, waiting_overtakes, Misleads}
use Rattle.tipc_changeover.proofs.Telling.{reach}

-- ---- no fronts

second_first : (s : State) → s.put ≡ 2 → s.delivered ≡ 2 ∷ [] → IsFront s → ⊥
unfolding counted
second_first s put delivered h =
    let both : 1 ∷ 2 ∷ [] ≡ 2 ∷ h.rest = ap (λ n. counted 0 n) (sym put) ∙ (h.front ∙ ap (λ is. is ++ h.rest) delivered) in
    let wrong : ⊥ = cc in wrong

first_twice : (s : State) → s.put ≡ 1 → s.delivered ≡ 1 ∷ 1 ∷ [] → IsFront s → ⊥
unfolding counted
first_twice s put delivered h =
    let both : 1 ∷ [] ≡ 1 ∷ 1 ∷ h.rest = ap (λ n. counted 0 n) (sym put) ∙ (h.front ∙ ap (λ is. is ++ h.rest) delivered) in
    let wrong : ⊥ = cc in wrong

-- ---- the stories may be told

up_first : First ≡ First → Reset ≢ Up
up_first e up = cc

up_second : {A : Type 0} → Second ≡ First → A
up_second e = absurd (let wrong : ⊥ = cc in wrong)

not_held : {A : Type 0} → Up ≡ Held → A
not_held e = absurd (let wrong : ⊥ = cc in wrong)

in_flight_may : MayTell begun one_in_flight
unfolding at extended
in_flight_may = ((refl, up_first), (refl, ((refl, refl, omega arith), ((refl, λ e. up_second e), tt))))

waits_may : MayTell begun one_waits
unfolding at extended
waits_may = ((refl, up_first), (refl, ((refl, refl, omega arith), ((refl, λ e. up_second e), (refl, tt)))))

carried_may : MayTell begun one_carried
unfolding at extended tunnelled or_marker plains
carried_may = ((refl, up_first), (refl, ((refl, refl, omega arith), ((refl, λ e. up_second e), ((refl, refl), ((refl, refl, omega arith), ((omega arith, omega arith, λ e. not_held e), tt)))))))

on_second_may : MayTell begun one_on_second
unfolding at extended
on_second_may = ((refl, λ e. up_second e), (refl, ((refl, refl, omega arith), tt)))

given_over_may : MayTell begun one_given_over
unfolding at extended tunnelled or_marker plains
given_over_may = ((refl, λ e. up_second e), (refl, ((refl, refl, omega arith), ((refl, refl, refl), ((refl, refl), tt)))))

taken_may : MayTell begun one_taken
unfolding at extended
taken_may = ((refl, up_first), (refl, ((refl, refl, omega arith), ((refl, λ e. up_second e), ((omega arith, omega arith, λ e. not_held e), (refl, tt))))))

-- ---- and they mislead

pub early_release : Misleads (told_from begun one_given_over) (released_early (told_from begun one_given_over)) nothing_given_back
unfolding at extended session_told tunnelled or_marker plains
early_release = record {
  reached = reach begun one_given_over at_begin given_over_may;
  may = ((refl, λ e. up_second e), ((refl, refl), ((refl, refl, omega arith), (refl, ((refl, refl, omega arith), ((omega arith, omega arith, λ e. not_held e), ((refl, (omega arith, omega arith)), (refl, tt))))))));
  broken = second_first (told_from (released_early (told_from begun one_given_over)) nothing_given_back) refl refl;
}

pub no_run : Misleads (told_from begun one_in_flight) (failed_without_run (told_from begun one_in_flight)) next_on_second
unfolding at extended session_told tunnelled or_marker plains
no_run = record {
  reached = reach begun one_in_flight at_begin in_flight_may;
  may = (refl, ((refl, refl, omega arith), ((omega arith, omega arith, λ e. not_held e), (refl, tt))));
  broken = second_first (told_from (failed_without_run (told_from begun one_in_flight)) next_on_second) refl refl;
}

pub waiting_first : Misleads (told_from begun one_waits) (failed_waiting_first (told_from begun one_waits)) waiting_overtakes
unfolding at extended session_told tunnelled or_marker plains
waiting_first = record {
  reached = reach begun one_waits at_begin waits_may;
  may = ((refl, refl, omega arith), ((omega arith, omega arith, λ e. not_held e), (refl, tt)));
  broken = second_first (told_from (failed_waiting_first (told_from begun one_waits)) waiting_overtakes) refl refl;
}

pub no_duplicates : Misleads (told_from begun one_on_second) (switched_without_run (told_from begun one_on_second)) next_on_first
unfolding at extended session_told tunnelled or_marker plains
no_duplicates = record {
  reached = reach begun one_on_second at_begin on_second_may;
  may = (refl, ((refl, refl, omega arith), ((omega arith, omega arith, λ e. not_held e), (refl, tt))));
  broken = second_first (told_from (switched_without_run (told_from begun one_on_second)) next_on_first) refl refl;
}

pub record_anew : Misleads (told_from begun one_taken) (recorded_anew (told_from begun one_taken)) taken_again
unfolding at extended session_told tunnelled or_marker plains
record_anew = record {
  reached = reach begun one_taken at_begin taken_may;
  may = (refl, tt);
  broken = first_twice (told_from (recorded_anew (told_from begun one_taken)) taken_again) refl refl;
}

pub put_off : Misleads (told_from begun one_carried) (deferred (told_from begun one_carried)) next_behind
unfolding at extended session_told tunnelled or_marker plains
put_off = record {
  reached = reach begun one_carried at_begin carried_may;
  may = (refl, ((refl, refl, omega arith), (refl, tt)));
  broken = second_first (told_from (deferred (told_from begun one_carried)) next_behind) refl refl;
}
