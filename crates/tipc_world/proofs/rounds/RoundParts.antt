-- Rounds in their parts, some of them and the others behind, and what each of them keeps.
use Rattle.std.proofs.Common.{◌≡◌, ◌≤◌, ◌<◌, ◌+◌, ℕ, false, Ok, inl, inr, sym, subst, arith}
use Rattle.std.proofs.lemmas.Bool.{cases_lt}
use Rattle.tipc_world.specs.declared.places.Places.{Places}
use Rattle.tipc_world.specs.Ends.{ends_of}
use Rattle.tipc_world.specs.RoundParts.{IsRound, PartsAtRound, none_more, one_more}
use Rattle.tipc_world.specs.Settling.{Round, Rounds, begin, go_on}
use Rattle.tipc_world.specs.States.{WorldState}
use Rattle.tipc_world.proofs.rounds.Parts.{goes_whole}

-- a round in its parts
pub round_parts : (places : Places) (start : WorldState) (ends : Places) (now : WorldState) → Round places start (Ok ends) now → IsRound places start ends now
round_parts places start ends now h =
    let arrives = h.3.1 in record {
      ticked = h.0;
      ticks = h.2.0;
      tick_part = h.2.1;
      ends_are = h.3.0;
      between = arrives.0;
      arrivals = arrives.2.0;
      first_part = arrives.2.1;
      others = arrives.3.0;
      second_part = arrives.3.1;
    }

pub round_whole : (places : Places) (start : WorldState) (ends : Places) (now : WorldState) → IsRound places start ends now → now.lost ≡ false → start.lost ≡ false
round_whole places start ends now r whole =
    goes_whole _ _ start _ _ r.ticked r.tick_part (goes_whole _ _ r.ticked _ _ r.between r.first_part (goes_whole _ _ r.between _ _ now r.second_part whole))

-- rounds part behind any of them
pub rounds_part : (start : WorldState) (made rounds : ℕ) (places : Places) (now : WorldState) → made ≤ rounds → Rounds start rounds places now → PartsAtRound start made rounds places now
rounds_part start made rounds places now within begin =
    let none : made ≡ 0 = omega (arith, within) in
    subst (λ k. PartsAtRound start k 0 (ends_of start.air) start) (sym none) (record { middle = ends_of start.air; between = start; front = begin; rest = none_more })
rounds_part start made _ _ _ within (go_on done places before ends now rounds round) = elim (cases_lt done made) [
  | inl all ↦
      let here : done + 1 ≡ made = omega (arith, all, within) in
      subst (λ k. PartsAtRound start k (done + 1) ends now) here (record { middle = ends; between = now; front = go_on done places before ends now rounds round; rest = none_more })
  | inr fewer ↦
      let p = rounds_part start made done places before fewer rounds in
      record { middle = p.middle; between = p.between; front = p.front; rest = one_more done places before ends now p.rest round }
]

-- What each round keeps, the rounds keep; it may speak of how many were made, and of the places from which frames
-- arrive in the next one.
pub rounds_keep : (K : ℕ → Places → WorldState → Type 0) (start : WorldState) (rounds : ℕ) (places : Places) (now : WorldState)
    → ((done : ℕ) (places : Places) (before : WorldState) (ends : Places) (after : WorldState) → done < rounds → Rounds start done places before → Round places before (Ok ends) after → after.lost ≡ false
    → K done places before → K (done + 1) ends after)
    → Rounds start rounds places now → now.lost ≡ false → K 0 (ends_of start.air) start → K rounds places now
rounds_keep K start rounds places now each begin whole h = h
rounds_keep K start _ _ _ each (go_on done places before ends now rounds round) whole h =
    let clear = round_whole places before ends now (round_parts places before ends now round) whole in
    let so_far = rounds_keep K start done places before (λ d p b e a fewer. each d p b e a (omega (arith, fewer))) rounds clear h in
    each done places before ends now (omega arith) rounds round whole so_far

pub rounds_whole : (start : WorldState) (rounds : ℕ) (places : Places) (now : WorldState) → Rounds start rounds places now → now.lost ≡ false → start.lost ≡ false
rounds_whole start rounds places now begin whole = whole
rounds_whole start _ _ _ (go_on done places before ends now rounds round) whole = rounds_whole start done places before rounds (round_whole places before ends now (round_parts places before ends now round) whole)
