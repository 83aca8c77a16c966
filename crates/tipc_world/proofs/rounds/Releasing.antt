-- Four rounds of a poised world release a packet that was numbered: round by round.
use Rattle.std.specs.Prelude.{◌-◌, ◌⊎◌}
use Rattle.std.proofs.Common.{◌≡◌, ◌≤◌, ◌+◌, ℕ, zero, suc, false, Ok, inl, inr, sym, subst, arith}
use Rattle.tipc_world.specs.declared.places.Places.{Places}
use Rattle.tipc_world.specs.Directions.{IsAwaited, IsReleased, WasTaken, IsOnItsWay, StandsIn}
use Rattle.tipc_world.specs.HeardWorlds.{BeginsRound}
use Rattle.tipc_world.specs.Poised.{IsPoised}
use Rattle.tipc_world.specs.RoundParts.{IsKept, IsRound, MoreRounds, none_more, one_more}
use Rattle.tipc_world.specs.Rows.{FourRoundsRelease, IsKnown, RoundBrings, WasUp}
use Rattle.tipc_world.specs.Settling.{Round, Rounds, go_on}
use Rattle.tipc_world.specs.States.{WorldState}
use Rattle.tipc_world.proofs.rounds.HeardWorlds.{call_stays_calm}
use Rattle.tipc_world.proofs.rounds.RoundParts.{round_parts, round_whole}
use Rattle.tipc_world.proofs.rounds.Rows.{due_on, released_on, row_asked, row_released, row_shown, row_taken, through}
use Rattle.tipc_world.proofs.rounds.TickStates.{CalmRound}
use Rattle.tipc_world.proofs.rounds.Walking.{settling_goes_on}
use Rattle.tipc_world.proofs.rounds.Young.{round_young}

-- ---- one round

-- what a round begins with
pub calm_round : (start : WorldState) (places : Places) (outset : WorldState) (ends : Places) (now : WorldState) (r : IsRound places outset ends now) → BeginsRound start places outset now → CalmRound start places outset ends now r
calm_round start places outset ends now r k = record {
  kept = k.kept;
  poised = k.poised;
  behind = k.behind;
  within = k.within;
  whole = k.whole;
  calm = k.so_far.calm;
  heard = k.so_far.heard;
  young = (round_young start places outset ends now k.kept k.poised k.behind r k.whole k.so_far.calm k.so_far.heard k.so_far.young).0;
}

pub round_brings : (start : WorldState) (places : Places) (outset : WorldState) (ends : Places) (now : WorldState) (a b bearer position : ℕ) → IsRound places outset ends now → BeginsRound start places outset now → WasUp start a b bearer
    → RoundBrings start places outset ends now a b bearer position
round_brings start places outset ends now a b bearer position r begins u =
    let k = calm_round start places outset ends now r begins in
    record {
      shows = row_shown k u.here u.there u.apart u.on_one u.up position;
      asks = row_asked k u.here u.there u.apart u.on_one u.up position;
      takes = row_taken k u.here u.there u.apart u.on_one u.up position;
      releases = row_released k u.here u.there u.apart u.on_one u.up position;
      lasts = through k u.here u.there u.apart u.on_one u.up (IsReleased position) (released_on position);
      due = through k u.here u.there u.apart u.on_one u.up (IsAwaited position) (due_on position);
    }

-- ---- four rounds

-- how far the packet is after so many rounds
abbrev IsFar : (start : WorldState) (a b bearer position rounds : ℕ) → Places → WorldState → Type 0
IsFar start a b bearer position zero places w = StandsIn w (IsAwaited position) a b bearer
IsFar start a b bearer position (suc zero) places w = StandsIn w (IsAwaited position) a b bearer × StandsIn w (IsKnown position) b a bearer
IsFar start a b bearer position (suc (suc zero)) places w =
    StandsIn w (IsReleased position) a b bearer ⊎ (StandsIn w (IsAwaited position) a b bearer × (StandsIn w (WasTaken position) b a bearer ⊎ IsOnItsWay start places w a b bearer position))
IsFar start a b bearer position (suc (suc (suc zero))) places w = StandsIn w (IsReleased position) a b bearer ⊎ StandsIn w (WasTaken position) b a bearer
IsFar start a b bearer position (suc (suc (suc (suc more)))) places w = StandsIn w (IsReleased position) a b bearer

further : (start : WorldState) (places : Places) (outset : WorldState) (ends : Places) (now : WorldState) (a b bearer position : ℕ) → RoundBrings start places outset ends now a b bearer position → (rounds : ℕ) → IsFar start a b bearer position rounds places outset
    → IsFar start a b bearer position (suc rounds) ends now
further start places outset ends now a b bearer position r zero due = (r.due due, r.shows due)
further start places outset ends now a b bearer position r (suc zero) (due, known) = by (r.asks due known)
  where
    by : StandsIn now (IsReleased position) a b bearer ⊎ (StandsIn now (WasTaken position) b a bearer ⊎ IsOnItsWay start ends now a b bearer position) → IsFar start a b bearer position 2 ends now
    by (inl released) = inl released
    by (inr way) = inr (r.due due, way)
further start places outset ends now a b bearer position r (suc (suc zero)) (inl released) = inl (r.lasts released)
further start places outset ends now a b bearer position r (suc (suc zero)) (inr (due, way)) = inr (r.takes due way)
further start places outset ends now a b bearer position r (suc (suc (suc zero))) (inl released) = r.lasts released
further start places outset ends now a b bearer position r (suc (suc (suc zero))) (inr taken) = r.releases taken
further start places outset ends now a b bearer position r (suc (suc (suc (suc more)))) released = r.lasts released

-- rounds behind others
pub rounds_join : (start : WorldState) (made : ℕ) (first : Places) (between : WorldState) (rounds : ℕ) (places : Places) (now : WorldState) → Rounds start made first between → MoreRounds made first between rounds places now → Rounds start rounds places now
rounds_join start made first between _ _ _ front none_more = front
rounds_join start made first between _ _ _ front (one_more done places before ends now rest round) = go_on done places before ends now (rounds_join start made first between done places before front rest) round

-- what each of them keeps
pub more_keep : (start : WorldState) (K : ℕ → Places → WorldState → Type 0) (made : ℕ) (first : Places) (between : WorldState) (rounds : ℕ) (places : Places) (now : WorldState) → Rounds start made first between
    → ((done : ℕ) (at : Places) (before : WorldState) (ends : Places) (after : WorldState) → made ≤ done → Rounds start done at before → Round at before (Ok ends) after → after.lost ≡ false → K done at before → K (done + 1) ends after)
    → MoreRounds made first between rounds places now → now.lost ≡ false → K made first between → (made ≤ rounds) × K rounds places now
more_keep start K made first between _ _ _ front each none_more whole h = (omega arith, h)
more_keep start K made first between _ _ _ front each (one_more done places before ends now rest round) whole h =
    let clear = round_whole places before ends now (round_parts places before ends now round) whole in
    let so_far = more_keep start K made first between done places before front each rest clear h in
    let above = so_far.0 in
    (omega (arith, above), each done places before ends now above (rounds_join start made first between done places before front rest) round whole so_far.1)

-- what stands when a round of a call begins
pub begins_there : (start : WorldState) (rounds : ℕ) (at : Places) (before : WorldState) (next : Places) (after : WorldState) → IsKept start → IsPoised start → Rounds start rounds at before → IsRound at before next after → after.lost ≡ false → BeginsRound start at before after
begins_there start rounds at before next after kept poised so_far r clear =
    let was_clear = round_whole at before next after r clear in
    let goes = settling_goes_on start rounds at before so_far was_clear in
    record { kept = kept; poised = poised; behind = goes.behind; within = goes.within; so_far = call_stays_calm start rounds at before kept poised so_far was_clear; whole = clear }

pub four_rounds_release : FourRoundsRelease
four_rounds_release start done places outset ends now a b bearer position kept poised front rest whole u due =
    let last = more_keep start (λ rounds at w. IsFar start a b bearer position (rounds - done) at w) done places outset (done + 4) ends now front each rest whole (subst (λ k. IsFar start a b bearer position k places outset) (sym (no_more done)) due) in
    subst (λ k. IsFar start a b bearer position k ends now) (four_more done) last.1
  where
    no_more : (n : ℕ) → n - n ≡ 0
    no_more n = omega arith

    four_more : (n : ℕ) → n + 4 - n ≡ 4
    four_more n = omega arith

    one_further : (n m : ℕ) → n ≤ m → m + 1 - n ≡ suc (m - n)
    one_further n m from = omega (arith, from)

    each : (rounds : ℕ) (at : Places) (before : WorldState) (next : Places) (after : WorldState) → done ≤ rounds → Rounds start rounds at before → Round at before (Ok next) after → after.lost ≡ false → IsFar start a b bearer position (rounds - done) at before
        → IsFar start a b bearer position (rounds + 1 - done) next after
    each rounds at before next after from so_far round clear h =
        let r = round_parts at before next after round in
        let begins = begins_there start rounds at before next after kept poised so_far r clear in
        subst (λ k. IsFar start a b bearer position k next after) (sym (one_further done rounds from))
        (further start at before next after a b bearer position (round_brings start at before next after a b bearer position r begins u) (rounds - done) h)
