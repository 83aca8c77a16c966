-- What the arrival of one frame leaves of its node at the end of the round.
use Rattle.std.proofs.Common.{◌≡◌, ◌≤◌, ◌+◌, ◌*◌, ℕ, false, Some, None, length, slice_index_or, inl, inr, refl, sym, ap, subst, ◌∙◌, arith}
use Rattle.std.specs.Prelude.{◌/◌}
use Rattle.std.proofs.lemmas.Bool.{cases_eq}
use Rattle.tipc_types.specs.Limits.{most_age}
use Rattle.tipc_replay.specs.declared.air.Sent.{Sent}
use Rattle.tipc_replay.specs.declared.events.WorldEvent.TheVariants.{Arrive}
use Rattle.tipc_replay.specs.Due.{age_of}
use Rattle.tipc_replay.specs.States.{MemberState}
use Rattle.tipc_replay.proofs.calls.Outcomes.{some_is}
use Rattle.tipc_replay.proofs.frames.Reaching.{placed}
use Rattle.tipc_world.specs.declared.places.Places.{Places}
use Rattle.tipc_world.specs.declared.settling.Receivers.TheVariants.{Any}
use Rattle.tipc_world.specs.Courses.{Goes, numbers}
use Rattle.tipc_world.specs.Ends.{place_on, AreBefore}
use Rattle.tipc_world.specs.RoundParts.{FrameArrives, Guards, HasArrivedOnce, IsRound, SettlesOn}
use Rattle.tipc_world.specs.Settling.{arrival_asked}
use Rattle.tipc_world.specs.States.{WorldState}
use Rattle.tipc_world.proofs.rounds.Events.{arrive_either}
use Rattle.tipc_world.proofs.rounds.Guarded.{ArrivalsGuarded, RoundGuarded, arrivals_guarded, one_arrival, place_there}
use Rattle.tipc_world.proofs.rounds.Keeping.{arrival_on, here_is, other_stays}
use Rattle.tipc_world.proofs.rounds.Parts.{goes_keep, goes_whole, takes_whole}

-- a node is so, where it is there
abbrev pub AtNode : ℕ → (MemberState → Type 0) → WorldState → Type 0
AtNode n Q w = (m : MemberState) → slice_index_or w.members n None ≡ Some m → Q m

-- Whatever frame arrives at it, among nodes and frames that are guarded, leaves it so.
abbrev pub ArrivalsLeave : WorldState → Places → (ℕ → MemberState → Type 0) → (ℕ → Sent → Type 0) → ℕ → (MemberState → Type 0) → Type 0
ArrivalsLeave start from P F n Q = (old new : WorldState) (a : FrameArrives from old new) → Guards start from P F old → SettlesOn old new → a.node ≡ n → Q a.arrives.before → Q a.arrives.after

-- what is kept along the arrivals: all is guarded, and one node is so
record Along (start : WorldState) (from : Places) (P : ℕ → MemberState → Type 0) (F : ℕ → Sent → Type 0) (n : ℕ) (Q : MemberState → Type 0) (w : WorldState) : Type 0 where
  guards : Guards start from P F w
  there : AtNode n Q w

one_along : (start : WorldState) (from : Places) (P : ℕ → MemberState → Type 0) (F : ℕ → Sent → Type 0) (n : ℕ) (Q : MemberState → Type 0) (old new : WorldState) → ArrivalsGuarded start from P F → ArrivalsLeave start from P F n Q
    → old.lost ≡ false → FrameArrives from old new → Along start from P F n Q old → Along start from P F n Q new
one_along start from P F n Q old new each leave clear a h = record {
  guards = one_arrival start from P F old new each clear a h.guards;
  there = λ m is. elim (cases_eq n a.node) [
    | inl here ↦
        let now : a.arrives.after ≡ m = some_is a.arrives.after m (sym (here_is old new (Arrive a.node a.bearer a.place) a.frame.frame a.answered a.arrives) ∙ (ap (λ k. slice_index_or new.members k None) (sym here) ∙ is)) in
        let was : Q a.arrives.before = h.there a.arrives.before (ap (λ k. slice_index_or old.members k None) here ∙ a.arrives.was) in
        subst Q now (leave old new a h.guards (arrival_on from old new clear a) (sym here) was)
    | inr other ↦ h.there m (sym (other_stays old new (Arrive a.node a.bearer a.place) a.frame.frame a.answered a.arrives n other) ∙ is)
  ];
}

-- a node that is so stays so through the arrivals on a bearer
pub arrivals_leave : (start : WorldState) (from : Places) (P : ℕ → MemberState → Type 0) (F : ℕ → Sent → Type 0) (n : ℕ) (Q : MemberState → Type 0) (bearer first : ℕ) (outset : WorldState) (end count : ℕ) (now : WorldState)
    → bearer ≤ 1 → place_on bearer from ≤ first / numbers → ArrivalsGuarded start from P F → ArrivalsLeave start from P F n Q → Goes (arrival_asked Any bearer) first outset end count now → now.lost ≡ false
    → Guards start from P F outset → AtNode n Q outset → AtNode n Q now
arrivals_leave start from P F n Q bearer first outset end count now on_one behind each leave goes whole g so =
    let last = goes_keep (arrival_asked Any bearer) (λ number. Along start from P F n Q) first outset end count now
    (λ number before made after above below taken clear h.
    let was_clear = takes_whole (arrival_asked Any bearer) number before made after taken clear in
    let at : first / numbers ≤ number / numbers = omega (arith, above) in
    elim (arrive_either from bearer number before made after on_one (omega (arith, behind, at)) taken clear) [
      | inl same ↦ subst (Along start from P F n Q) (sym same) h
      | inr arrived ↦ one_along start from P F n Q before after each leave was_clear arrived h
    ])
    goes whole (record { guards = g; there = so }) in
    last.there

-- the arrival of a frame makes its node so
abbrev pub ArrivalMakes : WorldState → Places → (ℕ → MemberState → Type 0) → (ℕ → Sent → Type 0) → (MemberState → Type 0) → (bearer n : ℕ) → Sent → Type 0
ArrivalMakes start from P F Q bearer n f = (old new : WorldState) (a : FrameArrives from old new) → a.node ≡ n → a.bearer ≡ bearer → a.frame ≡ f → Guards start from P F old → SettlesOn old new → F a.bearer a.frame → Q a.arrives.after

-- A frame that arrives once leaves its node so at the end of its part, where its arrival makes it so, and no other
-- arrival ends that.
pub arrival_leaves : (start : WorldState) (from : Places) (P : ℕ → MemberState → Type 0) (F : ℕ → Sent → Type 0) (Q : MemberState → Type 0) (bearer first end : ℕ) (outset now : WorldState) (place n : ℕ) (f : Sent)
    → bearer ≤ 1 → place_on bearer from ≤ first → first ≤ place → ArrivalsGuarded start from P F → ArrivalsLeave start from P F n Q → ArrivalMakes start from P F Q bearer n f → (once : HasArrivedOnce bearer first end outset now place n f) → age_of once.before.members f n bearer ≤ most_age
    → now.lost ≡ false → Guards start from P F outset → AtNode n Q now
arrival_leaves start from P F Q bearer first end outset now place n f on_one behind at each leave does once fresh whole g =
    let asks = arrival_asked Any bearer in
    let number = numbers * place + n in
    let g_before = arrivals_guarded start from P F bearer (numbers * first) outset number once.earlier once.before on_one (place_there first (place_on bearer from) behind) each once.front once.clear g in
    let h = once.arrives fresh in
    let a : FrameArrives from once.before once.after = record {
      node = n;
      bearer = bearer;
      place = place;
      frame = f;
      answered = once.answered;
      on_one = on_one;
      behind = omega (arith, behind, at);
      found = once.here;
      fresh = fresh;
      arrives = h;
    } in
    let next = arrival_on from once.before once.after once.clear a in
    let g_after = one_arrival start from P F once.before once.after each once.clear a g_before in
    let so : AtNode n Q once.after = λ m is. subst Q (some_is h.after m (sym (here_is once.before once.after (Arrive n bearer place) f.frame once.answered h) ∙ is)) (does once.before once.after a refl refl refl g_before next (g_before.frames bearer place f on_one (omega (arith, behind, at)) (placed once.before.air n bearer place f once.here).0)) in
    let later : place_on bearer from ≤ (number + 1) / numbers = omega (arith, behind, at) in
    arrivals_leave start from P F n Q bearer (number + 1) once.after (numbers * end) once.later now on_one later each leave once.rest whole g_after so

-- ---- at the end of a round

-- what a frame on bearer 0 leaves
pub round_leaves_first : (start : WorldState) (from : Places) (P : ℕ → MemberState → Type 0) (F : ℕ → Sent → Type 0) (Q : MemberState → Type 0) (places : Places) (outset : WorldState) (ends : Places) (now : WorldState) (r : IsRound places outset ends now)
    (place n : ℕ) (f : Sent) → AreBefore from places → places.first ≤ place → ArrivalsGuarded start from P F → ArrivalsLeave start from P F n Q → ArrivalMakes start from P F Q 0 n f
    → (once : HasArrivedOnce 0 places.first (length r.ticked.air.first) r.ticked r.between place n f) → age_of once.before.members f n 0 ≤ most_age → now.lost ≡ false → RoundGuarded start from P F r.ticked r.between now → AtNode n Q now
round_leaves_first start from P F Q places outset ends now r place n f behind at each leave does once young whole g =
    let clear_between = goes_whole _ _ r.between _ _ now r.second_part whole in
    let so = arrival_leaves start from P F Q 0 places.first (length r.ticked.air.first) r.ticked r.between place n f (omega arith) behind.0 at each leave does once young clear_between g.ticks in
    arrivals_leave start from P F n Q 1 (numbers * places.second) r.between (numbers * length r.ticked.air.second) r.others now (omega arith) (place_there places.second from.second behind.1) each leave r.second_part whole g.middle so

-- and what one on bearer 1 leaves
pub round_leaves_second : (start : WorldState) (from : Places) (P : ℕ → MemberState → Type 0) (F : ℕ → Sent → Type 0) (Q : MemberState → Type 0) (places : Places) (outset : WorldState) (ends : Places) (now : WorldState) (r : IsRound places outset ends now)
    (place n : ℕ) (f : Sent) → AreBefore from places → places.second ≤ place → ArrivalsGuarded start from P F → ArrivalsLeave start from P F n Q → ArrivalMakes start from P F Q 1 n f
    → (once : HasArrivedOnce 1 places.second (length r.ticked.air.second) r.between now place n f) → age_of once.before.members f n 1 ≤ most_age → now.lost ≡ false → RoundGuarded start from P F r.ticked r.between now → AtNode n Q now
round_leaves_second start from P F Q places outset ends now r place n f behind at each leave does once young whole g =
    arrival_leaves start from P F Q 1 places.second (length r.ticked.air.second) r.between now place n f (omega arith) behind.1 at each leave does once young whole g.middle
