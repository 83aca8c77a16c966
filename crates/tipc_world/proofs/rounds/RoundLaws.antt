-- What a round is, in its two parts: each node ticks once, and each frame that is in the air then arrives once where it
-- is for.
use Rattle.std.proofs.Common.{◌≡◌, ◌≤◌, ◌<◌, ◌+◌, ◌∙◌, ℕ, true, false, List, Option, None, Some, if◌then◌else◌, length, slice_get, ap, arith}
use Rattle.std.specs.List.{filter}
use Rattle.std.proofs.lemmas.Option.{slice_get_within}
use Rattle.tipc_types.specs.Address.{node_word}
use Rattle.tipc_outside.specs.declared.outgoing.Outgoing.{Outgoing}
use Rattle.tipc_paired.proofs.wires.Wires.{map_at}
use Rattle.tipc_replay.specs.declared.air.Sent.{Sent}
use Rattle.tipc_replay.specs.Air.{airborne, is_on, leaving_on}
use Rattle.tipc_replay.specs.Due.{frame_for, is_for, kept_for}
use Rattle.tipc_replay.specs.Skies.{AirState, air_on}
use Rattle.tipc_replay.specs.States.{MemberState, contact_at}
use Rattle.tipc_replay.proofs.frames.Reaching.{placed}
use Rattle.tipc_world.specs.declared.places.Places.{Places}
use Rattle.tipc_world.specs.Ends.{ends_of, AreBefore}
use Rattle.tipc_world.specs.RoundParts.{HasArrivedOnce, HasTickedOnce, IsRound, TickBrings}
use Rattle.tipc_world.specs.States.{WorldState, is_there}
use Rattle.tipc_world.proofs.rounds.Once.{arrives_once, frame_stays, ticks_once}
use Rattle.tipc_world.proofs.rounds.Parts.{goes_whole}
use Rattle.tipc_world.proofs.rounds.Walking.{arrivals_go_on, ticks_go_on}

-- no frame was lost in the parts of a round
between_whole : (places : Places) (start : WorldState) (ends : Places) (now : WorldState) (r : IsRound places start ends now) → now.lost ≡ false → r.between.lost ≡ false
between_whole places start ends now r whole = goes_whole _ _ r.between _ _ now r.second_part whole

ticked_whole : (places : Places) (start : WorldState) (ends : Places) (now : WorldState) (r : IsRound places start ends now) → now.lost ≡ false → r.ticked.lost ≡ false
ticked_whole places start ends now r whole = goes_whole _ _ r.ticked _ _ r.between r.first_part (between_whole places start ends now r whole)

-- a frame that is found stands in the air
frame_within : (air : AirState) (n bearer place : ℕ) (f : Sent) → frame_for air n bearer place ≡ Some f → place < length (air_on bearer air)
frame_within air n bearer place f here = slice_get_within (air_on bearer air) place f (placed air n bearer place f here).0

-- the ticks of a round
pub round_ticks : (places : Places) (start : WorldState) (ends : Places) (now : WorldState) (r : IsRound places start ends now) (n : ℕ) → now.lost ≡ false → 1 ≤ n → n ≤ 32 → is_there start n ≡ true → HasTickedOnce start r.ticked n
round_ticks places start ends now r n whole from_one to_32 there = ticks_once n start r.ticks r.ticked from_one (omega (arith, to_32)) there r.tick_part (ticked_whole places start ends now r whole)

-- the nodes are there after the ticks
there_ticked : (places : Places) (start : WorldState) (ends : Places) (now : WorldState) (r : IsRound places start ends now) (n : ℕ) → now.lost ≡ false → is_there start n ≡ true → is_there r.ticked n ≡ true
there_ticked places start ends now r n whole there = (ticks_go_on 1 start _ r.ticks r.ticked r.tick_part (ticked_whole places start ends now r whole)).nodes n ∙ there

-- the arrivals on bearer 0
pub round_arrives_first : (places : Places) (start : WorldState) (ends : Places) (now : WorldState) (r : IsRound places start ends now) (place n : ℕ) (f : Sent) → now.lost ≡ false → n ≤ 32 → is_there start n ≡ true → places.first ≤ place
    → frame_for r.ticked.air n 0 place ≡ Some f → HasArrivedOnce 0 places.first (length r.ticked.air.first) r.ticked r.between place n f
round_arrives_first places start ends now r place n f whole to_32 there from here =
    let within : place < length r.ticked.air.first = frame_within r.ticked.air n 0 place f here in
    arrives_once 0 places.first (length r.ticked.air.first) r.ticked r.arrivals r.between place n f (omega arith) (omega (arith, to_32)) from within (there_ticked places start ends now r n whole there) here r.first_part
    (between_whole places start ends now r whole)

-- and those on bearer 1 behind them
pub round_arrives_second : (places : Places) (start : WorldState) (ends : Places) (now : WorldState) (r : IsRound places start ends now) (place n : ℕ) (f : Sent) → now.lost ≡ false → n ≤ 32 → is_there start n ≡ true → places.second ≤ place
    → frame_for r.ticked.air n 1 place ≡ Some f → HasArrivedOnce 1 places.second (length r.ticked.air.second) r.between now place n f
round_arrives_second places start ends now r place n f whole to_32 there from here =
    let within : place < length r.ticked.air.second = frame_within r.ticked.air n 1 place f here in
    let on = arrivals_go_on 0 places.first r.ticked _ r.arrivals r.between (omega arith) r.first_part (between_whole places start ends now r whole) in
    arrives_once 1 places.second (length r.ticked.air.second) r.between r.others now place n f (omega arith) (omega (arith, to_32)) from within
    (on.nodes n ∙ there_ticked places start ends now r n whole there) (frame_stays r.ticked r.between n 1 place f on.grown here) r.second_part whole

-- ---- the frames of ticks

-- a frame that left a node is found by each node that it is for
found_for : (air : AirState) (bearer place b n : ℕ) (met : ℕ → Option (ℕ × ℕ)) (members : List (Option MemberState)) (o : Outgoing) → slice_get (air_on bearer air) place ≡ Some (airborne met members b o)
    → is_for (record { word = node_word b }) o.to n ≡ true → frame_for air n bearer place ≡ Some (airborne met members b o)
unfolding frame_for
found_for air bearer place b n met members o stands meant =
    let f = airborne met members b o in
    ap (λ k. kept_for k n) stands ∙ ap (λ t. if t then Some f else None) meant

-- the k-th frame of a bearer that left at a tick
left_at : (bearer k b : ℕ) (met : ℕ → Option (ℕ × ℕ)) (members : List (Option MemberState)) (frames : List Outgoing) (o : Outgoing) → slice_get (filter (is_on bearer) frames) k ≡ Some o
    → slice_get (leaving_on bearer met members b frames) k ≡ Some (airborne met members b o)
left_at bearer k b met members frames o at = map_at (airborne met members b) (filter (is_on bearer) frames) k o at

-- on bearer 0
pub tick_brings_first : (places : Places) (start : WorldState) (ends : Places) (now : WorldState) (r : IsRound places start ends now) (b n k : ℕ) (t : HasTickedOnce start r.ticked b) (o : Outgoing) → now.lost ≡ false
    → AreBefore places (ends_of start.air) → n ≤ 32 → is_there start n ≡ true → slice_get (filter (is_on 0) t.ticks.frames) k ≡ Some o → is_for (record { word = node_word b }) o.to n ≡ true
    → TickBrings 0 places.first (length r.ticked.air.first) start r.ticked r.ticked r.between n (airborne (contact_at t.before.members b) t.after.members b o)
tick_brings_first places start ends now r b n k t o whole within to_32 there at meant =
    let f = airborne (contact_at t.before.members b) t.after.members b o in
    let place = length (air_on 0 t.before.air) + k in
    let stands = t.flies 0 k f (omega arith) (left_at 0 k b (contact_at t.before.members b) t.after.members t.ticks.frames o at) in
    let here = found_for r.ticked.air 0 place b n (contact_at t.before.members b) t.after.members o stands meant in
    let longer : length start.air.first ≤ length t.before.air.first = t.behind 0 in
    record {
      place = place;
      behind = omega (arith, longer);
      stands = stands;
      arrives = round_arrives_first places start ends now r place n f whole to_32 there (omega (arith, within.0, longer)) here;
    }

-- and on bearer 1
pub tick_brings_second : (places : Places) (start : WorldState) (ends : Places) (now : WorldState) (r : IsRound places start ends now) (b n k : ℕ) (t : HasTickedOnce start r.ticked b) (o : Outgoing) → now.lost ≡ false
    → AreBefore places (ends_of start.air) → n ≤ 32 → is_there start n ≡ true → slice_get (filter (is_on 1) t.ticks.frames) k ≡ Some o → is_for (record { word = node_word b }) o.to n ≡ true
    → TickBrings 1 places.second (length r.ticked.air.second) start r.ticked r.between now n (airborne (contact_at t.before.members b) t.after.members b o)
tick_brings_second places start ends now r b n k t o whole within to_32 there at meant =
    let f = airborne (contact_at t.before.members b) t.after.members b o in
    let place = length (air_on 1 t.before.air) + k in
    let stands = t.flies 1 k f (omega arith) (left_at 1 k b (contact_at t.before.members b) t.after.members t.ticks.frames o at) in
    let here = found_for r.ticked.air 1 place b n (contact_at t.before.members b) t.after.members o stands meant in
    let longer : length start.air.second ≤ length t.before.air.second = t.behind 1 in
    record {
      place = place;
      behind = omega (arith, longer);
      stands = stands;
      arrives = round_arrives_second places start ends now r place n f whole to_32 there (omega (arith, within.1, longer)) here;
    }
