-- A world without nodes, and what an event leaves of the limit of frames.
use Rattle.std.proofs.Common.{◌≡◌, ℕ, ◌+◌, ◌≤◌, Bool, true, false, max, Some, None, Option, List, [], length, refl, sym, ap, subst, arith}
use Rattle.std.specs.Prelude.{◌==◌, if◌then◌else◌, is_none}
use Rattle.tipc_types.specs.declared.node_calls.Answer.{Answer}
use Rattle.tipc_replay.specs.declared.air.Sent.{Sent}
use Rattle.tipc_replay.specs.declared.events.WorldEvent.{WorldEvent}
use Rattle.tipc_replay.specs.declared.events.WorldEvent.TheVariants as event
use Rattle.tipc_replay.specs.Due.{unarrived}
use Rattle.tipc_world.specs.Good.{IsGood}
use Rattle.tipc_world.specs.Limits.{IsAnswered}
use Rattle.tipc_replay.specs.Skies.{AirState, air_on, air_size}
use Rattle.tipc_world.specs.States.{WorldState, WorldView, no_nodes}
use Rattle.tipc_replay.proofs.Promise.{start_replayed}
use Rattle.tipc_world.proofs.Promise.{is_good}
use Rattle.tipc_world.proofs.calls.Quiet.{start_orderly}

-- a world without nodes is good
pub empty_good : {P : Type 0} (gives : P → ℕ → ℕ → ℕ → Type 0) (w : WorldView P) → w.state ≡ no_nodes → w.chooser.turn ≡ 0 → IsGood gives w
empty_good {P} gives w none first =
    let empty : WorldView P = record { state = no_nodes; chooser = w.chooser } in
    let same : empty ≡ w = ap (λ s. let v : WorldView P = record { state = s; chooser = w.chooser } in v) (sym none) in
    subst (IsGood gives) same (is_good gives empty start_replayed (start_orderly gives w.chooser first))

part_within : (zero one : Bool) (first second : List Sent) → length (if zero then first else (if one then second else [])) ≤ length first + length second
part_within true one first second = omega arith
part_within false true first second = omega arith
part_within false false first second = omega arith

-- the air of one bearer is within the whole
on_within : (x : ℕ) (air : AirState) → length (air_on x air) ≤ air_size air
on_within x air = part_within (x == 0) (x == 1) air.first air.second

-- an air within its limit is so on each bearer
few_on : (x before : ℕ) (air : AirState) → air_size air ≤ 100000 → length (air_on x air) ≤ max 100000 before
few_on x before air few = let part = on_within x air in omega (arith, few, part)

-- an arrival that doesn't count leaves the air as it was
arrival_few : (x : ℕ) (old new : WorldState) (node bearer place : ℕ) (answer : Answer) (why : Option Answer) → unarrived old.members old.air node bearer place ≡ why
    → IsAnswered old (event.Arrive node bearer place) new answer → length (air_on x new.air) ≤ max 100000 (length (air_on x old.air))
arrival_few x old new node bearer place answer None is answered = few_on x (length (air_on x old.air)) new.air (answered.within (ap is_none is))
arrival_few x old new node bearer place answer (Some why) is answered =
    let same = (answered.step.becomes.none why is).1 in
    let air : length (air_on x new.air) ≡ length (air_on x old.air) = ap (λ s. length (air_on x s.air)) same in
    omega (arith, air)

-- after an event the air of a bearer is within the limit, or as long as it was
pub answered_few : (x : ℕ) (old : WorldState) (event : WorldEvent) (new : WorldState) (answer : Answer) → IsAnswered old event new answer → length (air_on x new.air) ≤ max 100000 (length (air_on x old.air))
answered_few x old (event.Arrive node bearer place) new answer answered = arrival_few x old new node bearer place answer _ refl answered
answered_few x old (event.Call node call) new answer answered = few_on x (length (air_on x old.air)) new.air (answered.within refl)
answered_few x old (event.Restart node) new answer answered = few_on x (length (air_on x old.air)) new.air (answered.within refl)
