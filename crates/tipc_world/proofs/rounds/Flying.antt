-- The frames in the air after an event that loses none: those that stood there, and those that left in it.
use Rattle.std.proofs.Common.{◌≡◌, ◌≤◌, ◌+◌, ℕ, zero, suc, List, Option, Some, length, slice_get, inl, inr, sym, subst, eqb-true, arith}
use Rattle.std.specs.List.{filter}
use Rattle.std.proofs.lemmas.Option.{slice_get_within}
use Rattle.tipc_types.specs.declared.node_calls.Answer.{Answer}
use Rattle.tipc_link.proofs.Directions.{slice_get-behind}
use Rattle.tipc_outside.specs.declared.outgoing.Outgoing.{Outgoing}
use Rattle.tipc_replay.specs.declared.air.Sent.{Sent}
use Rattle.tipc_replay.specs.declared.events.WorldEvent.{WorldEvent}
use Rattle.tipc_replay.specs.Air.{airborne, is_on, leaving_on, with_leaving}
use Rattle.tipc_replay.specs.Calls.{node_of}
use Rattle.tipc_replay.specs.Skies.{AirState, air_on}
use Rattle.tipc_replay.specs.States.{contact_at}
use Rattle.tipc_replay.proofs.InLists.{stands_mapped, stands_passed}
use Rattle.tipc_replay.proofs.streams.Within.{of_either}
use Rattle.tipc_world.specs.declared.places.Places.{Places}
use Rattle.tipc_world.specs.Ends.{ends_of}
use Rattle.tipc_world.specs.RoundParts.{HoldsBehind, ComesFrom, HappensWhole, left, stood}
use Rattle.tipc_world.specs.States.{WorldState}

-- ---- where frames stand

-- the frames that leave on a bearer stand behind those that stood there
left_on : (air : AirState) (met : ℕ → Option (ℕ × ℕ)) (after : WorldState) (a bearer k : ℕ) (frames : List Outgoing) (f : Sent) → bearer ≤ 1 → slice_get (leaving_on bearer met after.members a frames) k ≡ Some f
    → slice_get (air_on bearer (with_leaving air met after.members a frames)) (length (air_on bearer air) + k) ≡ Some f
left_on air met after a zero k frames f on_one is = slice_get-behind air.first (leaving_on 0 met after.members a frames) k f is
left_on air met after a (suc zero) k frames f on_one is = slice_get-behind air.second (leaving_on 1 met after.members a frames) k f is
left_on air met after a (suc (suc more)) k frames f on_one is = absurd (omega (arith, on_one))

-- the frames of an event stand there
pub flown : (old new : WorldState) (event : WorldEvent) (bytes : List ℕ) (answered : Answer) (h : HappensWhole old new event bytes answered) → (bearer k : ℕ) (f : Sent) → bearer ≤ 1
    → slice_get (leaving_on bearer (contact_at old.members (node_of event)) new.members (node_of event) h.frames) k ≡ Some f
    → slice_get (air_on bearer new.air) (length (air_on bearer old.air) + k) ≡ Some f
flown old new event bytes answered h bearer k f on_one is =
    subst (λ air. slice_get (air_on bearer air) (length (air_on bearer old.air) + k) ≡ Some f) (sym h.air)
    (left_on old.air (contact_at old.members (node_of event)) new (node_of event) bearer k h.frames f on_one is)

-- ---- where they come from

-- a frame of a bearer that left in an event
one_left : (old new : WorldState) (a bearer place j : ℕ) (frames : List Outgoing) (f : Sent) → slice_get (leaving_on bearer (contact_at old.members a) new.members a frames) j ≡ Some f → ComesFrom old new a frames bearer place f
one_left old new a bearer place j frames f there =
    let met = contact_at old.members a in
    let found = stands_mapped (airborne met new.members a) (filter (is_on bearer) frames) f (j, there) in
    let passed = stands_passed (is_on bearer) frames found.0 found.1 in
    left passed.0.0 found.0 passed.0.1 (eqb-true found.0.bearer bearer passed.1) found.2

comes_on : (old new : WorldState) (a bearer place : ℕ) (frames : List Outgoing) (f : Sent) → bearer ≤ 1
    → slice_get (air_on bearer (with_leaving old.air (contact_at old.members a) new.members a frames)) place ≡ Some f → ComesFrom old new a frames bearer place f
comes_on old new a zero place frames f on_one there = elim (of_either old.air.first (leaving_on 0 (contact_at old.members a) new.members a frames) place f there) [
  | inl before ↦ stood before
  | inr after ↦ one_left old new a 0 place after.0 frames f after.1
]
comes_on old new a (suc zero) place frames f on_one there = elim (of_either old.air.second (leaving_on 1 (contact_at old.members a) new.members a frames) place f there) [
  | inl before ↦ stood before
  | inr after ↦ one_left old new a 1 place after.0 frames f after.1
]
comes_on old new a (suc (suc more)) place frames f on_one there = absurd (omega (arith, on_one))

-- a frame in the air after an event
pub comes_from : (old new : WorldState) (event : WorldEvent) (bytes : List ℕ) (answered : Answer) (h : HappensWhole old new event bytes answered) (bearer place : ℕ) (f : Sent) → bearer ≤ 1 → slice_get (air_on bearer new.air) place ≡ Some f
    → ComesFrom old new (node_of event) h.frames bearer place f
comes_from old new event bytes answered h bearer place f on_one there =
    comes_on old new (node_of event) bearer place h.frames f on_one (subst (λ air. slice_get (air_on bearer air) place ≡ Some f) h.air there)

-- ---- what holds of all frames behind some places

-- at the ends of an air there are none
pub none_behind : (P : ℕ → Sent → Type 0) (w : WorldState) → HoldsBehind (ends_of w.air) P w
none_behind P w zero place f on_one behind there = absurd (let within = slice_get_within w.air.first place f there in omega (arith, within, behind))
none_behind P w (suc zero) place f on_one behind there = absurd (let within = slice_get_within w.air.second place f there in omega (arith, within, behind))
none_behind P w (suc (suc more)) place f on_one behind there = absurd (omega (arith, on_one))

-- an event adds its own frames
pub more_behind : (P : ℕ → Sent → Type 0) (from : Places) (old new : WorldState) (event : WorldEvent) (bytes : List ℕ) (answered : Answer) (h : HappensWhole old new event bytes answered) → HoldsBehind from P old
    → ((k : ℕ) (o : Outgoing) → slice_get h.frames k ≡ Some o → P o.bearer (airborne (contact_at old.members (node_of event)) new.members (node_of event) o)) → HoldsBehind from P new
more_behind P from old new event bytes answered h all added bearer place f on_one behind there = by (comes_from old new event bytes answered h bearer place f on_one there)
  where
    by : ComesFrom old new (node_of event) h.frames bearer place f → P bearer f
    by (stood before) = all bearer place f on_one behind before
    by (left k o at on is) = subst (P bearer) (sym is) (subst (λ b. P b (airborne (contact_at old.members (node_of event)) new.members (node_of event) o)) on (added k o at))
