-- Every event leaves each node a caster, and every other one its member.
use Rattle.std.proofs.Common.{◌≡◌, ◌+◌, ◌<◌, ◌^◌, ℕ, Bool, List, [], Option, Some, None, refl, sym, subst, inl, inr, arith}
use Rattle.std.proofs.lemmas.Bool.{cases_eq}
use Rattle.tipc_types.specs.declared.node_calls.Answer.{Answer}
use Rattle.tipc_types.specs.declared.node_calls.By.{By}
use Rattle.tipc_outside.specs.declared.outgoing.Outgoing.{Outgoing}
use Rattle.tipc_journal.specs.Steps.{NodeStep}
use Rattle.tipc_replay.specs.declared.events.WorldEvent.{WorldEvent}
use Rattle.tipc_replay.specs.declared.events.WorldEvent.TheVariants.{Arrive, Call, Restart}
use Rattle.tipc_replay.specs.Aged.{AreAged}
use Rattle.tipc_replay.specs.Calls.{HasNextBoot, node_of}
use Rattle.tipc_replay.specs.Castings.{AreCasting, IsCaster}
use Rattle.tipc_replay.specs.Due.{unarrived}
use Rattle.tipc_replay.specs.Effects.{HasEffect}
use Rattle.tipc_replay.specs.Members.{IsRestarted}
use Rattle.tipc_replay.specs.Met.{AreMet}
use Rattle.tipc_replay.specs.Plain.{AllPlain}
use Rattle.tipc_replay.specs.Sound.{IsNumber, IsSound}
use Rattle.tipc_replay.specs.States.{MemberState}
use Rattle.tipc_replay.specs.Steps.{Becomes, Happens, IsArrival, Stage, Turns}
use Rattle.tipc_replay.proofs.casts.OtherGroups.{others_stay, others_stay_restarted}
use Rattle.tipc_replay.proofs.casts.OwnGroup.{own_stays}
use Rattle.tipc_replay.proofs.casts.OwnRestart.{own_stays_restarted}
use Rattle.tipc_replay.proofs.casts.SteadyTurns.{SteadyTurn, of_arrival, of_call}
use Rattle.tipc_replay.proofs.pairs.PairedEvents.{IsReady}

-- ---- a turn, and a restart

cast_turned : {old new : Stage} {n : ℕ} {m m' : MemberState} {bytes : List ℕ} {s : NodeStep} {frames : List Outgoing} {lost : Bool} → SteadyTurn old new n m m' bytes s frames lost → AreCasting old.members old.air → AreCasting new.members new.air
cast_turned {old} {new} {n} h casts a a_is = elim (cases_eq a n) [
  | inl same ↦ subst (IsCaster new.members new.air) (sym same) (own_stays h (casts n (subst IsNumber same a_is)))
  | inr apart ↦ others_stay h casts a a_is apart
]

cast_restarted : (old new : Stage) (n : ℕ) (before after : MemberState) (frames : List Outgoing) (lost : Bool) → IsSound old.members old.air → Turns old new n before after frames lost → IsRestarted before after → frames ≡ []
    → before.node.boot + 1 < 2 ^ 32 → AreCasting old.members old.air → AreCasting new.members new.air
cast_restarted old new n before after frames lost sound t r none fits casts a a_is = elim (cases_eq a n) [
  | inl same ↦ subst (IsCaster new.members new.air) (sym same) (own_stays_restarted old new n before after frames lost sound t r none fits (casts n (subst IsNumber same a_is)))
  | inr apart ↦ others_stay_restarted old new n before after frames lost sound t r none a a_is apart (casts a a_is)
]

-- ---- every event

casting_after : (old new : Stage) (by : By) (event : WorldEvent) (bytes : List ℕ) (before after : MemberState) (frames : List Outgoing) (answered : Answer) (lost : Bool) → IsSound old.members old.air → AreMet old.members old.air
    → AllPlain old.members → AreAged old.members old.air → Turns old new (node_of event) before after frames lost → IsReady old.members old.air event bytes before → HasEffect by event bytes before after frames answered
    → AreCasting old.members old.air → AreCasting new.members new.air
casting_after old new by (Restart n) bytes before after frames answered lost sound met plain aged t ready h casts = cast_restarted old new n before after frames lost sound t h.0 h.1 ready casts
casting_after old new by (Call n call) bytes before after frames answered lost sound met plain aged t ready h casts = cast_turned (of_call old new by n call before after frames answered lost sound met plain aged t h) casts
casting_after old new by (Arrive n bearer place) bytes before after frames answered lost sound met plain aged t ready h casts =
    cast_turned (of_arrival old new by n bearer place bytes before after frames answered lost sound met plain aged t ready h) casts

happens_casting : (old new : Stage) (by : By) (event : WorldEvent) (bytes : List ℕ) (answered : Answer) (lost : Bool) → IsSound old.members old.air → AreMet old.members old.air → AllPlain old.members → AreAged old.members old.air
    → (h : Happens old new by event bytes answered lost) → IsReady old.members old.air event bytes h.before → AreCasting old.members old.air → AreCasting new.members new.air
happens_casting old new by event bytes answered lost sound met plain aged h ready casts =
    casting_after old new by event bytes h.before h.after h.frames answered lost sound met plain aged h.turns ready h.does casts

arrival_casting : (old new : Stage) (by : By) (node bearer place : ℕ) (answered : Answer) (lost : Bool) → IsSound old.members old.air → AreMet old.members old.air → AllPlain old.members → AreAged old.members old.air
    → IsArrival old new by node bearer place answered lost → AreCasting old.members old.air → AreCasting new.members new.air
arrival_casting old new by node bearer place answered lost sound met plain aged h casts = case (unarrived old.members old.air node bearer place) refl
  where
    case : (o : Option Answer) → unarrived old.members old.air node bearer place ≡ o → AreCasting new.members new.air
    case (Some why) stops = subst (λ (s : Stage). AreCasting s.members s.air) (sym (h.none why stops).1) casts
    case None free =
        let a = h.arrives free in
        happens_casting old new by (Arrive node bearer place) a.0.frame answered lost sound met plain aged a.2 (a.0, a.1, free, refl) casts

pub becomes_casting : (old new : Stage) (by : By) (event : WorldEvent) (answered : Answer) (lost : Bool) → IsSound old.members old.air → AreMet old.members old.air → AllPlain old.members → AreAged old.members old.air
    → HasNextBoot old.members event → Becomes old by event new answered lost → AreCasting old.members old.air → AreCasting new.members new.air
becomes_casting old new by (Restart node) answered lost sound met plain aged boots h casts =
    happens_casting old new by (Restart node) [] answered lost sound met plain aged h (let next = boots h.before h.turns.was in omega (arith, next)) casts
becomes_casting old new by (Call node call) answered lost sound met plain aged boots h casts = happens_casting old new by (Call node call) [] answered lost sound met plain aged h tt casts
becomes_casting old new by (Arrive node bearer place) answered lost sound met plain aged boots h casts = arrival_casting old new by node bearer place answered lost sound met plain aged h casts
