-- A world only grows.
use Rattle.std.proofs.Common.{◌≡◌, ◌==◌, ◌++◌, ℕ, Bool, true, false, if◌then◌else◌, List, [], Option, Some, None, inl, inr, take, slice_index_or, slice_set, refl, sym, ap, subst, ◌∙◌, append-nil}
use Rattle.std.proofs.lemmas.Bool.{cases_eq}
use Rattle.tipc_types.specs.Prefixes.{IsPrefixOf}
use Rattle.tipc_types.specs.declared.node_calls.Answer.{Answer}
use Rattle.tipc_types.specs.declared.node_calls.By.{By}
use Rattle.tipc_outside.specs.declared.outgoing.Outgoing.{Outgoing}
use Rattle.tipc_journal.specs.Steps.{step_entries}
use Rattle.tipc_replay.specs.declared.events.WorldEvent.{WorldEvent}
use Rattle.tipc_replay.specs.declared.events.WorldEvent.TheVariants.{Restart, Call, Arrive}
use Rattle.tipc_replay.specs.Air.{Leaves, leaving_on, with_leaving}
use Rattle.tipc_replay.specs.Skies.{AirState, air_on}
use Rattle.tipc_replay.specs.Calls.{node_of}
use Rattle.tipc_replay.specs.Effects.{HasEffect}
use Rattle.tipc_replay.specs.Due.{unarrived}
use Rattle.tipc_replay.specs.Growth.{StageGrows}
use Rattle.tipc_replay.specs.States.{MemberState, contact_at, history, history_at}
use Rattle.tipc_replay.specs.Steps.{Becomes, Happens, IsArrival, Stage}
use Rattle.tipc_replay.proofs.frames.Released.{came}
use Rattle.tipc_replay.proofs.LookUps.{history_at-is, history_at-same, member_at-changed, member_at-is, member_at-other}
use Rattle.tipc_replay.proofs.streams.Histories.{history_restarted}
use Rattle.tipc_replay.proofs.pairs.PairedEvents.{made_step, made_turn, met_step, met_turn}
use Rattle.tipc_replay.proofs.pairs.PairedTurns.{turn_history}

pub prefix_same : {A : Type 0} (xs ys : List A) → ys ≡ xs → IsPrefixOf xs ys
prefix_same xs ys same = ([], same ∙ sym (append-nil xs))

-- all that ever happened at a node
does_grow : (by : By) (event : WorldEvent) (bytes : List ℕ) (m m' : MemberState) (frames : List Outgoing) (answered : Answer) → HasEffect by event bytes m m' frames answered → IsPrefixOf (history m) (history m')
does_grow by (Restart node) bytes m m' frames answered h = prefix_same (history m) (history m') (history_restarted m m' h.0)
does_grow by (Call node call) bytes m m' frames answered h = (step_entries (made_step by call m m' frames answered h), turn_history m m' [] _ frames (made_turn by call m m' frames answered h))
does_grow by (Arrive node bearer place) bytes m m' frames answered h = (step_entries (met_step by bearer place bytes m m' frames answered h), turn_history m m' bytes _ frames (met_turn by bearer place bytes m m' frames answered h))

pub stage_same : (old new : Stage) → new ≡ old → StageGrows old new
stage_same old new same = record {
  air = λ bearer. prefix_same (air_on bearer old.air) (air_on bearer new.air) (ap (λ (s : Stage). air_on bearer s.air) same);
  histories = λ n. prefix_same (history_at old.members n) (history_at new.members n) (ap (λ (s : Stage). history_at s.members n) same);
}

-- a node was written
put_grows : (members : List (Option MemberState)) (a : ℕ) (m m' : MemberState) → slice_index_or members a None ≡ Some m → IsPrefixOf (history m) (history m')
    → (n : ℕ) → IsPrefixOf (history_at members n) (history_at (slice_set members a (Some m')) n)
put_grows members a m m' was longer n =
    let members' = slice_set members a (Some m') in
    elim (cases_eq n a) [
      | inl same ↦
          let old = history_at-is members a m (member_at-is members a m was) in
          let new = history_at-is members' a m' (member_at-changed members a m m' was) in
          let here : IsPrefixOf (history_at members a) (history_at members' a) = subst (λ es. IsPrefixOf es (history_at members' a)) (sym old) (subst (λ es. IsPrefixOf (history m) es) (sym new) longer) in
          subst (λ k. IsPrefixOf (history_at members k) (history_at members' k)) (sym same) here
      | inr other ↦ prefix_same (history_at members n) (history_at members' n) (history_at-same members members' n (member_at-other members a n m' other))
    ]

-- on each bearer, as frames come there behind all others
leaves_grow : (old new : AirState) (met : ℕ → Option (ℕ × ℕ)) (members : List (Option MemberState)) (a : ℕ) (frames : List Outgoing) (lost : Bool) → Leaves old new met members a frames lost → (bearer : ℕ) → IsPrefixOf (air_on bearer old) (air_on bearer new)
leaves_grow old new met members a frames lost l bearer = subst (λ air. IsPrefixOf (air_on bearer old) (air_on bearer air)) (sym front.1) (by (bearer == 0) (bearer == 1))
  where
    front : (count : ℕ) × (new ≡ with_leaving old met members a (take count frames))
    front = came old new met members a frames lost l

    by : (s t : Bool) → IsPrefixOf (if s then old.first else (if t then old.second else []))
        (if s then old.first ++ leaving_on 0 met members a (take front.0 frames) else (if t then old.second ++ leaving_on 1 met members a (take front.0 frames) else []))
    by true t = (leaving_on 0 met members a (take front.0 frames), refl)
    by false true = (leaving_on 1 met members a (take front.0 frames), refl)
    by false false = ([], refl)

pub happens_grows : (old new : Stage) (by : By) (event : WorldEvent) (bytes : List ℕ) (answered : Answer) (lost : Bool) → Happens old new by event bytes answered lost → StageGrows old new
happens_grows old new by event bytes answered lost h = record {
  air = λ bearer. leaves_grow old.air new.air (contact_at old.members (node_of event)) new.members (node_of event) h.frames lost h.turns.leaves bearer;
  histories = λ n. subst (λ ms. IsPrefixOf (history_at old.members n) (history_at ms n)) (sym h.turns.members)
      (put_grows old.members (node_of event) h.before h.after h.turns.was (does_grow by event bytes h.before h.after h.frames answered h.does) n);
}

arrival_grows : (old new : Stage) (by : By) (node bearer place : ℕ) (answered : Answer) (lost : Bool) → IsArrival old new by node bearer place answered lost → StageGrows old new
arrival_grows old new by node bearer place answered lost h = case (unarrived old.members old.air node bearer place) refl
  where
    case : (r : Option Answer) → unarrived old.members old.air node bearer place ≡ r → StageGrows old new
    case None due = let a = h.arrives due in happens_grows old new by (Arrive node bearer place) (a.0).frame answered lost a.2
    case (Some why) stays = stage_same old new (h.none why stays).1

pub becomes_grows : (old new : Stage) (by : By) (event : WorldEvent) (answered : Answer) (lost : Bool) → Becomes old by event new answered lost → StageGrows old new
becomes_grows old new by (Arrive node bearer place) answered lost h = arrival_grows old new by node bearer place answered lost h
becomes_grows old new by event answered lost h = happens_grows old new by event [] answered lost h
