-- What an event adds to the calls in order of their stamps.
use Rattle.std.proofs.Common.{◌≡◌, ◌+◌, ◌++◌, ◌∷◌, ℕ, Bool, List, [], Option, Some, None, Result, Ok, Err, length, slice_index_or, slice_set, refl, sym, ap, subst, ◌∙◌, arith}
use Rattle.std.specs.Prelude.{IfErr, IfOk, if◌then◌else◌, is_none, option_map, unwrap_or}
use Rattle.tipc_types.specs.declared.node_calls.Answer.{Answer}
use Rattle.tipc_types.specs.declared.node_calls.EventNote.TheVariants as note
use Rattle.tipc_outside.specs.declared.outgoing.Outgoing.{Outgoing}
use Rattle.tipc_pick.specs.Choosing.{Choosing}
use Rattle.tipc_node.specs.Sockets.{kept_answer}
use Rattle.tipc_world.specs.declared.faults.Limit.TheVariants as limit
use Rattle.tipc_replay.specs.declared.events.WorldEvent.{WorldEvent}
use Rattle.tipc_replay.specs.declared.events.WorldEvent.TheVariants.{Restart, Call, Arrive}
use Rattle.tipc_world.specs.declared.faults.WorldFault.{WorldFault}
use Rattle.tipc_world.specs.declared.faults.WorldFault.TheVariants as fault
use Rattle.tipc_world.specs.Answered.{AreOrderly}
use Rattle.tipc_replay.specs.States.{MemberState, arrivals_at}
use Rattle.tipc_replay.specs.Calls.{node_of}
use Rattle.tipc_replay.specs.Effects.{HasEffect}
use Rattle.tipc_replay.specs.Due.{unarrived}
use Rattle.tipc_world.specs.Limits.{IsAnswered, Stops}
use Rattle.tipc_world.specs.Merged.{merged, recorded_by, AddsAtFault, AreMerged, Recorded}
use Rattle.tipc_world.proofs.Advancing.{by_is, next_by, HaveNumbers}
use Rattle.tipc_world.specs.Steps.{by_in, IsStep}
use Rattle.tipc_world.specs.States.{WorldState}
use Rattle.tipc_replay.specs.Steps.{stage, Happens, IsArrival, Stage}
use Rattle.tipc_world.proofs.calls.Adding.{extends_none, extends_one, merged_extends, stay_longer, Extends}
use Rattle.tipc_world.proofs.calls.Merging.{are_merged}
use Rattle.tipc_replay.proofs.calls.Journals.{restart_journals}
use Rattle.tipc_replay.proofs.pairs.PairedEvents.{made_step, met_step}

-- the calls of a numbers world whose calls are in order are merged
pub orderly_merged : {P : Type 0} (gives : P → ℕ → ℕ → ℕ → Type 0) (w : WorldState) (chooser : Choosing P) → HaveNumbers w.members → AreOrderly gives w.members w.stamps chooser → AreMerged w.members w.stamps (merged w)
orderly_merged gives w chooser numbers h = are_merged w (record {
  numbered = λ n m there. (numbers n m there).0;
  rise = λ n boot journal there. (h.numbered n boot journal there).rise;
  below = h.stamped;
  once = h.once;
  every = h.every;
})

-- ---- at one node

-- what an event at this node records, where it happens
abbrev made_at : WorldEvent → MemberState → Answer → List Recorded
made_at (Call node call) m answered = record { node = node; call = call; answer = kept_answer answered } ∷ []
made_at (Arrive node bearer frame) m answered = record { node = node; call = note.Arrive bearer (length m.arrivals); answer = kept_answer answered } ∷ []
made_at other m answered = []

does_extend : (old : List (Option MemberState)) (stamp : ℕ) (event : WorldEvent) (bytes : List ℕ) (m m' : MemberState) (frames : List Outgoing) (answered : Answer) → slice_index_or old (node_of event) None ≡ Some m
    → HasEffect (next_by stamp m) event bytes m m' frames answered → Extends old (slice_set old (node_of event) (Some m')) stamp (made_at event m answered)
does_extend old stamp (Restart a) bytes m m' frames answered was h = extends_none old a stamp m m' was (stay_longer m m' ([] ∷ []) (restart_journals m m' h.0))
does_extend old stamp (Call a call) bytes m m' frames answered was h =
    extends_one old a stamp m m' (made_step (next_by stamp m) call m m' frames answered h) _ was (ap (λ (x : MemberState). x.past) h.after) h.turn.turn.journal h.turn.told_before.whole h.turn.turn.inside refl refl
does_extend old stamp (Arrive a bearer place) bytes m m' frames answered was h =
    extends_one old a stamp m m' (met_step (next_by stamp m) bearer place bytes m m' frames answered h) _ was (ap (λ (x : MemberState). x.past) h.after) h.turn.turn.journal h.turn.told_before.whole h.turn.turn.inside refl
    (ap (λ given. record { node = a; call = note.Arrive bearer (length m.arrivals); answer = given }) (sym (ap kept_answer h.answer_is)))

happens_extend : (old new : Stage) (stamp : ℕ) (event : WorldEvent) (bytes : List ℕ) (answered : Answer) (lost : Bool) (h : Happens old new (by_in old.members stamp event) event bytes answered lost) → Extends old.members new.members stamp (made_at event h.before answered)
happens_extend old new stamp event bytes answered lost h =
    subst (λ ms. Extends old.members ms stamp (made_at event h.before answered)) (sym h.turns.members)
    (does_extend old.members stamp event bytes h.before h.after h.frames answered h.turns.was
    (subst (λ by. HasEffect by event bytes h.before h.after h.frames answered) (by_is old.members stamp event h.before h.turns.was) h.does))

-- ---- at all nodes

-- an arrival that counts
arrival_made : (old : WorldState) (node bearer frame : ℕ) (answered : Answer) (m : MemberState) → slice_index_or old.members node None ≡ Some m → unarrived old.members old.air node bearer frame ≡ None
    → made_at (Arrive node bearer frame) m answered ≡ recorded_by old (Arrive node bearer frame) answered
arrival_made old node bearer frame answered m was due =
    let call : ℕ → List Recorded = λ number. record { node = node; call = note.Arrive bearer number; answer = kept_answer answered } ∷ [] in
    ap call (sym (ap (λ o. length (unwrap_or (option_map (λ (x : MemberState). x.arrivals) o) [])) was))
    ∙ sym (ap (λ t. if is_none t then call (length (arrivals_at old.members node)) else []) due)

-- one that doesn't
no_arrival : (old : WorldState) (node bearer frame : ℕ) (answered why : Answer) → unarrived old.members old.air node bearer frame ≡ Some why → recorded_by old (Arrive node bearer frame) answered ≡ []
no_arrival old node bearer frame answered why none =
    ap (λ t. if is_none t then record { node = node; call = note.Arrive bearer (length (arrivals_at old.members node)); answer = kept_answer answered } ∷ [] else []) none

arrival_extends : (old new : WorldState) (node bearer frame : ℕ) (answered : Answer) (lost : Bool) (why : Option Answer) → unarrived old.members old.air node bearer frame ≡ why
    → IsArrival (stage old.members old.air) (stage new.members new.air) (by_in old.members old.stamps (Arrive node bearer frame)) node bearer frame answered lost → new.stamps ≡ (if is_none why then old.stamps + 1 else old.stamps)
    → Extends old.members new.members old.stamps (recorded_by old (Arrive node bearer frame) answered) × (new.stamps ≡ old.stamps + length (recorded_by old (Arrive node bearer frame) answered))
arrival_extends old new node bearer frame answered lost None due h stamps =
    let arrives = h.arrives due in
    let happens = arrives.2 in
    let made = arrival_made old node bearer frame answered happens.before happens.turns.was due in (
      subst (Extends old.members new.members old.stamps) made (happens_extend (stage old.members old.air) (stage new.members new.air) old.stamps (Arrive node bearer frame) arrives.0.frame answered lost happens),
      stamps ∙ ap (λ calls. old.stamps + length calls) made,
    )
arrival_extends old new node bearer frame answered lost (Some why) due h stamps =
    let same : new.members ≡ old.members = ap (λ (s : Stage). s.members) (h.none why due).1 in
    let none = no_arrival old node bearer frame answered why due in (
      subst (Extends old.members new.members old.stamps) (sym none) (subst (λ ms. Extends old.members ms old.stamps []) (sym same) (record { lasts = λ n boot s stands. stands; more = λ k call there. absurd cc })),
      (let size : length (recorded_by old (Arrive node bearer frame) answered) ≡ 0 = ap length none in omega (arith, stamps, size)),
    )

-- What an event adds to the calls of a world, where they are merged before and after it.
pub event_adds : (old new : WorldState) (event : WorldEvent) (answered : Answer) → AreMerged old.members old.stamps (merged old) → AreMerged new.members new.stamps (merged new) → IsStep old event new answered
    → merged new ≡ merged old ++ recorded_by old event answered
event_adds old new (Restart node) answered before after h =
    let stamps = h.stamps in
    merged_extends old new [] before after (happens_extend (stage old.members old.air) (stage new.members new.air) old.stamps (Restart node) [] answered h.lost h.becomes) (omega (arith, stamps))
event_adds old new (Call node call) answered before after h =
    merged_extends old new (recorded_by old (Call node call) answered) before after (happens_extend (stage old.members old.air) (stage new.members new.air) old.stamps (Call node call) [] answered h.lost h.becomes) h.stamps
event_adds old new (Arrive node bearer frame) answered before after h =
    let arrives = arrival_extends old new node bearer frame answered h.lost (unarrived old.members old.air node bearer frame) refl h.becomes h.stamps in
    merged_extends old new (recorded_by old (Arrive node bearer frame) answered) before after arrives.0 arrives.1

-- ---- whatever an event came to

-- with an answer
pub answer_adds : (old new : WorldState) (event : WorldEvent) (result : Result Answer WorldFault) → AreMerged old.members old.stamps (merged old) → AreMerged new.members new.stamps (merged new) → IfOk result (IsAnswered old event new)
    → IfOk result (λ answered. merged new ≡ merged old ++ recorded_by old event answered)
answer_adds old new event (Ok answered) before after done = event_adds old new event answered before after done.step
answer_adds old new event (Err why) before after done = tt

fault_adds : (old new : WorldState) (event : WorldEvent) (why : WorldFault) → AreMerged old.members old.stamps (merged old) → AreMerged new.members new.stamps (merged new) → Stops old event new why → AddsAtFault old event new why
fault_adds old new event (fault.Limit limit.Events) before after h = ap merged h.1
fault_adds old new event (fault.Limit limit.Journal) before after h = ap merged h.1
fault_adds old new event (fault.Limit limit.Frames) before after h = (h.answer, h.step, event_adds old new event h.answer before after h.step)
fault_adds old new event fault.NoMemory before after h = ap merged h

-- without one
pub stop_adds : (old new : WorldState) (event : WorldEvent) (result : Result Answer WorldFault) → AreMerged old.members old.stamps (merged old) → AreMerged new.members new.stamps (merged new) → IfErr result (Stops old event new)
    → IfErr result (AddsAtFault old event new)
stop_adds old new event (Ok answered) before after failed = tt
stop_adds old new event (Err why) before after failed = fault_adds old new event why before after failed
