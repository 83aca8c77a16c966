-- The nodes that are there stay, and what has happened stays.
use Rattle.std.proofs.Common.{◌≡◌, ℕ, false, List, [], Option, Some, None, Result, Ok, Err, slice_index_or, is_some, refl, sym, ap, subst, ◌∙◌, inl, inr}
use Rattle.std.specs.Prelude.{IfErr, IfOk, OnErr, OnOk}
use Rattle.std.proofs.lemmas.Bool.{cases_eq}
use Rattle.std.proofs.lemmas.List.{append-nil}
use Rattle.tipc_types.specs.Prefixes.{IsPrefixOf}
use Rattle.tipc_types.specs.declared.node_calls.Answer.{Answer}
use Rattle.tipc_journal.specs.declared.entries.Entry.{Entry}
use Rattle.tipc_world.specs.declared.faults.Limit.TheVariants as limit
use Rattle.tipc_replay.specs.declared.events.WorldEvent.{WorldEvent}
use Rattle.tipc_world.specs.declared.faults.WorldFault.{WorldFault}
use Rattle.tipc_world.specs.declared.faults.WorldFault.TheVariants as fault
use Rattle.tipc_world.specs.Growth.{Grows}
use Rattle.tipc_world.specs.Limits.{IsAnswered, Stops}
use Rattle.tipc_replay.specs.Skies.{air_on}
use Rattle.tipc_replay.specs.States.{MemberState, history_at, member_at}
use Rattle.tipc_world.specs.States.{WorldState, WorldView, is_there}
use Rattle.tipc_replay.specs.Steps.{stage}
use Rattle.tipc_world.specs.Steps.{by_in, IsJoined, IsStep}
use Rattle.tipc_replay.proofs.Growing.{becomes_grows}
use Rattle.tipc_replay.proofs.Staying.{at_is, becomes_there}
use Rattle.tipc_replay.proofs.LookUps.{history_at-same}

-- a world after an event: the same nodes are there, and it only grew
pub record Stays (old new : WorldState) : Type 0 where
  pub nodes : (n : ℕ) → is_there new n ≡ is_there old n
  pub grown : Grows old new

step_grows : (old new : WorldState) (event : WorldEvent) (answered : Answer) → IsStep old event new answered → Grows old new
step_grows old new event answered h =
    let grown = becomes_grows (stage old.members old.air) (stage new.members new.air) (by_in old.members old.stamps event) event answered h.lost h.becomes in
    record { air = grown.air; histories = grown.histories }

step_stays : (old new : WorldState) (event : WorldEvent) (answered : Answer) → IsStep old event new answered → Stays old new
step_stays old new event answered h = record {
  nodes = λ n. ap is_some (sym (at_is new.members n)) ∙ (becomes_there (stage old.members old.air) (stage new.members new.air) (by_in old.members old.stamps event) event answered h.lost h.becomes n ∙ ap is_some (at_is old.members n));
  grown = step_grows old new event answered h;
}

same_stays : (old new : WorldState) → new ≡ old → Stays old new
same_stays old new same = subst (λ w. Stays old w) (sym same) (record {
  nodes = λ n. refl;
  grown = record { air = λ bearer. ([], sym (append-nil (air_on bearer old.air))); histories = λ n. ([], sym (append-nil (history_at old.members n))) };
})

fault_stays : (old new : WorldState) (event : WorldEvent) (why : WorldFault) → Stops old event new why → Stays old new
fault_stays old new event (fault.Limit limit.Events) h = same_stays old new h.1
fault_stays old new event (fault.Limit limit.Journal) h = same_stays old new h.1
fault_stays old new event (fault.Limit limit.Frames) h = step_stays old new event h.answer h.step
fault_stays old new event fault.NoMemory h = same_stays old new h

-- whatever an event came to
pub stays : (old new : WorldState) (event : WorldEvent) (result : Result Answer WorldFault) → IfOk result (IsAnswered old event new) → IfErr result (Stops old event new) → Stays old new
stays old new event (Ok answered) done failed = step_stays old new event answered done.step
stays old new event (Err why) done failed = fault_stays old new event why failed

-- ---- a node comes in

history_none : (members : List (Option MemberState)) (n : ℕ) → member_at members n ≡ None → history_at members n ≡ []
unfolding history_at
history_none members n none = rw none refl

none_there : (members : List (Option MemberState)) (n : ℕ) → is_some (slice_index_or members n None) ≡ false → slice_index_or members n None ≡ None
none_there members n absent = by (slice_index_or members n None) absent
  where
    by : (o : Option MemberState) → is_some o ≡ false → o ≡ None
    by None e = refl
    by (Some m) e = absurd cc

joined_grows : (old new : WorldState) (n : ℕ) → is_there old n ≡ false → IsJoined old new n → Grows old new
joined_grows old new n absent j = record {
  air = λ bearer. ([], ap (air_on bearer) j.air ∙ sym (append-nil (air_on bearer old.air)));
  histories = λ k. elim (cases_eq k n) [
    | inl same ↦
        let none : history_at old.members k ≡ [] = ap (history_at old.members) same ∙ history_none old.members n (at_is old.members n ∙ none_there old.members n absent) in
        subst (λ (es : List Entry). IsPrefixOf es (history_at new.members k)) (sym none) (history_at new.members k, refl)
    | inr other ↦
        let same = history_at-same old.members new.members k (at_is new.members k ∙ (j.others k other ∙ sym (at_is old.members k))) in
        ([], same ∙ sym (append-nil (history_at old.members k)))
  ];
}

-- whatever adding a node came to
pub joining_grows : {P E : Type 0} (old new : WorldView P) (n : ℕ) (result : Result (Unit {0}) E) → is_there old.state n ≡ false → OnOk result (IsJoined old.state new.state n) → OnErr result (new ≡ old) → Grows old.state new.state
joining_grows old new n (Ok done) absent joined same = joined_grows old.state new.state n absent joined
joining_grows old new n (Err why) absent joined same = (same_stays old.state new.state (ap (λ v. v.state) same)).grown

pub absent_at : (w : WorldState) (n : ℕ) → is_there w n ≡ false → slice_index_or w.members n None ≡ None
absent_at w n absent = none_there w.members n absent
