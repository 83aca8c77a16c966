-- The nodes that are there stay, through every event.
use Rattle.std.proofs.Common.{◌≡◌, ℕ, Bool, List, [], Option, Some, None, Result, Ok, Err, slice_index_or, slice_set, is_some, refl, sym, ap, subst, ◌∙◌, inl, inr}
use Rattle.std.specs.Prelude.{IfOk, OnErr}
use Rattle.std.proofs.lemmas.Bool.{cases_eq}
use Rattle.tipc_types.specs.declared.node_calls.Answer.{Answer}
use Rattle.tipc_types.specs.declared.node_calls.By.{By}
use Rattle.tipc_replay.specs.declared.events.WorldEvent.{WorldEvent}
use Rattle.tipc_replay.specs.declared.events.WorldEvent.TheVariants.{Restart, Call, Arrive}
use Rattle.tipc_node.specs.declared.steps.NodeFault.{NodeFault}
use Rattle.tipc_replay.specs.declared.replays.Happened.{Happened}
use Rattle.tipc_replay.specs.Calls.{node_of}
use Rattle.tipc_replay.specs.Due.{unarrived}
use Rattle.tipc_replay.specs.Growth.{StageGrows}
use Rattle.tipc_replay.specs.States.{MemberState, ReplayState, has_member, member_at}
use Rattle.tipc_replay.specs.Steps.{stage, Becomes, Happens, IsArrival, IsReplayStep, Stage}
use Rattle.tipc_replay.proofs.Growing.{becomes_grows, stage_same}
use Rattle.tipc_replay.proofs.LookUps.{member_at-changed, member_at-other}

-- the same nodes are there
abbrev pub SameThere : List (Option MemberState) → List (Option MemberState) → Type 0
SameThere old new = (n : ℕ) → is_some (member_at new n) ≡ is_some (member_at old n)

pub at_is : (members : List (Option MemberState)) (n : ℕ) → member_at members n ≡ slice_index_or members n None
unfolding member_at
at_is members n = refl

happens_there : (old new : Stage) (by : By) (event : WorldEvent) (bytes : List ℕ) (answered : Answer) (lost : Bool) → Happens old new by event bytes answered lost → SameThere old.members new.members
happens_there old new by event bytes answered lost h n = subst (λ ms. is_some (member_at ms n) ≡ is_some (member_at old.members n)) (sym h.turns.members) (elim (cases_eq n (node_of event)) [
  | inl same ↦
      let changed = member_at-changed old.members (node_of event) h.before h.after h.turns.was in
      let was : member_at old.members (node_of event) ≡ Some h.before = at_is old.members (node_of event) ∙ h.turns.was in
      ap (λ k. is_some (member_at (slice_set old.members (node_of event) (Some h.after)) k)) same ∙ (ap is_some changed ∙ (sym (ap is_some was) ∙ ap (λ k. is_some (member_at old.members k)) (sym same)))
  | inr other ↦ ap is_some (member_at-other old.members (node_of event) n h.after other)
])

arrival_there : (old new : Stage) (by : By) (node bearer place : ℕ) (answered : Answer) (lost : Bool) (why : Option Answer) → unarrived old.members old.air node bearer place ≡ why → IsArrival old new by node bearer place answered lost
    → SameThere old.members new.members
arrival_there old new by node bearer place answered lost (Some why) e h n = ap (λ (s : Stage). is_some (member_at s.members n)) (h.none why e).1
arrival_there old new by node bearer place answered lost None e h n = let arrives = h.arrives e in happens_there old new by (Arrive node bearer place) arrives.0.frame answered lost arrives.2 n

pub becomes_there : (old new : Stage) (by : By) (event : WorldEvent) (answered : Answer) (lost : Bool) → Becomes old by event new answered lost → SameThere old.members new.members
becomes_there old new by (Arrive node bearer place) answered lost h = arrival_there old new by node bearer place answered lost _ refl h
becomes_there old new by (Restart node) answered lost h = happens_there old new by (Restart node) [] answered lost h
becomes_there old new by (Call node call) answered lost h = happens_there old new by (Call node call) [] answered lost h

-- ---- whatever an event came to

-- the same nodes are there, and they and the air only grew
pub record Stays (old new : ReplayState) : Type 0 where
  pub nodes : (n : ℕ) → has_member new.members n ≡ has_member old.members n
  pub grown : StageGrows (stage old.members old.air) (stage new.members new.air)

same_stays : (old new : ReplayState) → new ≡ old → Stays old new
same_stays old new same = record {
  nodes = λ n. ap (λ (r : ReplayState). has_member r.members n) same;
  grown = stage_same (stage old.members old.air) (stage new.members new.air) (ap (λ (r : ReplayState). stage r.members r.air) same);
}

step_stays : (old new : ReplayState) (by : By) (event : WorldEvent) (answered : Answer) → IsReplayStep old by event new answered → Stays old new
step_stays old new by event answered h = record {
  nodes = λ n. ap is_some (sym (at_is new.members n)) ∙ (becomes_there (stage old.members old.air) (stage new.members new.air) by event answered h.lost h.becomes n ∙ ap is_some (at_is old.members n));
  grown = becomes_grows (stage old.members old.air) (stage new.members new.air) by event answered h.lost h.becomes;
}

pub stays : (C : Type 0) (old new : ReplayState) (by : By) (event : WorldEvent) (result : Result Happened NodeFault) → IfOk result (λ h. IsReplayStep old by event new h.answer) → OnErr result ((new ≡ old) × C) → Stays old new
stays C old new by event (Ok h) done failed = step_stays old new by event h.answer done
stays C old new by event (Err why) done failed = same_stays old new failed.0
