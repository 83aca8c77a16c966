-- What shows an answer at a step.
use Rattle.std.specs.List.{All, Contains}
use Rattle.std.specs.Prelude.{Option, Some, None, slice_get, slice_index_or}
use Rattle.std.proofs.Common.{◌≡◌, ◌≢◌, ◌⊎◌, inl, inr, ℕ, ◌+◌, ◌<◌, Bool, true, false, arith, List, length, refl, sym, subst, ◌∙◌, ap, get_or-set_same, get_or-set_other}
use Rattle.std.proofs.lemmas.Bool.{cases_eq}
use Rattle.std.proofs.lemmas.Option.{get_or_from_slice_get, slice_get_within}
use Rattle.tipc_types.specs.declared.node_calls.EventNote.TheVariants.{Arrive}
use Rattle.tipc_journal.specs.declared.entries.Entry.{Entry}
use Rattle.tipc_journal.specs.Counting.{stamps}
use Rattle.tipc_journal.specs.Room.{has_journal_room}
use Rattle.tipc_journal.specs.Steps.{PlacedStep, steps}
use Rattle.tipc_node_lock.specs.Locked.{LockedState}
use Rattle.tipc_replay.specs.States.{MemberState, ReplayState}
use Rattle.tipc_replay.proofs.LookUps.{place_within}
use Rattle.tipc_live.specs.declared.keeping.KeptStep.{KeptStep}
use Rattle.tipc_live.specs.Auditing.{DiffersAt, IsStepOf, StopsAt}
use Rattle.tipc_live.specs.Differing.{DifferFirst}
use Rattle.tipc_live.specs.Following.{HasFollowed, HasNoOther, IsKeptOf, IsMadeAt, IsMadeBelow, IsMadeTo}
use Rattle.tipc_live.specs.Nodes.{can_audit, locked_number}
use Rattle.tipc_live.proofs.Followed.{one_place}
use Rattle.tipc_live.proofs.Running.{run_more}
use Rattle.tipc_live.proofs.Stepping.{StepsSo, have_still, made_still}

-- what stands at a place is in the list
contains_at : (xs : List PlacedStep) (i : ℕ) (p : PlacedStep) → slice_get xs i ≡ Some p → Contains xs p
contains_at xs i p there = (i, slice_get_within xs i p there, get_or_from_slice_get xs i p p there)

-- the kept step is one of its node's
pub step_of_kept : {P : Type 0} (nodes : List (LockedState P)) (k : KeptStep) (kept : IsKeptOf nodes k) → IsStepOf nodes (locked_number kept.node) k.node kept.node kept.placed
step_of_kept nodes k kept = record { there = kept.there; number_is = refl; stands = contains_at (steps kept.node.node.journal) kept.index kept.placed kept.stands }

-- the stamp of a kept step is that of its step
pub stamp_of_kept : {P : Type 0} (nodes : List (LockedState P)) (k : KeptStep) (kept : IsKeptOf nodes k) → k.by.stamp ≡ kept.placed.step.by.stamp
stamp_of_kept nodes k kept = ap (λ (x : KeptStep). x.by.stamp) kept.is

-- ---- a step that was made

-- the replay made the step of the node, too
pub made_to : {P : Type 0} (gives : P → ℕ → ℕ → ℕ → Type 0) (n : LockedState P) (old new : ReplayState) (number : ℕ) (p : PlacedStep) (m : MemberState) (sent : Bool) → IsMadeBelow gives old.air p.step.by.stamp n m
    → (s : StepsSo gives n old new number p.step.by p.step.event m sent) → IsMadeTo gives new.air p n s.after
made_to gives n old new number p m sent h s = record {
  run = run_more gives n m s.after s.step h.run s.records (subst (λ b. All (λ x. x < b.stamp) (stamps m.node.journal)) (sym s.by_is) h.front.below) s.picked;
  front = m.node.journal;
  front_is = h.front;
  count = length m.arrivals;
  heard = λ k a less there. (have_still old.air new.air m.arrivals n.heard s.grows h.heard).each k a (sym (s.before k less) ∙ there);
  made = s.step;
  by = s.by_is;
  event = s.event_is;
  journal = s.records.journal;
  heard_last = s.last;
  last = s.few;
}

-- what it gives isn't what is kept
pub shows_difference : {P : Type 0} (gives : P → ℕ → ℕ → ℕ → Type 0) (nodes : List (LockedState P)) (old new : ReplayState) (k : KeptStep) (kept : IsKeptOf nodes k) (m : MemberState) (sent : Bool)
    (place : ℕ) (entry : Entry) (other : Option Entry) → can_audit nodes ≡ true → (f : HasFollowed gives nodes old k.by.stamp)
    → slice_index_or old.members (locked_number kept.node) None ≡ Some m → IsMadeBelow gives old.air k.by.stamp kept.node m
    → (s : StepsSo gives kept.node old new (locked_number kept.node) kept.placed.step.by kept.placed.step.event m sent)
    → DifferFirst kept.node.node.journal s.after.node.journal (length kept.placed.before) (length kept.placed.before + 1 + length kept.placed.step.inside) place entry other
    → DiffersAt gives nodes new (locked_number kept.node) place entry other
shows_difference {P} gives nodes old new k kept m sent place entry other can f was made s d = record {
  index = k.node;
  locked = kept.node;
  step = kept.placed;
  step_is = step_of_kept nodes k kept;
  inside = d.low;
  kept_is = d.entry_is;
  member = s.after;
  member_is = ap (λ ms. slice_index_or ms (locked_number kept.node) None) s.members ∙ get_or-set_same old.members (locked_number kept.node) (Some s.after) None (place_within old.members (locked_number kept.node) m was);
  others = others;
  alone = alone;
  cause = inl (record { made = made_to gives kept.node old new (locked_number kept.node) kept.placed m sent (subst (λ t. IsMadeBelow gives old.air t kept.node m) (stamp_of_kept nodes k kept) made) s; differs = d });
}
  where
    elsewhere : (x : ℕ) → (x ≡ locked_number kept.node → ⊥) → slice_index_or new.members x None ≡ slice_index_or old.members x None
    elsewhere x apart = ap (λ ms. slice_index_or ms x None) s.members ∙ get_or-set_other old.members (locked_number kept.node) x (Some s.after) None apart

    others : (x : ℕ) → x ≢ k.node → IsMadeAt gives nodes new kept.placed.step.by.stamp x
    others x apart n there =
        let was_made = f.each x n there in (
          was_made.0,
          elsewhere (locked_number n) (λ is. apart (one_place nodes x k.node n kept.node can there kept.there (sym is))) ∙ was_made.1,
          subst (λ t. IsMadeBelow gives new.air t n was_made.0) (stamp_of_kept nodes k kept) (made_still gives old.air new.air k.by.stamp n was_made.0 s.grows was_made.2),
        )

    alone : HasNoOther nodes new
    alone x y there = by (cases_eq x (locked_number kept.node))
      where
        by : (x ≡ locked_number kept.node) ⊎ (x ≡ locked_number kept.node → ⊥) → (index : ℕ) × (n : LockedState P) × (slice_get nodes index ≡ Some n) × (locked_number n ≡ x)
        by (inl is) = (k.node, kept.node, kept.there, sym is)
        by (inr apart) = f.alone x y (sym (elsewhere x apart) ∙ there)

-- ---- a step that wasn't made

-- the replay's journal has no room for the step
pub shows_full : {P : Type 0} (gives : P → ℕ → ℕ → ℕ → Type 0) (nodes : List (LockedState P)) (replay : ReplayState) (k : KeptStep) (kept : IsKeptOf nodes k) (m : MemberState) (entry : Entry)
    → (f : HasFollowed gives nodes replay k.by.stamp) → slice_index_or replay.members (locked_number kept.node) None ≡ Some m → IsMadeBelow gives replay.air k.by.stamp kept.node m
    → has_journal_room m.node.journal ≡ false → slice_get kept.node.node.journal (length kept.placed.before) ≡ Some entry
    → DiffersAt gives nodes replay (locked_number kept.node) (length kept.placed.before) entry None
shows_full gives nodes replay k kept m entry f was made full is = record {
  index = k.node;
  locked = kept.node;
  step = kept.placed;
  step_is = step_of_kept nodes k kept;
  inside = omega arith;
  kept_is = is;
  member = m;
  member_is = was;
  others = λ x apart. (subst (HasFollowed gives nodes replay) (stamp_of_kept nodes k kept) f).each x;
  alone = f.alone;
  cause = inr (record { run = made.run; full = full; place_is = refl; nothing = refl }, subst (HasFollowed gives nodes replay) (stamp_of_kept nodes k kept) f);
}

-- an arrival has nothing that could arrive, or something that is too old
pub stops_at : {P : Type 0} (gives : P → ℕ → ℕ → ℕ → Type 0) (nodes : List (LockedState P)) (replay : ReplayState) (k : KeptStep) (kept : IsKeptOf nodes k) (bearer number : ℕ) (bytes : List ℕ)
    → HasFollowed gives nodes replay k.by.stamp → kept.placed.step.event ≡ Arrive bearer number → slice_get kept.node.heard number ≡ Some bytes
    → StopsAt gives nodes replay (locked_number kept.node) number bearer bytes
stops_at gives nodes replay k kept bearer number bytes f event heard = record {
  place = k.node;
  locked = kept.node;
  step = kept.placed;
  step_is = step_of_kept nodes k kept;
  event = event;
  heard = heard;
  follows = subst (HasFollowed gives nodes replay) (stamp_of_kept nodes k kept) f;
}
