-- What passes and journals show of the plan of a live run.
use Rattle.std.specs.List.{All}
use Rattle.std.specs.Prelude.{Err, IfOk, Ok, Result, nat_lt, slice_index_or}
use Rattle.std.proofs.Common.{◌≡◌, ◌⊎◌, inl, inr, ℕ, ◌+◌, ◌-◌, ◌*◌, ◌<◌, ◌≤◌, Bool, true, false, arith, List, [], ◌∷◌, length, map, refl, sym, subst, take, ◌∙◌}
use Rattle.std.proofs.lemmas.Bool.Decides.{nat_tests}
use Rattle.std.proofs.lemmas.List.{get_or-map, get_or-take, get_or_default}
use Rattle.tipc_journal.specs.declared.entries.Entry.{Entry}
use Rattle.tipc_journal.specs.Room.{has_journal_room}
use Rattle.tipc_outside.specs.Causes.{Rose}
use Rattle.tipc_node_lock.specs.Locked.{LockedState}
use Rattle.tipc_node_lock.specs.Locks.{LockState}
use Rattle.tipc_node_lock.specs.Passes.{PassState}
use Rattle.tipc_live.specs.declared.answers.Audit.{Audit}
use Rattle.tipc_live.specs.declared.answers.Audit.TheVariants as audit
use Rattle.tipc_live.specs.Auditing.{Audits}
use Rattle.tipc_live.specs.Gathering.{GatheredState}
use Rattle.tipc_live.specs.Calls.{steps_by}
use Rattle.tipc_live.specs.Telling.{AllTellTrue, TellsTrue}
use Rattle.tipc_report.specs.declared.live.Verdict.{Verdict}
use Rattle.tipc_report.specs.declared.live.Verdict.TheVariants as verdict
use Rattle.tipc_work.specs.declared.plans.LivePlan.{LivePlan}
use Rattle.tipc_work.specs.Plans.{IsLivePlan, ShowsCaller, ShowsMover}
use Rattle.tipc_work.specs.Shown.{calls_made}
use Rattle.tipc_work.specs.Worked.{HasWorked, HaveWorked}
use Rattle.tipc_sim.specs.LivePlans.{AllShowPlan, FindsPlan, HaveParts, HavePasses, IsFirstUnshown, ShowsBy, ShowsPart, ShowsPlan}
use Rattle.tipc_sim.specs.LiveRuns.{AreNodesInOrder, Finds, HasEnded, HasFailed, HasRun, IsLeftByRun, live_status, verdict_of}
use Rattle.tipc_sim.specs.Steps.{IsWriteStatus}
use Rattle.tipc_sim.specs.declared.status.Status.{Status}
use Rattle.tipc_sim.specs.declared.status.Status.TheVariants as status

-- ---- the parts of a node's passes

-- what a pass shows, by its caller's number
pub part_of_caller : (plan : LivePlan) (node : ℕ) (p : PassState) → p.caller ≤ plan.callers → ShowsCaller plan node p.caller (calls_made p.made) → ShowsPart plan node p
part_of_caller plan node p few s =
    let test : nat_lt plan.callers p.caller ≡ false = grind (arith, nat_tests) in
    subst (λ b. ShowsBy b plan node p) (sym test) s

pub caller_of_part : (plan : LivePlan) (node : ℕ) (p : PassState) → p.caller ≤ plan.callers → ShowsPart plan node p → ShowsCaller plan node p.caller (calls_made p.made)
caller_of_part plan node p few s =
    let test : nat_lt plan.callers p.caller ≡ false = grind (arith, nat_tests) in
    subst (λ b. ShowsBy b plan node p) test s

pub part_of_mover : (plan : LivePlan) (node : ℕ) (p : PassState) → plan.callers < p.caller → ShowsMover (calls_made p.made) → ShowsPart plan node p
part_of_mover plan node p more s =
    let test : nat_lt plan.callers p.caller ≡ true = grind (arith, nat_tests) in
    subst (λ b. ShowsBy b plan node p) (sym test) s

pub mover_of_part : (plan : LivePlan) (node : ℕ) (p : PassState) → plan.callers < p.caller → ShowsPart plan node p → ShowsMover (calls_made p.made)
mover_of_part plan node p more s =
    let test : nat_lt plan.callers p.caller ≡ true = grind (arith, nat_tests) in
    subst (λ b. ShowsBy b plan node p) test s

-- ---- a node's journal and its passes

-- where each pass shows its part, and tells what is so, the journal shows the plan
pub plan_of_parts : (plan : LivePlan) (node : ℕ) (passes : List PassState) (journal : List Entry) → HaveParts plan node passes → All (TellsTrue journal) passes
    → All (ShowsPart plan node) passes → ShowsPlan plan node journal
plan_of_parts plan node [] journal h told shown = let count = h.count in absurd (omega (arith, count))
plan_of_parts plan node (d ∷ ds) journal h told shown = record {
  callers = λ caller one few.
      let count = h.count in
      let inside : caller - 1 < length (d ∷ ds) = omega (arith, one, few, count) in
      let p : PassState = slice_index_or (d ∷ ds) (caller - 1) d in
      let number : p.caller ≡ caller = h.callers (caller - 1) d inside ∙ omega (arith, one) in
      let s = caller_of_part plan node p (omega (arith, number, few)) (shown (caller - 1) d inside) in
      subst (λ k. ShowsCaller plan node k (calls_made (steps_by k journal))) number
      (subst (λ m. ShowsCaller plan node p.caller (calls_made m)) (told (caller - 1) d inside).calls s);
  mover =
      let count = h.count in
      let inside : plan.callers < length (d ∷ ds) = omega (arith, count) in
      let p : PassState = slice_index_or (d ∷ ds) plan.callers d in
      let number : p.caller ≡ plan.callers + 1 = h.callers plan.callers d inside in
      let s = mover_of_part plan node p (omega (arith, number)) (shown plan.callers d inside) in
      subst (λ k. ShowsMover (calls_made (steps_by k journal))) number (subst (λ m. ShowsMover (calls_made m)) (told plan.callers d inside).calls s);
}

-- and where it shows the plan, each pass shows its part
pub parts_of_plan : (plan : LivePlan) (node : ℕ) (passes : List PassState) (journal : List Entry) → HaveParts plan node passes → All (TellsTrue journal) passes
    → ShowsPlan plan node journal → All (ShowsPart plan node) passes
parts_of_plan plan node passes journal h told shown i d less =
    elim (nat_lt i plan.callers) as (λ b. nat_lt i plan.callers ≡ b → ShowsPart plan node (slice_index_or passes i d)) [
      | true ↦ λ test.
          let below : i < plan.callers = grind (arith, nat_tests) in
          let few : (slice_index_or passes i d).caller ≤ plan.callers = omega (arith, number, below) in
          part_of_caller plan node (slice_index_or passes i d) few
          (subst (λ m. ShowsCaller plan node (slice_index_or passes i d).caller (calls_made m)) (sym (told i d less).calls)
          (shown.callers (slice_index_or passes i d).caller (omega (arith, number)) few))
      | false ↦ λ test.
          let above : plan.callers ≤ i = grind (arith, nat_tests) in
          let count = h.count in
          let last : (slice_index_or passes i d).caller ≡ plan.callers + 1 = omega (arith, number, above, less, count) in
          part_of_mover plan node (slice_index_or passes i d) (omega (arith, last))
          (subst (λ m. ShowsMover (calls_made m)) (sym (told i d less).calls)
          (subst (λ k. ShowsMover (calls_made (steps_by k journal))) (sym last) shown.mover))
    ] refl
  where
    number : (slice_index_or passes i d).caller ≡ i + 1
    number = h.callers i d less

-- a journal that doesn't show the plan has no room: else no pass is marked full, and each shows its part
pub full_of_unshown : (plan : LivePlan) (node : ℕ) (passes : List PassState) (journal : List Entry) → HaveParts plan node passes → All (TellsTrue journal) passes
    → (All (ShowsPart plan node) passes → ⊥) → has_journal_room journal ≡ false
full_of_unshown plan node passes journal h told none = by (has_journal_room journal) refl
  where
    shown : has_journal_room journal ≡ true → (i : ℕ) (d : PassState) (less : i < length passes) → ShowsPart plan node (slice_index_or passes i d)
    shown room i d less = from (h.shown i d less)
      where
        from : ((slice_index_or passes i d).full ≡ true) ⊎ ShowsPart plan node (slice_index_or passes i d) → ShowsPart plan node (slice_index_or passes i d)
        from (inl full) = let no = (told i d less).full full in absurd cc
        from (inr s) = s

    by : (b : Bool) → has_journal_room journal ≡ b → has_journal_room journal ≡ false
    by false is = is
    by true is = absurd (none (shown is))

-- ---- behind a run

called_part : (plan : LivePlan) (node : ℕ) (p : PassState) (k : ℕ) → p.caller ≡ k → k ≤ plan.callers → (p.full ≡ true) ⊎ ShowsCaller plan node k (calls_made p.made)
    → (p.full ≡ true) ⊎ ShowsPart plan node p
called_part plan node p k is few (inl full) = inl full
called_part plan node p k is few (inr s) =
    inr (part_of_caller plan node p (omega (arith, is, few)) (subst (λ c. ShowsCaller plan node c (calls_made p.made)) (sym is) s))

moved_part : (plan : LivePlan) (node : ℕ) (p : PassState) → p.caller ≡ plan.callers + 1 → (p.full ≡ true) ⊎ ShowsMover (calls_made p.made) → (p.full ≡ true) ⊎ ShowsPart plan node p
moved_part plan node p is (inl full) = inl full
moved_part plan node p is (inr s) = inr (part_of_mover plan node p (omega (arith, is)) s)

-- the passes of one node
parts_of_work : {B : Type 0} (tried given faults : B → ℕ) (plan : LivePlan) (node : ℕ) (l : LockState) (first second : B) (passes : List PassState) (failed : Bool) (first' second' : B)
    → HasWorked tried given faults plan node l first second passes failed first' second' → HaveParts plan node passes
parts_of_work tried given faults plan node l first second passes failed first' second' w = record {
  count = w.count;
  callers = λ i p less. by i p less (λ k q. q.caller ≡ k + 1) (λ below. (w.called i p below).used.caller) (w.moved p).used.caller;
  shown = λ i p less. by i p less (λ k q. (q.full ≡ true) ⊎ ShowsPart plan node q)
      (λ below. called_part plan node (slice_index_or passes i p) (i + 1) (w.called i p below).used.caller (omega (arith, below)) (w.called i p below).shows)
      (moved_part plan node (slice_index_or passes plan.callers p) (w.moved p).used.caller (w.moved p).shows);
}
  where
    by : (i : ℕ) (p : PassState) → i < length passes → (Q : ℕ → PassState → Type 0) → (i < plan.callers → Q i (slice_index_or passes i p))
        → Q plan.callers (slice_index_or passes plan.callers p) → Q i (slice_index_or passes i p)
    by i p less Q caller mover = elim (nat_lt i plan.callers) as (λ b. nat_lt i plan.callers ≡ b → Q i (slice_index_or passes i p)) [
      | true ↦ λ test. caller (grind (arith, nat_tests))
      | false ↦ λ test.
          let above : plan.callers ≤ i = grind (arith, nat_tests) in
          let count = w.count in
          let same : plan.callers ≡ i = omega (arith, above, less, count) in subst (λ k. Q k (slice_index_or passes k p)) same mover
    ] refl

-- those of all nodes
pub passes_of_run : {P B : Type 0} (tried given faults : B → ℕ) (plan : LivePlan) (bearers : List B) (g : GatheredState P B) (failed : Bool) → IsLivePlan plan
    → HasRun tried given faults plan bearers g failed → HavePasses plan g.nodes
passes_of_run {P} {B} tried given faults plan bearers g failed live h = record {
  live = live;
  count = h.nodes;
  each = λ i n less. by h.left.locks h.left.count g.bearers h.left.worked.bearer_count h.left.worked i n (let same = h.nodes in omega (arith, same, less)) less;
}
  where
    by : (locks : List LockState) → length locks ≡ plan.nodes → (left : List B) → length left ≡ 2 * plan.nodes
        → HaveWorked tried given faults plan locks (take (2 * plan.nodes) bearers) (map (λ (n : LockedState P). n.passes) g.nodes) failed left
        → (i : ℕ) (n : LockedState P) → i < plan.nodes → i < length g.nodes → HaveParts plan (i + 1) (slice_index_or g.nodes i n).passes
    by [] none left some w i n inside less = absurd (omega (arith, none, inside))
    by (l ∷ ls) count [] none w i n inside less = absurd (omega (arith, none, inside))
    by (l ∷ ls) count (b ∷ bs) some w i n inside less =
        let one = w.each i l b n.passes inside in
        subst (HaveParts plan (i + 1)) (get_or-map (λ (m : LockedState P). m.passes) g.nodes i n n.passes less) (parts_of_work tried given faults plan (i + 1) _ _ _ _ one.0 _ _ one.1)

-- where a bearer was seen to fail, a count of faults rose
pub failed_of_run : {P B : Type 0} (tried given faults : B → ℕ) (plan : LivePlan) (bearers : List B) (g : GatheredState P B) (failed : Bool) → failed ≡ true
    → HasRun tried given faults plan bearers g failed → HasFailed faults plan bearers g.bearers
failed_of_run tried given faults plan bearers g failed seen h b =
    let rose = h.left.worked.rose seen b in (
      rose.0,
      rose.1,
      subst (λ x. Rose (faults x) (faults (slice_index_or g.bearers rose.0 b))) (get_or-take (2 * plan.nodes) bearers rose.0 b rose.1) rose.2,
    )

-- it is the same run where the nodes and the bearers stay
pub still_run : {P B : Type 0} (tried given faults : B → ℕ) (plan : LivePlan) (bearers : List B) (g g' : GatheredState P B) (failed : Bool) → g'.nodes ≡ g.nodes → g'.bearers ≡ g.bearers
    → HasRun tried given faults plan bearers g failed → HasRun tried given faults plan bearers g' failed
still_run {P} {B} tried given faults plan bearers g g' failed nodes left h = record {
  nodes = subst (λ (ns : List (LockedState P)). length ns ≡ plan.nodes) (sym nodes) h.nodes;
  own = subst (λ (ns : List (LockedState P)). AreNodesInOrder ns) (sym nodes) h.own;
  left =
      subst (λ (ns : List (LockedState P)). IsLeftByRun tried given faults plan (take (2 * plan.nodes) bearers) ns failed g'.bearers) (sym nodes)
      (subst (λ (bs : List B). IsLeftByRun tried given faults plan (take (2 * plan.nodes) bearers) g.nodes failed bs) (sym left) h.left);
}

-- ---- how it ends

-- only where a bearer was seen to fail it ends so
pub seen_fault : (found : Verdict) (failed : Bool) → live_status found failed ≡ status.BearerFault → failed ≡ true
seen_fault verdict.Yes false is = absurd cc
seen_fault verdict.Yes true is = refl
seen_fault other failed is = absurd cc

-- a run that ended so, where the report wasn't written whole
pub write_ended : (s : Status) → IsWriteStatus s → HasEnded s → s ≡ status.WriteFault
write_ended status.WriteFault unwritten ended = refl
write_ended status.NoMemory unwritten (inl is) = absurd cc
write_ended status.NoMemory unwritten (inr (inl is)) = absurd cc
write_ended status.NoMemory unwritten (inr (inr (inl is))) = absurd cc
write_ended status.NoMemory unwritten (inr (inr (inr is))) = absurd cc
write_ended other unwritten ended = absurd unwritten

-- ---- node after node

-- the journals of the first nodes, so many of them, show the plan
pub record ShowSoFar {P : Type 0} (plan : LivePlan) (nodes : List (LockedState P)) (count : ℕ) : Type 0 where
  pub each : (i : ℕ) (n : LockedState P) → i < count → ShowsPlan plan (i + 1) (slice_index_or nodes i n).node.journal

pub shown_none : {P : Type 0} (plan : LivePlan) (nodes : List (LockedState P)) → ShowSoFar plan nodes 0
shown_none plan nodes = record { each = λ i n less. absurd (omega (arith, less)) }

parts_at : {P : Type 0} (plan : LivePlan) (nodes : List (LockedState P)) (k : ℕ) (one : LockedState P) → HavePasses plan nodes → k < length nodes → one ≡ slice_index_or nodes k one
    → HaveParts plan (k + 1) one.passes
parts_at {P} plan nodes k one h inside read = subst (λ (m : LockedState P). HaveParts plan (k + 1) m.passes) (sym read) (h.each k one inside)

told_at : {P : Type 0} (nodes : List (LockedState P)) (k : ℕ) (one : LockedState P) → All AllTellTrue nodes → k < length nodes → one ≡ slice_index_or nodes k one
    → All (TellsTrue one.node.journal) one.passes
told_at {P} nodes k one told inside read = subst (λ (m : LockedState P). All (TellsTrue m.node.journal) m.passes) (sym read) (told k one inside)

pub shown_more : {P : Type 0} (plan : LivePlan) (nodes : List (LockedState P)) (k : ℕ) (one : LockedState P) → HavePasses plan nodes → All AllTellTrue nodes
    → ShowSoFar plan nodes k → k < length nodes → one ≡ slice_index_or nodes k one → All (ShowsPart plan (k + 1)) one.passes → ShowSoFar plan nodes (k + 1)
shown_more {P} plan nodes k one h told before inside read shown = record {
  each = λ i n less. elim (nat_lt i k) as (λ b. nat_lt i k ≡ b → ShowsPlan plan (i + 1) (slice_index_or nodes i n).node.journal) [
    | true ↦ λ test. before.each i n (grind (arith, nat_tests))
    | false ↦ λ test.
        let above : k ≤ i = grind (arith, nat_tests) in
        let same : k ≡ i = omega (arith, above, less) in
        subst (λ j. ShowsPlan plan (j + 1) (slice_index_or nodes j n).node.journal) same
        (subst (λ (m : LockedState P). ShowsPlan plan (k + 1) m.node.journal) (read ∙ get_or_default nodes k one n inside)
        (plan_of_parts plan (k + 1) one.passes one.node.journal (parts_at plan nodes k one h inside read) (told_at nodes k one told inside read) shown))
  ] refl;
}

-- the first that doesn't
pub first_unshown : {P : Type 0} (plan : LivePlan) (nodes : List (LockedState P)) (k : ℕ) (one : LockedState P) → HavePasses plan nodes → All AllTellTrue nodes
    → ShowSoFar plan nodes k → k < length nodes → one ≡ slice_index_or nodes k one → (All (ShowsPart plan (k + 1)) one.passes → ⊥) → IsFirstUnshown plan nodes (k + 1)
first_unshown {P} plan nodes k one h told before inside read none = record {
  place = k;
  is = refl;
  within = inside;
  before = before.each;
  unshown = λ n shown. none (parts_of_plan plan (k + 1) one.passes one.node.journal parts tells
      (subst (λ (m : LockedState P). ShowsPlan plan (k + 1) m.node.journal) (get_or_default nodes k n one inside ∙ sym read) shown));
  full = λ n. subst (λ (m : LockedState P). has_journal_room m.node.journal ≡ false) (read ∙ get_or_default nodes k one n inside)
      (full_of_unshown plan (k + 1) one.passes one.node.journal parts tells none);
}
  where
    parts : HaveParts plan (k + 1) one.passes
    parts = parts_at plan nodes k one h inside read

    tells : All (TellsTrue one.node.journal) one.passes
    tells = told_at nodes k one told inside read

pub shown_all : {P : Type 0} (plan : LivePlan) (nodes : List (LockedState P)) (k : ℕ) → length nodes ≤ k → ShowSoFar plan nodes k → AllShowPlan plan nodes
shown_all plan nodes k over h i n less = h.each i n (omega (arith, over, less))

-- ---- what is found

-- where the audit's answer is Yes, what is found of the plan is what is found
finds_plan : {P B : Type 0} (gives : P → ℕ → ℕ → ℕ → Type 0) (plan : LivePlan) (g : GatheredState P B) (found : Verdict) → Audits gives g.nodes g.replay audit.Yes
    → FindsPlan plan g.nodes found → Finds gives plan g found
finds_plan gives plan g verdict.Yes audited finds = (audited, finds)
finds_plan gives plan g (verdict.Plan node) audited finds = (audited, finds)
finds_plan gives plan g other audited finds = absurd finds

-- only the answer Yes is told so
yes_alone : (answer : Audit) → verdict_of answer ≡ verdict.Yes → answer ≡ audit.Yes
yes_alone audit.Yes is = refl
yes_alone (audit.Twice stamp) is = absurd cc
yes_alone (audit.Told node caller call) is = absurd cc
yes_alone (audit.NoFrame node number) is = absurd cc
yes_alone (audit.TooOld node number count) is = absurd cc
yes_alone (audit.Differ node place kept replayed) is = absurd cc

-- so it is where anything is found of the plan, and the answer is told as Yes
pub finds_if : {P B E : Type 0} (gives : P → ℕ → ℕ → ℕ → Type 0) (plan : LivePlan) (g : GatheredState P B) (nodes : List (LockedState P)) (answer : Audit) (r : Result Verdict E) → nodes ≡ g.nodes
    → Audits gives g.nodes g.replay answer → verdict_of answer ≡ verdict.Yes → IfOk r (FindsPlan plan nodes) → IfOk r (Finds gives plan g)
finds_if gives plan g nodes answer (Ok found) same audited is finds =
    finds_plan gives plan g found (subst (Audits gives g.nodes g.replay) (yes_alone answer is) audited) (subst (λ ns. FindsPlan plan ns found) same finds)
finds_if gives plan g nodes answer (Err why) same audited is finds = tt

-- another answer than Yes is what is found
pub finds_answer : {P B : Type 0} (gives : P → ℕ → ℕ → ℕ → Type 0) (plan : LivePlan) (g : GatheredState P B) (answer : Audit) → Audits gives g.nodes g.replay answer
    → (verdict_of answer ≡ verdict.Yes → ⊥) → Finds gives plan g (verdict_of answer)
finds_answer gives plan g audit.Yes audited other = absurd (other refl)
finds_answer gives plan g (audit.Twice stamp) audited other = (audit.Twice stamp, refl, audited)
finds_answer gives plan g (audit.Told node caller call) audited other = (audit.Told node caller call, refl, audited)
finds_answer gives plan g (audit.NoFrame node number) audited other = (audit.NoFrame node number, refl, audited)
finds_answer gives plan g (audit.TooOld node number count) audited other = (audit.TooOld node number count, refl, audited)
finds_answer gives plan g (audit.Differ node place kept replayed) audited other = (audit.Differ node place kept replayed, refl, audited)
