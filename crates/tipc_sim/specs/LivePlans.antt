-- Journals show the plan of a live run.
use Rattle.std.specs.Prelude.{◌≡◌, ◌⊎◌, ◌+◌, ◌<◌, ◌≤◌, ℕ, Bool, nat_lt, true, false, List, length, slice_index_or}
use Rattle.tipc_types.specs.declared.node_calls.Answer.{Answer}
use Rattle.tipc_types.specs.declared.node_calls.EventNote.{EventNote}
use Rattle.tipc_journal.specs.declared.entries.Entry.{Entry}
use Rattle.tipc_journal.specs.Room.{has_journal_room}
use Rattle.tipc_node_lock.specs.Locked.{LockedState}
use Rattle.tipc_node_lock.specs.Passes.{PassState}
use Rattle.tipc_live.specs.Calls.{steps_by}
use Rattle.tipc_report.specs.declared.live.Verdict.{Verdict}
use Rattle.tipc_report.specs.declared.live.Verdict.TheVariants as verdict
use Rattle.tipc_work.specs.declared.plans.LivePlan.{LivePlan}
use Rattle.tipc_work.specs.Plans.{IsLivePlan, ShowsCaller, ShowsMover}
use Rattle.tipc_work.specs.Shown.{calls_made}

-- the calls of a caller that a journal tells, with their answers, in order
abbrev pub calls_told : List Entry → ℕ → List (EventNote × Answer)
calls_told journal caller = calls_made (steps_by caller journal)

-- A node's journal shows the plan: the calls of each of its callers show that one's part, and those of its mover, who
-- is the caller behind the others, show the mover's.
pub record ShowsPlan (plan : LivePlan) (node : ℕ) (journal : List Entry) : Type 0 where
  pub callers : (caller : ℕ) → 1 ≤ caller → caller ≤ plan.callers → ShowsCaller plan node caller (calls_told journal caller)
  pub mover : ShowsMover (calls_told journal (plan.callers + 1))

-- ---- by the passes

-- a pass shows the mover's part of the plan, or its caller's
abbrev pub ShowsBy : Bool → LivePlan → ℕ → PassState → Type 0
ShowsBy true plan node p = ShowsMover (calls_made p.made)
ShowsBy false plan node p = ShowsCaller plan node p.caller (calls_made p.made)

-- a pass of a node shows its caller's part of the plan: the mover's is the one behind those of the callers
abbrev pub ShowsPart : LivePlan → ℕ → PassState → Type 0
ShowsPart plan node p = ShowsBy (nat_lt plan.callers p.caller) plan node p

-- The passes of a node: one for each caller and a last one for the mover, in order, and each shows its part of the plan
-- or is marked full.
pub record HaveParts (plan : LivePlan) (node : ℕ) (passes : List PassState) : Type 0 where
  pub count : length passes ≡ plan.callers + 1
  pub callers : (i : ℕ) (p : PassState) → i < length passes → (slice_index_or passes i p).caller ≡ i + 1
  pub shown : (i : ℕ) (p : PassState) → i < length passes
      → ((slice_index_or passes i p).full ≡ true) ⊎ ShowsPart plan node (slice_index_or passes i p)

-- so it is at all nodes of a plan
pub record HavePasses {P : Type 0} (plan : LivePlan) (nodes : List (LockedState P)) : Type 0 where
  pub live : IsLivePlan plan
  pub count : length nodes ≡ plan.nodes
  pub each : (i : ℕ) (n : LockedState P) → i < length nodes → HaveParts plan (i + 1) (slice_index_or nodes i n).passes

-- ---- all nodes

-- the journals of all nodes, which count from 1, show the plan
abbrev pub AllShowPlan : {P : Type 0} → LivePlan → List (LockedState P) → Type 0
AllShowPlan {P} plan nodes = (i : ℕ) (n : LockedState P) → i < length nodes → ShowsPlan plan (i + 1) (slice_index_or nodes i n).node.journal

-- the journal of this node, which has no room for a call, doesn't show the plan; those of the nodes before it do
pub record IsFirstUnshown {P : Type 0} (plan : LivePlan) (nodes : List (LockedState P)) (node : ℕ) : Type 0 where
  pub place : ℕ
  pub is : node ≡ place + 1
  pub within : place < length nodes
  pub before : (i : ℕ) (n : LockedState P) → i < place → ShowsPlan plan (i + 1) (slice_index_or nodes i n).node.journal
  pub unshown : (n : LockedState P) → ShowsPlan plan node (slice_index_or nodes place n).node.journal → ⊥
  pub full : (n : LockedState P) → has_journal_room (slice_index_or nodes place n).node.journal ≡ false

-- what is found where the plan is looked for in the journals of all nodes
abbrev pub FindsPlan : {P : Type 0} → LivePlan → List (LockedState P) → Verdict → Type 0
FindsPlan plan nodes verdict.Yes = AllShowPlan plan nodes
FindsPlan plan nodes (verdict.Plan node) = IsFirstUnshown plan nodes node
FindsPlan plan nodes other = ⊥
