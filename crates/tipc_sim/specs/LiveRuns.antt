-- What a live run leaves, what is found of it, and how it ends.
use Rattle.std.specs.Prelude.{◌≡◌, ◌⊎◌, ◌+◌, ◌*◌, ◌<◌, ℕ, Bool, true, false, List, Option, length, map, slice_index_or, take}
use Rattle.std.specs.Io.KnownBytes.{Appends}
use Rattle.tipc_types.specs.Address.{node_word}
use Rattle.tipc_outside.specs.Causes.{Rose}
use Rattle.tipc_node_lock.specs.Locked.{LockedState}
use Rattle.tipc_node_lock.specs.Locks.{LockState, is_one_per_caller}
use Rattle.tipc_node_lock.specs.Passes.{PassState}
use Rattle.tipc_live.specs.declared.answers.Audit.{Audit}
use Rattle.tipc_live.specs.declared.answers.Audit.TheVariants as audit
use Rattle.tipc_live.specs.Auditing.{Audits}
use Rattle.tipc_live.specs.Gathering.{GatheredState}
use Rattle.tipc_report.specs.declared.live.Verdict.{Verdict}
use Rattle.tipc_report.specs.declared.live.Verdict.TheVariants as verdict
use Rattle.tipc_work.specs.declared.plans.LivePlan.{LivePlan}
use Rattle.tipc_work.specs.Worked.{HaveWorked}
use Rattle.tipc_sim.specs.declared.status.Status.{Status}
use Rattle.tipc_sim.specs.declared.status.Status.TheVariants as status
use Rattle.tipc_sim.specs.LivePlans.{AllShowPlan, IsFirstUnshown}
use Rattle.tipc_sim.specs.LiveReports.{live_report}
use Rattle.tipc_sim.specs.Output.{AppendsPart}

-- nodes 1, 2 and so on, in order
abbrev pub AreNodesInOrder : {P : Type 0} → List (LockedState P) → Type 0
AreNodesInOrder {P} nodes = (i : ℕ) (n : LockedState P) → i < length nodes → (slice_index_or nodes i n).node.own ≡ node_word (i + 1)

-- there are passes beside each lock, one for each of its callers
pub record AreOnePerCaller (locks : List LockState) (passes : List (List PassState)) : Type 0 where
  pub count : length passes ≡ length locks
  pub each : (i : ℕ) (l : LockState) (ps : List PassState) → i < length locks
      → is_one_per_caller (slice_index_or locks i l).own (slice_index_or locks i l).callers (slice_index_or passes i ps) ≡ true

-- What a run leaves: the passes of the nodes show what the plan's callers and movers did, of nodes 1, 2 and so on, and
-- what became of the bearers, and whether one of these was seen to fail.
pub record IsLeftByRun {P B : Type 0} (tried given faults : B → ℕ) (plan : LivePlan) (bearers : List B) (nodes : List (LockedState P)) (failed : Bool)
    (bearers' : List B) : Type 0 where
  pub locks : List LockState
  pub count : length locks ≡ plan.nodes
  pub own : (i : ℕ) (l : LockState) → i < plan.nodes → (slice_index_or locks i l).own ≡ node_word (i + 1)
  pub worked : HaveWorked tried given faults plan locks bearers (map (λ n. n.passes) nodes) failed bearers'

-- What is gathered of a run of a plan, which takes the first two bearers for each node: its nodes in order, and what it
-- left.
pub record HasRun {P B : Type 0} (tried given faults : B → ℕ) (plan : LivePlan) (bearers : List B) (g : GatheredState P B) (failed : Bool) : Type 0 where
  pub nodes : length g.nodes ≡ plan.nodes
  pub own : AreNodesInOrder g.nodes
  pub left : IsLeftByRun tried given faults plan (take (2 * plan.nodes) bearers) g.nodes failed g.bearers

-- how an audit's answer is told, where the plan isn't looked for
abbrev pub verdict_of : Audit → Verdict
verdict_of (audit.Twice stamp) = verdict.Twice stamp
verdict_of (audit.Told node caller call) = verdict.Told node caller call
verdict_of (audit.NoFrame node number) = verdict.NoFrame node number
verdict_of (audit.TooOld node number count) = verdict.TooOld node number count
verdict_of (audit.Differ node place kept replayed) = verdict.Differ node place
verdict_of audit.Yes = verdict.Yes

-- What is found of what is gathered. The audit's answer is told as it is; where that is Yes, the plan is looked for in
-- the journals.
abbrev pub Finds : {P B : Type 0} → (P → ℕ → ℕ → ℕ → Type 0) → LivePlan → GatheredState P B → Verdict → Type 0
Finds gives plan g verdict.Yes = Audits gives g.nodes g.replay audit.Yes × AllShowPlan plan g.nodes
Finds gives plan g (verdict.Plan node) = Audits gives g.nodes g.replay audit.Yes × IsFirstUnshown plan g.nodes node
Finds gives plan g found = (answer : Audit) × (found ≡ verdict_of answer) × Audits gives g.nodes g.replay answer

-- how a run ends whose report was written, by what was found, and whether a bearer was seen to fail
abbrev pub live_status : Verdict → Bool → Status
live_status verdict.Yes false = status.Ok
live_status verdict.Yes true = status.BearerFault
live_status other failed = status.Differ

-- the statuses of a run that was gathered and audited, and whose report was begun
abbrev pub HasEnded : Status → Type 0
HasEnded s = (s ≡ status.Ok) ⊎ ((s ≡ status.BearerFault) ⊎ ((s ≡ status.Differ) ⊎ (s ≡ status.WriteFault)))

-- the statuses of a live run
abbrev pub IsLiveStatus : Status → Type 0
IsLiveStatus s = (s ≡ status.Usage) ⊎ ((s ≡ status.NoMemory) ⊎ HasEnded s)

-- The report was written whole, and the status tells what was found; or a part was written, since the sink failed.
abbrev pub TellsRun : Status → Verdict → Bool → Option (List ℕ) → Option (List ℕ) → List ℕ → Type 0
TellsRun s found failed before after report =
    ((s ≡ live_status found failed) × Appends before after report) ⊎ ((s ≡ status.WriteFault) × AppendsPart before after report)

-- What a run of a plan came to that was gathered and audited.
pub record ComesTo {P B : Type 0} (tried given faults : B → ℕ) (gives : P → ℕ → ℕ → ℕ → Type 0) (plan : LivePlan) (bearers : List B)
    (g : GatheredState P B) (s : Status) (before after : Option (List ℕ)) : Type 0 where
  pub failed : Bool
  pub ran : HasRun tried given faults plan bearers g failed
  pub found : Verdict
  pub finds : Finds gives plan g found
  pub told : TellsRun s found failed before after (live_report plan g.nodes found)

-- nothing was written, or a part of the report of what is gathered
abbrev pub StopsShort : {P B : Type 0} → (P → ℕ → ℕ → ℕ → Type 0) → LivePlan → GatheredState P B → Option (List ℕ) → Option (List ℕ) → Type 0
StopsShort gives plan g before after =
    (after ≡ before) ⊎ ((found : Verdict) × Finds gives plan g found × AppendsPart before after (live_report plan g.nodes found))

-- the count of faults of one of a run's bearers rose
abbrev pub HasFailed : {B : Type 0} → (B → ℕ) → LivePlan → List B → List B → Type 0
HasFailed {B} faults plan bearers bearers' =
    (b : B) → (k : ℕ) × (k < 2 * plan.nodes) × Rose (faults (slice_index_or bearers k b)) (faults (slice_index_or bearers' k b))
