-- The two jobs of a node's crew, and what was done by each.
use Rattle.std.specs.Prelude.{◌≡◌, ◌<◌, ◌≤◌, ℕ, List, length, slice_index_or}
use Rattle.tipc_node_lock.specs.Locks.{LockState}
use Rattle.tipc_work.specs.declared.crews.Done.{Done}
use Rattle.tipc_work.specs.declared.crews.Done.TheVariants.{Called, Carried}
use Rattle.tipc_work.specs.declared.crews.Job.{Job}
use Rattle.tipc_work.specs.declared.crews.Job.TheVariants.{Call, Carry}
use Rattle.tipc_work.specs.declared.plans.LivePlan.{LivePlan}
use Rattle.tipc_work.specs.Moved.{HasMoved}
use Rattle.tipc_work.specs.Shown.{IsUnusedPass}
use Rattle.tipc_work.specs.Worked.{AreCallers, HaveCalled}

-- a job of a node: its passes are those of the callers, or its pass is the mover's, and unused
abbrev pub IsJobOf : {B C : Type 0} → LivePlan → LockState → Job B C → Type 0
IsJobOf plan l (Call passes) = AreCallers l passes.items × (length passes.items ≡ plan.callers) × (length passes.items ≤ 8)
IsJobOf plan l (Carry pass first second clock) = IsUnusedPass l pass.caller pass

-- a job was done: the callers followed the plan, or the mover carried frames
abbrev pub HasDone : {B C : Type 0} → (B → ℕ) → (B → ℕ) → (B → ℕ) → LivePlan → ℕ → LockState
    → Job B C → Done B → Type 0
HasDone tried given faults plan node l (Call passes) (Called after) = HaveCalled plan node l plan.callers after.items
HasDone tried given faults plan node l (Carry pass first second clock) (Carried m) =
    HasMoved tried given faults l pass.caller first second m.pass m.failed m.first m.second
HasDone tried given faults plan node l (Call passes) (Carried m) = ⊥
HasDone tried given faults plan node l (Carry pass first second clock) (Called after) = ⊥

-- jobs were done, in order
pub record HaveDone {B C : Type 0} (tried given faults : B → ℕ) (plan : LivePlan) (node : ℕ) (l : LockState)
    (jobs : List (Job B C)) (done : List (Done B)) : Type 0 where
  pub len : length done ≡ length jobs
  pub each : (i : ℕ) (x : Job B C) (a : Done B) → i < length jobs
      → HasDone tried given faults plan node l (slice_index_or jobs i x) (slice_index_or done i a)
