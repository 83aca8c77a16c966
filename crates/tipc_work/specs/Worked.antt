-- What a live run needs of its nodes, and what its callers and movers show behind it.
use Rattle.std.specs.Prelude.{◌≡◌, ◌+◌, ◌*◌, ◌<◌, ℕ, Bool, true, List, [], ◌∷◌, length, slice_index_or}
use Rattle.tipc_types.specs.Address.{node_word}
use Rattle.tipc_outside.specs.Causes.{Rose}
use Rattle.tipc_node_lock.specs.Locks.{LockState}
use Rattle.tipc_node_lock.specs.Passes.{PassState}
use Rattle.tipc_work.specs.declared.plans.LivePlan.{LivePlan}
use Rattle.tipc_work.specs.Moved.{HasMoved}
use Rattle.tipc_work.specs.Plans.{IsLivePlan}
use Rattle.tipc_work.specs.Shown.{HasCalled, IsUnusedPass}

-- passes of a node's callers, in order, none of them used
abbrev pub AreCallers : LockState → List PassState → Type 0
AreCallers l passes = (i : ℕ) (p : PassState) → i < length passes → IsUnusedPass l (i + 1) (slice_index_or passes i p)

-- passes of so many callers of a node behind a run, in order
pub record HaveCalled (plan : LivePlan) (node : ℕ) (l : LockState) (count : ℕ) (passes : List PassState) : Type 0 where
  pub same : length passes ≡ count
  pub each : (i : ℕ) (p : PassState) → i < count → HasCalled plan node (i + 1) l (slice_index_or passes i p)

-- the passes of a node's lock before a run: one for each caller, in order, and a last one for the mover, none of them
-- used
pub record AreUnusedPasses (plan : LivePlan) (l : LockState) (passes : List PassState) : Type 0 where
  pub count : length passes ≡ plan.callers + 1
  pub each : AreCallers l passes

-- the passes and the two bearers of a node behind a run, and whether one of these was seen to fail
pub record HasWorked {B : Type 0} (tried given faults : B → ℕ) (plan : LivePlan) (node : ℕ) (l : LockState) (first second : B)
    (passes : List PassState) (failed : Bool) (first' second' : B) : Type 0 where
  pub count : length passes ≡ plan.callers + 1
  pub called : (i : ℕ) (p : PassState) → i < plan.callers → HasCalled plan node (i + 1) l (slice_index_or passes i p)
  pub moved : (p : PassState) → HasMoved tried given faults l (plan.callers + 1) first second
      (slice_index_or passes plan.callers p) failed first' second'

-- what a run needs: a plan, and for each of its nodes in order its lock, its passes, its bearers 0 and 1, and its clock
pub record CanWork (plan : LivePlan) (locks : List LockState) (passes : List (List PassState)) (bearers clocks : ℕ) : Type 0 where
  pub live : IsLivePlan plan
  pub lock_count : length locks ≡ plan.nodes
  pub pass_count : length passes ≡ plan.nodes
  pub bearer_count : bearers ≡ 2 * plan.nodes
  pub clock_count : clocks ≡ plan.nodes
  pub own : (i : ℕ) (l : LockState) → i < plan.nodes → (slice_index_or locks i l).own ≡ node_word (i + 1)
  pub unused : (i : ℕ) (l : LockState) (ps : List PassState) → i < plan.nodes
      → AreUnusedPasses plan (slice_index_or locks i l) (slice_index_or passes i ps)

-- What all nodes' passes and bearers show behind a run, in the same order. Where a bearer was seen to fail, a count of
-- faults rose.
pub record HaveWorked {B : Type 0} (tried given faults : B → ℕ) (plan : LivePlan) (locks : List LockState) (bearers : List B)
    (passes : List (List PassState)) (failed : Bool) (bearers' : List B) : Type 0 where
  pub pass_count : length passes ≡ plan.nodes
  pub bearer_count : length bearers' ≡ 2 * plan.nodes
  pub each : (i : ℕ) (l : LockState) (b : B) (ps : List PassState) → i < plan.nodes
      → (seen : Bool) × HasWorked tried given faults plan (i + 1) (slice_index_or locks i l) (slice_index_or bearers (2 * i) b)
      (slice_index_or bearers (2 * i + 1) b) (slice_index_or passes i ps) seen (slice_index_or bearers' (2 * i) b)
      (slice_index_or bearers' (2 * i + 1) b)
  pub rose : failed ≡ true → (b : B) → (k : ℕ) × (k < 2 * plan.nodes)
      × Rose (faults (slice_index_or bearers k b)) (faults (slice_index_or bearers' k b))

-- ---- for each node

-- the bearers of several nodes, two for each
abbrev pub bearers_of : {B : Type 0} → List (B × B) → List B
bearers_of [] = []
bearers_of ((first, second) ∷ others) = first ∷ second ∷ bearers_of others

-- the node at a place can work
pub record CanWorkAt (plan : LivePlan) (locks : List LockState) (place : ℕ) (passes : List PassState) : Type 0 where
  pub live : IsLivePlan plan
  pub among : (place < length locks) × (place < 8)
  pub unused : (l : LockState) → AreUnusedPasses plan (slice_index_or locks place l) passes

-- the node at a place has worked
abbrev pub HasWorkedAt : {B : Type 0} → (B → ℕ) → (B → ℕ) → (B → ℕ) → LivePlan → List LockState → ℕ → B → B → List PassState → Bool → B → B → Type 0
HasWorkedAt tried given faults plan locks place first second passes failed first' second' = (l : LockState)
    → HasWorked tried given faults plan (place + 1) (slice_index_or locks place l) first second passes failed first' second'
