-- What the passes of callers show before a live run and behind it.
use Rattle.std.specs.Prelude.{◌≡◌, ◌⊎◌, ℕ, true, false, List, [], map}
use Rattle.tipc_types.specs.declared.node_calls.Answer.{Answer}
use Rattle.tipc_types.specs.declared.node_calls.EventNote.{EventNote}
use Rattle.tipc_node_lock.specs.declared.passes.MadeCall.{MadeCall}
use Rattle.tipc_node_lock.specs.Locks.{IsPassOf, LockState}
use Rattle.tipc_node_lock.specs.Passes.{PassState}
use Rattle.tipc_work.specs.declared.plans.LivePlan.{LivePlan}
use Rattle.tipc_work.specs.Plans.{ShowsCaller}

-- the calls that a pass made, with their answers
abbrev pub calls_made : List MadeCall → List (EventNote × Answer)
calls_made made = map (λ m. (m.call, m.answer)) made

-- a pass of a lock and of a caller that made no call, drew no stamp and was handed no frame
pub record IsUnusedPass (l : LockState) (number : ℕ) (p : PassState) : Type 0 where
  pub pass : IsPassOf l p
  pub caller : p.caller ≡ number
  pub made : p.made ≡ []
  pub drawn : p.seat.drawn ≡ []
  pub handed : p.handed ≡ 0

-- a pass of a lock and of a caller that never was short of memory
pub record IsUsedPass (l : LockState) (number : ℕ) (p : PassState) : Type 0 where
  pub pass : IsPassOf l p
  pub caller : p.caller ≡ number
  pub memory : p.short ≡ false

-- a caller's pass behind a run: it shows the caller's part of the plan, or is marked full
pub record HasCalled (plan : LivePlan) (node caller : ℕ) (l : LockState) (p : PassState) : Type 0 where
  pub used : IsUsedPass l caller p
  pub shows : (p.full ≡ true) ⊎ ShowsCaller plan node caller (calls_made p.made)
