-- A run can begin with as many bearers and clocks as there are.
use Rattle.std.proofs.Common.{◌≡◌, ℕ, List, sym, subst}
use Rattle.tipc_node_lock.specs.Locks.{LockState}
use Rattle.tipc_node_lock.specs.Passes.{PassState}
use Rattle.tipc_work.specs.declared.plans.LivePlan.{LivePlan}
use Rattle.tipc_work.specs.Worked.{CanWork}

pub can_begin : (plan : LivePlan) (locks : List LockState) (passes : List (List PassState)) (b b' c c' : ℕ) → CanWork plan locks passes b c → b' ≡ b → c' ≡ c
    → CanWork plan locks passes b' c'
can_begin plan locks passes b b' c c' can bearers clocks =
    subst (λ (t : ℕ × ℕ). CanWork plan locks passes t.0 t.1) (λ j. (sym bearers j, sym clocks j)) can
